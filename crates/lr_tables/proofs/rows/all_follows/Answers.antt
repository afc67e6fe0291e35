use Rattle.std.proofs.Common.{◌∙◌}
use Rattle.lr_tables.proofs.RowTurns.{follows_none, follows_turn}
use Rattle.lr_tables.proofs.rows.all_follows.Goals as goal

pub loop-token-init : goal.loop-token-init
loop-token-init c = c.new-follows.ensures.items ∙ follows_none _ _ _

pub loop-token-preserved : goal.loop-token-preserved
loop-token-preserved c = c.in_ok-push.ensures.items ∙ follows_turn _ _ _ c.loop-token.token _ _ c.loop-token.invariant c.in_ok-follow.ensures
