use Rattle.std.proofs.Common.{◌<◌, ℕ, ◌∙◌, ap₂, arith, length, List, [], Option, None, Bool}
use Rattle.std.proofs.lemmas.List.{get_or_read}
use Rattle.lr_tables.specs.Rows.{cell, reductions}
use Rattle.lr_tables.proofs.RowTurns.{actions_none, actions_turn}
use Rattle.lr_tables.proofs.rows.actions.Goals as goal

pub loop-token-init : goal.loop-token-init
loop-token-init c = c.new-actions.ensures.items ∙ actions_none _ _ _ _

pub loop-token-preserved : goal.loop-token-preserved
loop-token-preserved c =
    let n = c.loop-token.token in
    let a : n < length c.args.targets.now = omega (arith, c.requires.wide, c.loop-token-test.true) in
    let b : n < length c.args.follows.now = omega (arith, c.requires.follows, c.loop-token-test.true) in
    c.in_ok-push.ensures.items ∙ actions_turn _ _ _ _ n _ _ c.loop-token.invariant
    (c.from_vec.ensures ∙ c.in_ok-choices.ensures ∙ ap₂ (λ (x : Option ℕ) (y : List Bool). cell n x (reductions c.args.rules.now y c.args.kernel.now))
    (get_or_read c.args.targets.now n c.index-targets-token.result a c.index-targets-token.is None)
    (get_or_read c.args.follows.now n c.index-follows-token.result b c.index-follows-token.is []))
