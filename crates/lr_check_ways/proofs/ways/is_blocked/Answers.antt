use Rattle.std.proofs.Common.{true≢false, sym, ◌∙◌}
use Rattle.std.proofs.lemmas.Bool.{not-true}
use Rattle.lr_check_ways.proofs.Choosing.{block_here}
use Rattle.lr_check_ways.proofs.ways.is_blocked.Goals as goal

pub returns : goal.returns
returns c = λ u can.
    absurd (true≢false (sym (c.can_block.ensures.blocks (block_here c.args.tables.now c.args.state c.args.token _ _ _ c.description.ensures c.rules.ensures c.action.ensures.value can)) ∙ not-true _ u))
