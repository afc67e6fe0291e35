use Rattle.lr_check_ways.proofs.Choosing.{free_here}
use Rattle.lr_check_ways.proofs.ways.is_whole_at.Goals as goal

pub returns : goal.returns
returns c = λ u k free.
    let h = free_here c.args.tables.now c.args.state c.args.token _ _ _ c.description.ensures c.rules-rules.ensures c.action.ensures.value c.free_choices.result.now
    c.free_choices.ensures k free in
    c.all_among.ensures u h.0 h.1.0 k h.1.1
