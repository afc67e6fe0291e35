use Rattle.lr_check_found.specs.lr_check_sets.specs.Automaton.{shift}
use Rattle.lr_check_ways.proofs.Choosing.{free_there}
use Rattle.lr_check_ways.proofs.ways.is_shifted.Goals as goal

pub returns : goal.returns
returns c = λ u is.
    let h = c.some_shift.ensures c.rules-rules.result.now u in
    free_there c.args.tables.now c.args.state c.args.token _ _ _ c.description.ensures c.rules-rules.ensures c.action.ensures.value c.free_choices.result.now
    c.free_choices.ensures shift h.0 h.1.0 h.1.1
