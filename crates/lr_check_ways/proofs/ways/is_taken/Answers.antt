use Rattle.lr_check_ways.proofs.Choosing.{taken_there}
use Rattle.lr_check_ways.proofs.ways.is_taken.Goals as goal

pub returns : goal.returns
returns c = λ u. taken_there c.args.tables.now c.args.state c.args.token _ _ _ c.description.ensures c.rules-rules.ensures c.action.ensures.value c.free_choices.result.now
    c.free_choices.ensures c.args.reduction.now (c.some_makes.ensures u)
