use Rattle.gg_compile_needs.proofs.laws.elements_are_small.Goals as goal
use Rattle.gg_compile_needs.proofs.Values.{elements_are_small}

pub returns : goal.returns
returns c = elements_are_small
