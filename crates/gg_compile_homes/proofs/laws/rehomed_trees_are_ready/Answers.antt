use Rattle.gg_compile_homes.proofs.Law as laws
use Rattle.gg_compile_homes.proofs.laws.rehomed_trees_are_ready.Goals as goal

pub returns : goal.returns
returns c = laws.rehomed_trees_are_ready
