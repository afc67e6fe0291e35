use Rattle.gg_compile_homes.proofs.Law as laws
use Rattle.gg_compile_homes.proofs.laws.rehomed_trees_fit_code.Goals as goal

pub returns : goal.returns
returns c = laws.rehomed_trees_fit_code
