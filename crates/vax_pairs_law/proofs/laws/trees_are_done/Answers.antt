use Rattle.vax_pairs_law.proofs.Doing.{trees_are_done}
use Rattle.vax_pairs_law.proofs.laws.trees_are_done.Goals as goal

pub returns : goal.returns
returns c = trees_are_done
