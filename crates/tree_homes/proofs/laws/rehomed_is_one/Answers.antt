use Rattle.tree_homes.proofs.Choices as laws
use Rattle.tree_homes.proofs.laws.rehomed_is_one.Goals as goal

pub returns : goal.returns
returns c = laws.rehomed_is_one
