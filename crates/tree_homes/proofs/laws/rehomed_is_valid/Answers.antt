use Rattle.tree_homes.proofs.Validity as laws
use Rattle.tree_homes.proofs.laws.rehomed_is_valid.Goals as goal

pub returns : goal.returns
returns c = laws.rehomed_is_valid
