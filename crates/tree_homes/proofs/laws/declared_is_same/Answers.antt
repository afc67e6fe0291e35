use Rattle.tree_homes.proofs.Choices as laws
use Rattle.tree_homes.proofs.laws.declared_is_same.Goals as goal

pub returns : goal.returns
returns c = laws.declared_is_same
