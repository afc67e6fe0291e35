use Rattle.tree_homes.proofs.Running as laws
use Rattle.tree_homes.proofs.laws.rehomed_follows.Goals as goal

pub returns : goal.returns
returns c = laws.rehomed_follows
