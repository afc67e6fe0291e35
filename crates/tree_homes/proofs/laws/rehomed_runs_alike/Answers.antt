use Rattle.tree_homes.proofs.Running as laws
use Rattle.tree_homes.proofs.laws.rehomed_runs_alike.Goals as goal

pub returns : goal.returns
returns c = laws.rehomed_runs_alike
