use Rattle.lr_checked.proofs.laws.no_fault_is_enough.Goals as goal
use Rattle.lr_checked.proofs.Law as Laws

pub returns : goal.returns
returns c = Laws.no_fault_is_enough
