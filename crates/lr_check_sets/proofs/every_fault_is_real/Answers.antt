use Rattle.lr_check_sets.proofs.every_fault_is_real.Goals as goal
use Rattle.lr_check_sets.proofs.Real as Laws

pub returns : goal.returns
returns c = Laws.every_fault_is_real
