use Rattle.lr_check_sets.proofs.closed_is_enough.Goals as goal
use Rattle.lr_check_sets.proofs.Closing as Laws

pub returns : goal.returns
returns c = Laws.closed_is_enough
