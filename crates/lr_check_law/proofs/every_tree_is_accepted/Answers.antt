use Rattle.lr_check_law.proofs.every_tree_is_accepted.Goals as goal
use Rattle.lr_check_law.proofs.Law as Laws

pub returns : goal.returns
returns c = Laws.every_tree_is_accepted
