use Rattle.lr_check_sets.proofs.every_sum_has_its_tree.Goals as goal
use Rattle.lr_check_sets.proofs.Own_trees as Laws

pub returns : goal.returns
returns c = Laws.every_sum_has_its_tree
