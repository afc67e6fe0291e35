use Rattle.lr_check_sets.proofs.every_tree_ends_within.Goals as goal
use Rattle.lr_check_sets.proofs.Ends_within as Laws

pub returns : goal.returns
returns c = Laws.every_tree_ends_within
