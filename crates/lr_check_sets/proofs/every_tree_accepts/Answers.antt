use Rattle.lr_check_sets.proofs.every_tree_accepts.Goals as goal
use Rattle.lr_check_sets.proofs.Accepted as Laws

pub returns : goal.returns
returns c = Laws.every_tree_accepts
