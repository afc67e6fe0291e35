use Rattle.lr_check_sets.proofs.whole_trees_end.Goals as goal
use Rattle.lr_check_sets.proofs.Whole_ends as Laws

pub returns : goal.returns
returns c = Laws.whole_trees_end
