use Rattle.lr_check_sets.proofs.whole_is_enough.Goals as goal
use Rattle.lr_check_sets.proofs.Whole_sets as Laws

pub returns : goal.returns
returns c = Laws.whole_is_enough
