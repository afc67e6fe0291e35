use Rattle.lr_check_samples.proofs.Drawing as law
use Rattle.lr_check_samples.proofs.laws.drawn_trees_stand.Goals as goal

pub returns : goal.returns
returns c = law.drawn_trees_stand
