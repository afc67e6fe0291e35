use Rattle.lr_check_flaws.proofs.Law as law
use Rattle.lr_check_flaws.proofs.laws.along_circles.Goals as goal

pub returns : goal.returns
returns c = law.circles
