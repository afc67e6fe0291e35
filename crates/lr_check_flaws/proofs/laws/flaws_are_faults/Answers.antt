use Rattle.lr_check_flaws.proofs.Law as law
use Rattle.lr_check_flaws.proofs.laws.flaws_are_faults.Goals as goal

pub returns : goal.returns
returns c = law.faulty
