use Rattle.lr_check_samples.proofs.Having as law
use Rattle.lr_check_samples.proofs.laws.faults_have_samples.Goals as goal

pub returns : goal.returns
returns c = law.faults_have_samples
