use Rattle.lr_check_samples.proofs.Shown as law
use Rattle.lr_check_samples.proofs.laws.samples_loop.Goals as goal

pub returns : goal.returns
returns c = law.samples_loop
