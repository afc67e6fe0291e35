use Rattle.lr_check_samples.proofs.Drawn_samples as law
use Rattle.lr_check_samples.proofs.laws.drawn_samples_stop.Goals as goal

pub returns : goal.returns
returns c = law.drawn_samples_stop
