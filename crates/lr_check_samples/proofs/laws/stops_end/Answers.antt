use Rattle.lr_check_samples.proofs.Replaying as law
use Rattle.lr_check_samples.proofs.laws.stops_end.Goals as goal

pub returns : goal.returns
returns c = law.stops_end
