use Rattle.l32_target_fits.proofs.Law.{slots_fit}
use Rattle.l32_target_fits.proofs.laws.slots_fit.Goals as goal

pub returns : goal.returns
returns c = slots_fit
