use Rattle.l32_target_fits.proofs.Law.{shapes_fit}
use Rattle.l32_target_fits.proofs.laws.shapes_fit.Goals as goal

pub returns : goal.returns
returns c = shapes_fit
