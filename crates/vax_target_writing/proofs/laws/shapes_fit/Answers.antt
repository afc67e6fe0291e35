use Rattle.vax_target_writing.proofs.Given.{shapes_fit}
use Rattle.vax_target_writing.proofs.laws.shapes_fit.Goals as goal

pub returns : goal.returns
returns c = shapes_fit
