use Rattle.vax_image_format.proofs.PlaceLaws.{sections_end}
use Rattle.vax_image_format.proofs.laws.sections_end.Goals as goal

pub returns : goal.returns
returns c = sections_end
