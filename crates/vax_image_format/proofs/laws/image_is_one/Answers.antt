use Rattle.vax_image_format.proofs.RowLaws.{image_is_one}
use Rattle.vax_image_format.proofs.laws.image_is_one.Goals as goal

pub returns : goal.returns
returns c = image_is_one
