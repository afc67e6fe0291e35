use Rattle.vax_image_reading.proofs.ImageLaws.{image_again}
use Rattle.vax_image_reading.proofs.laws.images_are_read.Goals as goal

pub returns : goal.returns
returns c = image_again
