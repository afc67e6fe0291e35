use Rattle.vax_image_format.proofs.PlaceLaws.{pieces_serve}
use Rattle.vax_image_format.proofs.laws.pieces_serve.Goals as goal

pub returns : goal.returns
returns c = pieces_serve
