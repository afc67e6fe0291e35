use Rattle.vax_image_reading.proofs.PartLaws.{magic_told}
use Rattle.vax_image_reading.proofs.reading.behind_magic.Goals as goal

pub returns : goal.returns
returns c = magic_told c.args.bytes.now c.strip_prefix.result c.strip_prefix.ensures.cases
