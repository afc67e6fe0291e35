use Rattle.vax_reader.proofs.FrontLaws.{strip_told}
use Rattle.l32_reader.proofs.fronts.strip.Goals as goal

pub returns : goal.returns
returns c = strip_told c.args.word.now c.args.bytes.now c.strip_prefix.result c.strip_prefix.ensures.cases
