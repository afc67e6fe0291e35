use Rattle.l32_reader.proofs.TextLaws.{only, refused, alone, inverse}
use Rattle.l32_reader.proofs.reader.read32.Goals as goal

pub returns-clause-only : goal.returns-clause-only
returns-clause-only c = only c.args.bytes.now c.read.result c.read.ensures.found

pub returns-clause-refused : goal.returns-clause-refused
returns-clause-refused c = refused c.args.bytes.now c.read.result c.read.ensures.first

pub returns-clause-alone : goal.returns-clause-alone
returns-clause-alone c = alone c.args.bytes.now c.read.result c.read.ensures.first

pub returns-clause-inverse : goal.returns-clause-inverse
returns-clause-inverse c = inverse c.args.bytes.now c.read.result c.read.ensures.found c.read.ensures.first
