use Rattle.gg_program_begins.proofs.Law.{each_typed_program_begins}
use Rattle.gg_program_begins.proofs.each_typed_program_begins.Goals as goal

pub returns : goal.returns
returns c = each_typed_program_begins
