use Rattle.gg_program_begins.proofs.Empty.{each_program_begins}
use Rattle.gg_program_begins.proofs.each_program_begins.Goals as goal

pub returns : goal.returns
returns c = each_program_begins
