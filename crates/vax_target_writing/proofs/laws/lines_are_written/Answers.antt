use Rattle.vax_target_writing.proofs.Spilling.{lines_are_written}
use Rattle.vax_target_writing.proofs.laws.lines_are_written.Goals as goal

pub returns : goal.returns
returns c = lines_are_written
