use Rattle.l32_target_writing.proofs.Law.{lines_are_written}
use Rattle.l32_target_writing.proofs.laws.lines_are_written.Goals as goal

pub returns : goal.returns
returns c = lines_are_written
