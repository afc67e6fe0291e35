use Rattle.vax_target_writing.proofs.Spilling.{spills_are_written}
use Rattle.vax_target_writing.proofs.laws.spills_are_written.Goals as goal

pub returns : goal.returns
returns c = spills_are_written
