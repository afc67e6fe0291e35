use Rattle.cmd_files.proofs.Refusals.{input_long}
use Rattle.cmd_files.proofs.stages.read_input.Goals as goal

pub returns-in-Err-TooLong-clause-refused : goal.returns-in-Err-TooLong-clause-refused
returns-in-Err-TooLong-clause-refused g c =
    input_long _ _ _ (c.in-Err-TooLong.ensures.too_long cc) (rw c.in-Err-TooLong.field-0-is at c.in-Err-TooLong.ensures.counts) c.refuse-in-Err-TooLong.ensures
