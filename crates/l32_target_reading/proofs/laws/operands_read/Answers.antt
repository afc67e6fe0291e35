use Rattle.l32_target_reading.proofs.Law.{operands_read}
use Rattle.l32_target_reading.proofs.laws.operands_read.Goals as goal

pub returns : goal.returns
returns c = operands_read
