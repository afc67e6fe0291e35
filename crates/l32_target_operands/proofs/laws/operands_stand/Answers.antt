use Rattle.l32_target_operands.proofs.Forms.{operands_stand}
use Rattle.l32_target_operands.proofs.laws.operands_stand.Goals as goal

pub returns : goal.returns
returns c = operands_stand
