use Rattle.l32_target_operands.proofs.Tables.{functions_mean}
use Rattle.l32_target_operands.proofs.laws.functions_mean.Goals as goal

pub returns : goal.returns
returns c = functions_mean
