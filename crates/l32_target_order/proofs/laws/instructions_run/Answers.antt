use Rattle.l32_target_order.proofs.Running.{instructions_run}
use Rattle.l32_target_order.proofs.laws.instructions_run.Goals as goal

pub returns : goal.returns
returns c = instructions_run
