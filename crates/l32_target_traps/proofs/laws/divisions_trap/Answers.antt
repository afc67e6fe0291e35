use Rattle.l32_target_traps.proofs.Law.{divisions_trap}
use Rattle.l32_target_traps.proofs.laws.divisions_trap.Goals as goal

pub returns : goal.returns
returns c = divisions_trap
