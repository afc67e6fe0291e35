use Rattle.l32_target_runs.proofs.Kept.{registers_are_kept}
use Rattle.l32_target_runs.proofs.laws.registers_are_kept.Goals as goal

pub returns : goal.returns
returns c = registers_are_kept
