use Rattle.l32_states.proofs.Law.{machines_are_kept}
use Rattle.l32_states.proofs.laws.machines_are_kept.Goals as goal

pub returns : goal.returns
returns c = machines_are_kept
