use Rattle.vax_frames_law.proofs.Guarding.{steps_keep}
use Rattle.vax_frames_law.proofs.laws.steps_keep_registers.Goals as goal

pub returns : goal.returns
returns c = steps_keep
