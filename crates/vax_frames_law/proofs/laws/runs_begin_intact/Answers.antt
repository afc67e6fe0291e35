use Rattle.vax_frames_law.proofs.Guarding.{runs_begin_intact}
use Rattle.vax_frames_law.proofs.laws.runs_begin_intact.Goals as goal

pub returns : goal.returns
returns c = runs_begin_intact
