use Rattle.vax_states.proofs.Law.{frames_stand}
use Rattle.vax_states.proofs.laws.frames_stand.Goals as goal

pub returns : goal.returns
returns c = frames_stand
