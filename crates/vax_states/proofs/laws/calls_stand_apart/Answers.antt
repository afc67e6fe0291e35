use Rattle.vax_states.proofs.Law.{calls_stand_apart}
use Rattle.vax_states.proofs.laws.calls_stand_apart.Goals as goal

pub returns : goal.returns
returns c = calls_stand_apart
