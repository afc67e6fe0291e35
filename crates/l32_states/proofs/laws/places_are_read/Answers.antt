use Rattle.l32_states.proofs.Law.{places_are_read}
use Rattle.l32_states.proofs.laws.places_are_read.Goals as goal

pub returns : goal.returns
returns c = places_are_read
