use Rattle.l32_states.proofs.Law.{places_are_written}
use Rattle.l32_states.proofs.laws.places_are_written.Goals as goal

pub returns : goal.returns
returns c = places_are_written
