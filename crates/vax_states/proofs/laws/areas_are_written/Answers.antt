use Rattle.vax_states.proofs.Law.{areas_are_written}
use Rattle.vax_states.proofs.laws.areas_are_written.Goals as goal

pub returns : goal.returns
returns c = areas_are_written
