use Rattle.vax_states.proofs.Law.{locals_are_written}
use Rattle.vax_states.proofs.laws.locals_are_written.Goals as goal

pub returns : goal.returns
returns c = locals_are_written
