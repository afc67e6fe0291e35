use Rattle.vax_states.proofs.Law.{locals_are_read}
use Rattle.vax_states.proofs.laws.locals_are_read.Goals as goal

pub returns : goal.returns
returns c = locals_are_read
