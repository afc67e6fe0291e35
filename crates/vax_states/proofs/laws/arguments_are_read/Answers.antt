use Rattle.vax_states.proofs.Law.{arguments_are_read}
use Rattle.vax_states.proofs.laws.arguments_are_read.Goals as goal

pub returns : goal.returns
returns c = arguments_are_read
