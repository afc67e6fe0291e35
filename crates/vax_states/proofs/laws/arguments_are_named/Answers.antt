use Rattle.vax_states.proofs.Law.{arguments_are_named}
use Rattle.vax_states.proofs.laws.arguments_are_named.Goals as goal

pub returns : goal.returns
returns c = arguments_are_named
