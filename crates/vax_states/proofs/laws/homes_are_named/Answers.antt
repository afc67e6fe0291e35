use Rattle.vax_states.proofs.Law.{homes_are_named}
use Rattle.vax_states.proofs.laws.homes_are_named.Goals as goal

pub returns : goal.returns
returns c = homes_are_named
