use Rattle.vax_states.proofs.Law.{longwords_are_pushed}
use Rattle.vax_states.proofs.laws.longwords_are_pushed.Goals as goal

pub returns : goal.returns
returns c = longwords_are_pushed
