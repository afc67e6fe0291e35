use Rattle.vax_states.proofs.Law.{registers_are_free}
use Rattle.vax_states.proofs.laws.registers_are_free.Goals as goal

pub returns : goal.returns
returns c = registers_are_free
