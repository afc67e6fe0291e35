-- The lemma of `Law`.
use Rattle.vax_target_traps.proofs.Law.{zero_divisors_trap}
use Rattle.vax_target_traps.proofs.laws.zero_divisors_trap.Goals as goal

pub returns : goal.returns
returns c = zero_divisors_trap
