use Rattle.vax_target_writing.proofs.Spilling.{slots_fit}
use Rattle.vax_target_writing.proofs.laws.slots_fit.Goals as goal

pub returns : goal.returns
returns c = slots_fit
