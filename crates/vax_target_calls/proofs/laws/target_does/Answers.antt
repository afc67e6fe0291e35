use Rattle.vax_target_calls.proofs.Law.{target_does}
use Rattle.vax_target_calls.proofs.laws.target_does.Goals as goal

pub returns : goal.returns
returns c = target_does
