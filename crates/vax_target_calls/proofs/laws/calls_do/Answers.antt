use Rattle.vax_target_calls.proofs.Calling.{calls_do}
use Rattle.vax_target_calls.proofs.laws.calls_do.Goals as goal

pub returns : goal.returns
returns c = calls_do
