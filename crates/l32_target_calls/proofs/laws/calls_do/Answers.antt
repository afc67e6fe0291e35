use Rattle.l32_target_calls.proofs.Law.{calls_do}
use Rattle.l32_target_calls.proofs.laws.calls_do.Goals as goal

pub returns : goal.returns
returns c = calls_do
