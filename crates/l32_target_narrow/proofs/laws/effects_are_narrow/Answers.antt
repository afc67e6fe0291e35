use Rattle.l32_target_narrow.proofs.Law.{effects_are_narrow}
use Rattle.l32_target_narrow.proofs.laws.effects_are_narrow.Goals as goal

pub returns : goal.returns
returns c = effects_are_narrow
