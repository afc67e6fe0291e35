use Rattle.l32_target_laws.proofs.Law.{l32_is_lawful}
use Rattle.l32_target_laws.proofs.laws.l32_is_lawful.Goals as goal

pub returns : goal.returns
returns c = l32_is_lawful
