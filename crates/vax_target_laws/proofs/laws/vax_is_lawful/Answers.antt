use Rattle.vax_target_laws.proofs.Law.{vax_is_lawful}
use Rattle.vax_target_laws.proofs.laws.vax_is_lawful.Goals as goal

pub returns : goal.returns
returns c = vax_is_lawful
