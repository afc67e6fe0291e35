use Rattle.vax_target_saving.proofs.Law.{target_saves}
use Rattle.vax_target_saving.proofs.laws.target_saves.Goals as goal

pub returns : goal.returns
returns c = target_saves
