use Rattle.vax_target_saving.proofs.Saving.{lines_save}
use Rattle.vax_target_saving.proofs.laws.lines_save.Goals as goal

pub returns : goal.returns
returns c = lines_save
