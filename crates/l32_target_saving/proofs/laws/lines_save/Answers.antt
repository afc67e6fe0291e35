use Rattle.l32_target_saving.proofs.Law.{lines_save}
use Rattle.l32_target_saving.proofs.laws.lines_save.Goals as goal

pub returns : goal.returns
returns c = lines_save
