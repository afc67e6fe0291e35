use Rattle.vax_target_saving.proofs.Reloading.{lines_reload}
use Rattle.vax_target_saving.proofs.laws.lines_reload.Goals as goal

pub returns : goal.returns
returns c = lines_reload
