use Rattle.l32_target_lines.proofs.Performing.{lines_do}
use Rattle.l32_target_lines.proofs.laws.lines_do.Goals as goal

pub returns : goal.returns
returns c = lines_do
