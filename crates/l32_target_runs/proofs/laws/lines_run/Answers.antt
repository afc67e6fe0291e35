use Rattle.l32_target_runs.proofs.Law.{lines_run}
use Rattle.l32_target_runs.proofs.laws.lines_run.Goals as goal

pub returns : goal.returns
returns c = lines_run
