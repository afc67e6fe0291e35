use Rattle.vax_confined.proofs.Running.{confined_runs_are_runs}
use Rattle.vax_confined.proofs.laws.confined_runs_are_runs.Goals as goal

-- src/laws.rt
pub returns : goal.returns
returns c = confined_runs_are_runs
