use Rattle.vax_machine.proofs.Law.{loaded_machine_runs_so}
use Rattle.vax_machine.proofs.laws.loaded_machine_runs_so.Goals as goal

pub returns : goal.returns
returns c = loaded_machine_runs_so
