use Rattle.vax_machine.proofs.Law.{run_has_one_end}
use Rattle.vax_machine.proofs.laws.run_has_one_end.Goals as goal

pub returns : goal.returns
returns c = run_has_one_end
