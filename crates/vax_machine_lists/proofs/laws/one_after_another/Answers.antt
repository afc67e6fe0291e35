use Rattle.vax_machine_lists.proofs.Joining.{one_after_another}
use Rattle.vax_machine_lists.proofs.laws.one_after_another.Goals as goal

pub returns : goal.returns
returns c = one_after_another
