use Rattle.sel_toy_machine.proofs.Sample.{sum_is_ready, sum_is_set}
use Rattle.sel_toy_machine.proofs.laws.sum_is_set.Goals as goal

pub returns-clause-ready : goal.returns-clause-ready
returns-clause-ready c = sum_is_ready

pub returns-clause-set : goal.returns-clause-set
returns-clause-set c = sum_is_set
