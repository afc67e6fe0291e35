use Rattle.l32_machine_lists.proofs.Joining.{steps_are_theirs}
use Rattle.l32_machine_lists.proofs.laws.steps_are_theirs.Goals as goal

pub returns : goal.returns
returns c = steps_are_theirs
