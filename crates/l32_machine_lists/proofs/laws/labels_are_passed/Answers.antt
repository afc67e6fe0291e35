use Rattle.l32_machine_lists.proofs.Passing.{labels_are_passed}
use Rattle.l32_machine_lists.proofs.laws.labels_are_passed.Goals as goal

pub returns : goal.returns
returns c = labels_are_passed
