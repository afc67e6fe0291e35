use Rattle.c_lower_calm.proofs.plain_is_one_tree.Goals as goal
use Rattle.c_lower_calm.proofs.Plain.{plain_is_one_tree as one_tree}

pub returns : goal.returns
returns c = one_tree
