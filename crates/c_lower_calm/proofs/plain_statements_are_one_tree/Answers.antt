use Rattle.c_lower_calm.proofs.plain_statements_are_one_tree.Goals as goal
use Rattle.c_lower_calm.proofs.Standing.{plain_statements_are_one_tree as stand}

pub returns : goal.returns
returns c = stand
