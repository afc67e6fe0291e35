use Rattle.c_lower_valid.proofs.lowered_is_valid.Goals as goal
use Rattle.c_lower_valid.proofs.Law.{lowered_is_valid}

pub returns : goal.returns
returns c = lowered_is_valid
