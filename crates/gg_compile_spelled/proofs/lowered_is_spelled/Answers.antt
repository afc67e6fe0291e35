use Rattle.gg_compile_spelled.proofs.lowered_is_spelled.Goals as goal
use Rattle.gg_compile_spelled.proofs.Law.{lowered_is_spelled}

pub returns : goal.returns
returns c = lowered_is_spelled
