use Rattle.gg_compile_spelled.proofs.names_are_spelled.Goals as goal
use Rattle.gg_compile_spelled.proofs.Names.{names_are_spelled}

pub returns : goal.returns
returns c = names_are_spelled
