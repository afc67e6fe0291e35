use Rattle.gg_compile_needs.proofs.laws.functions_are_few.Goals as goal
use Rattle.gg_compile_needs.proofs.Units.{functions_are_few}

pub returns : goal.returns
returns c = functions_are_few
