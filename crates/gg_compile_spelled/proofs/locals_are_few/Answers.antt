use Rattle.gg_compile_spelled.proofs.locals_are_few.Goals as goal
use Rattle.gg_compile_spelled.proofs.Locals.{locals_are_few}

pub returns : goal.returns
returns c = locals_are_few
