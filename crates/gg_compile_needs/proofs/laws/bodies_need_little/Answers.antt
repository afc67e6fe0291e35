use Rattle.gg_compile_needs.proofs.laws.bodies_need_little.Goals as goal
use Rattle.gg_compile_needs.proofs.Units.{bodies_need_little}

pub returns : goal.returns
returns c = bodies_need_little
