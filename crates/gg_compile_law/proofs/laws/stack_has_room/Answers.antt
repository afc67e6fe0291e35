use Rattle.gg_compile_law.proofs.Going.{roomy}
use Rattle.gg_compile_law.proofs.laws.stack_has_room.Goals as goal

pub returns : goal.returns
returns c = roomy
