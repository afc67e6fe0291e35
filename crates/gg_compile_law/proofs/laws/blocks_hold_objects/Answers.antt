use Rattle.gg_compile_law.proofs.Areas.{blocks_hold_objects}
use Rattle.gg_compile_law.proofs.laws.blocks_hold_objects.Goals as goal

pub returns : goal.returns
returns c = blocks_hold_objects
