use Rattle.l32_target_shapes.proofs.Law.{shapes_stand}
use Rattle.l32_target_shapes.proofs.laws.shapes_stand.Goals as goal

pub returns : goal.returns
returns c = shapes_stand
