use Rattle.l32_target_spelling.proofs.Law.{shapes_touch}
use Rattle.l32_target_spelling.proofs.laws.shapes_touch.Goals as goal

pub returns : goal.returns
returns c = shapes_touch
