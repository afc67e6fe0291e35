use Rattle.l32_target_order.proofs.Dividing.{statements_have_lines}
use Rattle.l32_target_order.proofs.laws.statements_have_lines.Goals as goal

pub returns : goal.returns
returns c = statements_have_lines
