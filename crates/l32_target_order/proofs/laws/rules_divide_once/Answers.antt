use Rattle.l32_target_order.proofs.Dividing.{rules_divide_once}
use Rattle.l32_target_order.proofs.laws.rules_divide_once.Goals as goal

pub returns : goal.returns
returns c = rules_divide_once
