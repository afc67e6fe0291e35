use Rattle.tree_core.proofs.Ordering_of_calls.{decides}
use Rattle.tree_core.proofs.items.calls_in_order.Goals as goal

pub returns : goal.returns
returns c = decides c.args.items.now c.is_in_order.result c.is_in_order.ensures
