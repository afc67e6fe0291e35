use Rattle.lr_check.proofs.Orders.{Ordering}
use Rattle.lr_check.proofs.ordering.order.Given as goal

abbrev pub invariant-loop-count : goal.invariant-loop-count
invariant-loop-count l = Ordering l.nodes l.order.items l.rest.items l._count
