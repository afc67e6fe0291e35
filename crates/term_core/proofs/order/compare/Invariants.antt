use Rattle.std.proofs.Common.{◌≡◌}
use Rattle.term_core.specs.Shape.{shape_of}
use Rattle.term_core.specs.Order.{order}
use Rattle.term_core.specs.Nodes.{waiting, weight}
use Rattle.term_core.specs.NodeOrder.{nodes_order}
use Rattle.term_core.proofs.order.compare.Given as goal

abbrev pub invariant-loop-s : goal.invariant-loop-s
invariant-loop-s l = nodes_order (waiting l.left.items) (waiting l.right.items) ≡ order (shape_of l.fn.a) (shape_of l.fn.b)

abbrev pub decreases-loop-s : goal.decreases-loop-s
decreases-loop-s l = weight l.left.items
