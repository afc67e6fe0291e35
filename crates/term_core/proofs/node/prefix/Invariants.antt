use Rattle.std.proofs.Common.{◌≡◌, ◌++◌}
use Rattle.term_core.specs.Shape.{shape_of}
use Rattle.term_core.specs.Nodes.{nodes_of, waiting, weight}
use Rattle.term_core.proofs.node.prefix.Given as goal

abbrev pub invariant-loop-next : goal.invariant-loop-next
invariant-loop-next l = l.nodes.items ++ waiting l.waiting.items ≡ nodes_of (shape_of l.t)

abbrev pub decreases-loop-next : goal.decreases-loop-next
decreases-loop-next l = weight l.waiting.items
