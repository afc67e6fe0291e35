use Rattle.term_core.proofs.Comparing.{right_ends}
use Rattle.term_core.proofs.order.compare.Goals as goal

pub returns-in_default-pop : goal.returns-in_default-pop
returns-in_default-pop c =
    let popped = c.in_default-pop.ensures in
    right_ends c.loop-s.left.items c.loop-s.right.items _ _ _ c.loop-s.invariant popped.cases.0 popped.items popped.rest
