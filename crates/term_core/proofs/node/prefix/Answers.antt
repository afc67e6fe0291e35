use Rattle.term_core.proofs.Waiting.{next_opened}
use Rattle.term_core.proofs.node.prefix.Goals as goal

pub loop-next-preserved : goal.loop-next-preserved
loop-next-preserved c =
    next_opened _ _ _ c.in_ok-node.node c.in-Some.next _ _ _ c.loop-next.invariant c.in-Some.ensures.items c.in_ok-node.ensures c.in_ok-push-2.ensures.items
