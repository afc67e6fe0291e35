use Rattle.std.proofs.Common.{◌≡◌, length}
use Rattle.tree_meaning.specs.State.{ahead}
use Rattle.tree_meaning.proofs.frame.next_root.Given as goal

abbrev pub invariant-loop-item : goal.invariant-loop-item
invariant-loop-item l = ahead l.rest ≡ ahead l.items

abbrev pub decreases-loop-item : goal.decreases-loop-item
decreases-loop-item l = length l.rest
