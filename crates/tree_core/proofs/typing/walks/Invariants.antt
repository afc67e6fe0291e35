use Rattle.std.proofs.Common.{◌≡◌, ◌+◌, ◌≤◌, ◌∷◌, [], length}
use Rattle.tree_core.specs.Trees.{walk}
use Rattle.tree_core.specs.Wanted.{wanted_sorts, Keeps}
use Rattle.tree_core.proofs.typing.walks.Given as goal

abbrev pub invariant-loop-next : goal.invariant-loop-next
invariant-loop-next l = record {
  same : walk (wanted_sorts l.wanted) l.rest ≡ walk (l.fn.sort ∷ []) l.leaves;
  keeps : Keeps l.wanted;
  room : l.wanted.longs + length l.rest ≤ length l.leaves;
}

abbrev pub decreases-loop-next : goal.decreases-loop-next
decreases-loop-next l = length l.rest
