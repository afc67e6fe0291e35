use Rattle.std.proofs.Common.{◌≡◌, ◌++◌, ◌∷◌, []}
use Rattle.tree_core.specs.Attributes.{end_leaf}
use Rattle.tree_core.specs.Trees.{leaves_onto, forest_of}
use Rattle.tree_core.proofs.Planting.{waiting_onto, work}
use Rattle.tree_core.proofs.tree.linear.Given as goal

abbrev pub invariant-loop-trees : goal.invariant-loop-trees
invariant-loop-trees l =
    l.leaves.items ++ waiting_onto l.waiting.items (end_leaf ∷ []) ≡ leaves_onto (forest_of l.tree) (end_leaf ∷ [])

abbrev pub decreases-loop-trees : goal.decreases-loop-trees
decreases-loop-trees l = work l.waiting.items
