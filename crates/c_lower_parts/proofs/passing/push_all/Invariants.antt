use Rattle.std.proofs.Common.{◌≡◌, ◌++◌, []}
use Rattle.std.specs.Iterator.Adapters.{rev_source}
use Rattle.std.specs.Vec.Iter.{into_iter_items}
use Rattle.c_lower_scheme.specs.Calls.{pushes}
use Rattle.c_lower_parts.specs.Views.{all_items, all_trees}
use Rattle.c_lower_parts.proofs.passing.push_all.Given as goal

abbrev pub invariant-loop-tree : goal.invariant-loop-tree
invariant-loop-tree l = all_items l.items.items ++ pushes (all_trees (into_iter_items (rev_source l.tree-iterator))) [] ≡ all_items l.initial.items.items ++ pushes (all_trees l.fn.trees.items) []
