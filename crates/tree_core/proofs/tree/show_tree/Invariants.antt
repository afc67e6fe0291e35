use Rattle.std.proofs.Common.{◌≡◌, ◌++◌, drop}
use Rattle.tree_core.specs.Names.{shown}
use Rattle.tree_core.proofs.Showing.{to_write}
use Rattle.tree_core.proofs.tree.show_tree.Given as goal

abbrev pub invariant-loop-leaf : goal.invariant-loop-leaf
invariant-loop-leaf l = l.text.items ++ to_write l.is_first (drop l.leaf-index l.leaves) ≡ shown l.leaves
