-- How many questions and ends a tree has.
use Rattle.std.proofs.Common.{ℕ, ◌+◌}
use Rattle.vax_pairs_walk.specs.declared.tree.Tree.{Tree}
use Rattle.vax_pairs_walk.specs.declared.tree.Tree.TheVariants as tree

abbrev pub nodes : Tree → ℕ
nodes (tree.Asks' es t s p a q b) = 1 + nodes a + nodes b
nodes t = 1
