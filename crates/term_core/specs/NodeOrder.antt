-- The order of terms by their nodes, in prefix order.
use Rattle.std.specs.Prelude.{ℕ, List, [], ◌∷◌}
use Rattle.std.specs.Ordering.{nat_cmp, ordering_then}
use Rattle.std.specs.declared.cmp.Ordering.{Ordering}
use Rattle.std.specs.declared.cmp.Ordering.TheVariants.{Equal}
use Rattle.gg_base.specs.Sizes.{bytes_of}
use Rattle.term_core.specs.Operators.{unary_rank, binary_rank}
use Rattle.term_core.specs.declared.node.Node.{Node}
use Rattle.term_core.specs.declared.node.Node.TheVariants.{Constant, Symbol, LastResult, Memory, Unary, Binary}

abbrev pub node_rank : Node → ℕ
node_rank (Constant n) = 0
node_rank (Symbol i) = 1
node_rank LastResult = 2
node_rank (Memory size) = 3
node_rank (Unary op) = 4
node_rank (Binary op) = 5

abbrev pub node_order : Node → Node → Ordering
node_order (Constant n) (Constant m) = nat_cmp n m
node_order (Symbol i) (Symbol j) = nat_cmp i j
node_order (Memory z) (Memory y) = nat_cmp (bytes_of z) (bytes_of y)
node_order (Unary o) (Unary p) = nat_cmp (unary_rank o) (unary_rank p)
node_order (Binary o) (Binary p) = nat_cmp (binary_rank o) (binary_rank p)
node_order n m = nat_cmp (node_rank n) (node_rank m)

-- by the first difference, as far as both go
abbrev pub nodes_order : List Node → List Node → Ordering
nodes_order [] ms = Equal
nodes_order (n ∷ ns) [] = Equal
nodes_order (n ∷ ns) (m ∷ ms) = ordering_then (node_order n m) (nodes_order ns ms)
