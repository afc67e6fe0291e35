-- The nodes of a term in prefix order.
use Rattle.std.specs.Prelude.{◌≡◌, ℕ, ◌+◌, List, [], ◌∷◌, ◌++◌}
use Rattle.std.specs.Borrow.{Bor}
use Rattle.term_core.specs.declared.term.Term.{Term}
use Rattle.term_core.specs.declared.node.Node.{Node}
use Rattle.term_core.specs.declared.node.Node.TheVariants as node
use Rattle.term_core.specs.Shape.{Shape, Constant, Symbol, LastResult, Memory, Unary, Binary, shape_of, size_of}

abbrev pub nodes_of : Shape → List Node
nodes_of (Constant n) = node.Constant n ∷ []
nodes_of (Symbol i) = node.Symbol i ∷ []
nodes_of LastResult = node.LastResult ∷ []
nodes_of (Memory size a) = node.Memory size ∷ nodes_of a
nodes_of (Unary op t) = node.Unary op ∷ nodes_of t
nodes_of (Binary op a b) = node.Binary op ∷ (nodes_of a ++ nodes_of b)

-- the nodes of terms that wait, the last one first
abbrev pub waiting : List (Bor Term) → List Node
waiting [] = []
waiting (t ∷ ts) = waiting ts ++ nodes_of (shape_of t.now)

-- how many nodes these are
abbrev pub weight : List (Bor Term) → ℕ
weight [] = 0
weight (t ∷ ts) = weight ts + size_of (shape_of t.now)

-- the node was the first of the shape, and what was behind it waits before the others
pub record Opens (n : Node) (s : Shape) (old new : List (Bor Term)) : Type 0 where
  pub nodes : n ∷ waiting new ≡ nodes_of s ++ waiting old
  pub lighter : weight new + 1 ≡ weight old + size_of s
