-- The order in which the code finds a tree's tokens, by the numbers of their nodes.
use Rattle.std.specs.Prelude.{◌≡◌, ℕ, ◌-◌, ◌<◌, ◌≤◌, List, [], ◌∷◌, ◌++◌, Some, length, slice_get}
use Rattle.lr_check.specs.Tree.{Node}

-- a node, those of its kids' trees, those of the nodes behind it
pub data Orders (nodes : List Node) : List ℕ → List ℕ → Type 0 where
  ends : Orders nodes [] []
  goes_on : {n : ℕ} {rest w : List ℕ} (v : Node) →
      slice_get nodes n ≡ Some v → Orders nodes (v.kids ++ rest) w →
      Orders nodes (n ∷ rest) (n ∷ w)

-- the order of the whole tree, of at most 100,000 tokens
pub record IsOrder (nodes : List Node) (w : List ℕ) : Type 0 where
  pub orders : Orders nodes ((length nodes - 1) ∷ []) w
  pub short : length w ≤ 100000

-- the whole tree has more than 100,000 tokens
pub record IsLongOrder (nodes : List Node) : Type 0 where
  pub order : List ℕ
  pub orders : Orders nodes ((length nodes - 1) ∷ []) order
  pub long : 100000 < length order
