-- Samples, and the trees that they stand for.
use Rattle.std.specs.Prelude.{◌≡◌, ℕ, ◌-◌, ◌<◌, List, [], ◌∷◌, ◌++◌, Some, Bool, Contains, length, slice_get}
use Rattle.tree_core.specs.declared.token.Tok.{Tok}

-- a token, the numbers of the kids, and what the node's questions are answered, in order
pub record Node : Type 0 where
  pub tok : Tok
  pub kids : List ℕ
  pub answers : List Bool

-- a token of the tree, and what its node's questions are answered, in order
pub record Token : Type 0 where
  pub tok : Tok
  pub answers : List Bool

-- the tokens of these nodes' trees in order: a node's own, those of its kids, those of the nodes behind it
pub data Unfolds (nodes : List Node) : List ℕ → List Token → Type 0 where
  ends : Unfolds nodes [] []
  goes_on : {n : ℕ} {rest : List ℕ} {w : List Token} (v : Node) →
      slice_get nodes n ≡ Some v → Unfolds nodes (v.kids ++ rest) w →
      Unfolds nodes (n ∷ rest) (record { tok = v.tok; answers = v.answers } ∷ w)

-- the tree for which the nodes stand: its root is the last of them
abbrev pub IsTree : List Node → List Token → Type 0
IsTree nodes w = Unfolds nodes ((length nodes - 1) ∷ []) w

-- each kid has a lower number than its node
abbrev pub KidsAreLower : List Node → Type 0
KidsAreLower nodes = (n k : ℕ) (v : Node) → slice_get nodes n ≡ Some v → Contains v.kids k → k < n

-- there is a node, and kids have lower numbers
pub record IsSample (nodes : List Node) : Type 0 where
  pub some : 0 < length nodes
  pub lower : KidsAreLower nodes
