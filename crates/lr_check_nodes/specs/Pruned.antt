-- What is left of a sample's nodes: those that its root reaches, in order, with new numbers.
use Rattle.std.specs.Prelude.{◌≡◌, ℕ, ◌+◌, ◌-◌, ◌<◌, ◌≤◌, List, [], ◌∷◌, ◌++◌, Some, Bool, true}
use Rattle.std.specs.Prelude.{Contains, length, map, set, slice_get, slice_index_or}
use Rattle.lr_check.specs.Tree.{Node, Token, IsTree}
use Rattle.lr_check.specs.Statement.{IsStatement}

-- the node is a kid of another one
pub record IsUsed (nodes : List Node) (n : ℕ) : Type 0 where
  pub number : ℕ
  pub user : Node
  pub there : slice_get nodes number ≡ Some user
  pub kid : Contains user.kids n

-- each node but the root, which is the last, is a kid of another one: the root reaches all
pub record AreUsed (nodes : List Node) : Type 0 where
  pub each : (n : ℕ) → n + 1 < length nodes → IsUsed nodes n

-- A typed statement, with the same tree, and with nothing that its root doesn't reach.
pub record IsPruned (nodes pruned : List Node) : Type 0 where
  pub statement : IsStatement pruned
  pub trees : (w : List Token) → IsTree nodes w → IsTree pruned w
  pub used : AreUsed pruned

-- these are marked too
abbrev pub with_marks : List Bool → List ℕ → List Bool
with_marks marks [] = marks
with_marks marks (k ∷ ks) = with_marks (set marks k true) ks

abbrev pub IsMarked : List Bool → ℕ → Type 0
IsMarked marks n = slice_get marks n ≡ Some true

pub record IsMarkedUser (nodes : List Node) (marks : List Bool) (n : ℕ) : Type 0 where
  pub number : ℕ
  pub user : Node
  pub there : slice_get nodes number ≡ Some user
  pub kid : Contains user.kids n
  pub marked : IsMarked marks number

-- marked are the root, kids of what is marked, and nothing else
pub record AreReached (nodes : List Node) (marks : List Bool) : Type 0 where
  pub many : length marks ≡ length nodes
  pub root : IsMarked marks (length nodes - 1)
  pub kids : (n k : ℕ) (v : Node) → IsMarked marks n → slice_get nodes n ≡ Some v → Contains v.kids k → IsMarked marks k
  pub used : (n : ℕ) → IsMarked marks n → n + 1 < length nodes → IsMarkedUser nodes marks n

-- the nodes that are left of the first ones, and the new number of each of these
pub record PrunedView : Type 0 where
  pub nodes : List Node
  pub numbers : List ℕ

abbrev pub renumbered : List ℕ → List ℕ → List ℕ
renumbered numbers ks = map (λ (k : ℕ). slice_index_or numbers k 0) ks

abbrev pub node_again : List ℕ → Node → Node
node_again numbers v = record { tok = v.tok; kids = renumbered numbers v.kids; answers = v.answers }

-- with the next node, and without it
abbrev pub with_node : PrunedView → Node → PrunedView
with_node p v = record { nodes = p.nodes ++ node_again p.numbers v ∷ []; numbers = p.numbers ++ length p.nodes ∷ [] }

abbrev pub without_node : PrunedView → PrunedView
without_node p = record { nodes = p.nodes; numbers = p.numbers ++ 0 ∷ [] }

-- the nodes from the n-th on are looked at
pub record Reaching (nodes : List Node) (marks : List Bool) (n : ℕ) : Type 0 where
  pub many : length marks ≡ length nodes
  pub root : IsMarked marks (length nodes - 1)
  pub kids : (m k : ℕ) (v : Node) → n ≤ m → IsMarked marks m → slice_get nodes m ≡ Some v → Contains v.kids k → IsMarked marks k
  pub used : (m : ℕ) → IsMarked marks m → m + 1 < length nodes → IsMarkedUser nodes marks m

-- the node that is left with this number
pub record IsLeft (nodes : List Node) (marks : List Bool) (numbers : List ℕ) (i m : ℕ) (u : Node) : Type 0 where
  pub number : ℕ
  pub node : Node
  pub below : number < i
  pub marked : IsMarked marks number
  pub there : slice_get nodes number ≡ Some node
  pub here : slice_index_or numbers number 0 ≡ m
  pub same : u ≡ node_again numbers node

-- the first i nodes are looked at
pub record Pruning (nodes : List Node) (marks : List Bool) (p : PrunedView) (i : ℕ) : Type 0 where
  pub many : length p.numbers ≡ i
  pub within : i ≤ length nodes
  pub left : (n : ℕ) (v : Node) → IsMarked marks n → slice_get nodes n ≡ Some v → n < i
      → slice_get p.nodes (slice_index_or p.numbers n 0) ≡ Some (node_again p.numbers v)
  pub low : (n : ℕ) → IsMarked marks n → n < i → slice_index_or p.numbers n 0 < length p.nodes
  pub rises : (n m : ℕ) → IsMarked marks n → IsMarked marks m → n < m → m < i → slice_index_or p.numbers n 0 < slice_index_or p.numbers m 0
  pub all : (m : ℕ) (u : Node) → slice_get p.nodes m ≡ Some u → IsLeft nodes marks p.numbers i m u
  pub last : (n : ℕ) → IsMarked marks n → n + 1 ≡ i → slice_index_or p.numbers n 0 + 1 ≡ length p.nodes
