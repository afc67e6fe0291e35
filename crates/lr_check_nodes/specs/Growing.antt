-- Nodes of a sample that grow: each node's kids stand before it and fit its token, and what stands stays.
use Rattle.std.specs.Prelude.{◌≡◌, ℕ, ◌+◌, List, [], ◌++◌, Some, Bool, true, length, slice_get}
use Rattle.tree_core.specs.declared.token.Tok.{Tok}
use Rattle.tree_core.specs.declared.token.Tok.TheVariants as tok
use Rattle.tree_core.specs.declared.token.Sort.{Sort}
use Rattle.tree_core.specs.declared.token.Sort.TheVariants as sort
use Rattle.lr_check.specs.Tree.{Node, KidsAreLower}
use Rattle.lr_check.specs.Statement.{fits_at, KidsFit, AreTyped}

-- each kid has a lower number than its node, and fits there
pub record AreWhole (nodes : List Node) : Type 0 where
  pub lower : KidsAreLower nodes
  pub typed : AreTyped nodes

-- with more nodes behind them
pub record Grows (old new : List Node) : Type 0 where
  pub more : List Node
  pub grown : new ≡ old ++ more

-- with a tree that may stand where the sort is wanted
pub record HasTreeOf (old new : List Node) (x : Sort) (n : ℕ) : Type 0 where
  pub grows : Grows old new
  pub whole : AreWhole new
  pub fits : fits_at (slice_get new n) x ≡ true

-- with trees for kids of these sorts
pub record HaveKids (old new : List Node) (xs : List Sort) (ks : List ℕ) : Type 0 where
  pub grows : Grows old new
  pub whole : AreWhole new
  pub fit : KidsFit new ks xs

-- with this node as the last
pub record HasLast (old new : List Node) (k : Tok) (ks : List ℕ) (answers : List Bool) (n : ℕ) : Type 0 where
  pub grows : Grows old new
  pub whole : AreWhole new
  pub node : slice_get new n ≡ Some (record { tok = k; kids = ks; answers = answers })
  pub last : n + 1 ≡ length new

-- with a tree that begins with the token, whose root is the last node and has no answers
pub record HasTreeFrom (old new : List Node) (k : Tok) (n : ℕ) : Type 0 where
  pub kids : List ℕ
  pub has : HasLast old new k kids [] n

-- the token of a smallest tree for the sort
abbrev pub smallest : Sort → Tok
smallest sort.Byte = tok.Ncb
smallest sort.Word = tok.Ncw
smallest sort.Long = tok.Zero
smallest sort.PlaceB = tok.IndirB
smallest sort.PlaceW = tok.IndirW
smallest sort.PlaceL = tok.Loc
smallest sort.Stmt = tok.Jump
