-- Samples that stand for well-typed statements.
use Rattle.std.specs.Prelude.{◌≡◌, ℕ, ◌-◌, List, Option, Some, None, Bool, true, false, length, slice_get}
use Rattle.tree_core.specs.declared.token.Sort.{Sort}
use Rattle.tree_core.specs.declared.token.Sort.TheVariants as sort
use Rattle.tree_core.specs.Grammar.{kids, sort_of}
use Rattle.tree_core.specs.Trees.{sort_fits}
use Rattle.lr_check.specs.Tree.{Node, IsSample}

-- the node's tree may stand where the sort is wanted
abbrev pub fits_at : Option Node → Sort → Bool
fits_at None x = false
fits_at (Some v) x = sort_fits (sort_of v.tok) x

-- the kids are as many as the sorts, and each fits its own
pub record KidsFit (nodes : List Node) (numbers : List ℕ) (sorts : List Sort) : Type 0 where
  pub many : length numbers ≡ length sorts
  pub each : (i k : ℕ) (x : Sort) → slice_get numbers i ≡ Some k → slice_get sorts i ≡ Some x → fits_at (slice_get nodes k) x ≡ true

-- each node's kids fit its token
pub record AreTyped (nodes : List Node) : Type 0 where
  pub each : (n : ℕ) (v : Node) → slice_get nodes n ≡ Some v → KidsFit nodes v.kids (kids v.tok)

-- the sample stands for a well-typed statement
pub record IsStatement (nodes : List Node) : Type 0 where
  pub sample : IsSample nodes
  pub root : fits_at (slice_get nodes (length nodes - 1)) sort.Stmt ≡ true
  pub typed : AreTyped nodes
