-- How many summaries and how many item sets a description has: over stacks, of which those are one that have the same items.
use Rattle.std.specs.Prelude.{◌≡◌, ℕ, ◌<◌, List, Some, Contains, AllPairs, length, slice_get}
use Rattle.lr_check_found.specs.tree_core.specs.declared.token.Tok.{Tok}
use Rattle.lr_check_found.specs.md_reader.specs.declared.types.Rule.{Rule}
use Rattle.lr_check_found.specs.md_reader.specs.declared.types.Sym.{Sym}
use Rattle.lr_check_found.specs.md_reader.specs.State.{Content}
use Rattle.lr_checked.specs.lr_tables.specs.Statements.{stmt_of}
use Rattle.lr_checked.specs.lr_tables.specs.Over.{SameItems, AreApart}
use Rattle.lr_checked_sets.specs.Summaries.{IsLive, Summary}

-- a stack, the token with which a subtree begins there, the token behind it, and a list that may replace it
pub record Tuple : Type 0 where
  pub stack : List Sym
  pub token : Tok
  pub behind : Tok
  pub list : List Sym

abbrev pub IsSummary : List Rule → ℕ → Tuple → Type 0
IsSummary rules stmt x = Summary rules stmt x.stack x.token x.behind x.list

-- they are one: of one item set, with the same tokens and the same list
pub record AreOne (rules : List Rule) (stmt : ℕ) (x y : Tuple) : Type 0 where
  pub set : SameItems rules stmt x.stack y.stack
  pub token : x.token ≡ y.token
  pub behind : x.behind ≡ y.behind
  pub list : x.list ≡ y.list

-- the description has more than so many summaries, no two of them one
pub record HasMoreSummaries (d : Content) (most : ℕ) : Type 0 where
  pub tuples : List Tuple
  pub many : most < length tuples
  pub apart : AllPairs (λ (x y : Tuple). AreOne d.rules (stmt_of d.classes) x y → ⊥) tuples
  pub each : (x : Tuple) → Contains tuples x → IsSummary d.rules (stmt_of d.classes) x

-- it has so many: no more, and no fewer
pub record HasSummaries (d : Content) (n : ℕ) : Type 0 where
  pub few : HasMoreSummaries d n → ⊥
  pub many : (m : ℕ) → m < n → HasMoreSummaries d m

-- one of the stacks has the same items as this one
pub record StandsFor (d : Content) (stacks : List (List Sym)) (a : List Sym) : Type 0 where
  pub place : ℕ
  pub stack : List Sym
  pub there : slice_get stacks place ≡ Some stack
  pub same : SameItems d.rules (stmt_of d.classes) stack a

-- The description has so many item sets: each of so many stacks has an item, no two have the same items, and whatever stack has an item,
-- one of them has the same items.
pub record HasItemSets (d : Content) (n : ℕ) : Type 0 where
  pub stacks : List (List Sym)
  pub many : length stacks ≡ n
  pub apart : AreApart d.rules (stmt_of d.classes) stacks
  pub all : (a : List Sym) → IsLive d.rules (stmt_of d.classes) a → StandsFor d stacks a
