-- A parse whose questions are answered by the attributes that stand beside the symbols.
use Rattle.std.specs.Prelude.{ℕ, ◌-◌, ◌^◌, nat_lt, ◌==◌, ℤ, pos, negsuc, int_le, List, [], ◌∷◌, Option, Some, None}
use Rattle.std.specs.Prelude.{Bool, true, false, ◌&&◌, length, reverse, take, slice_get, if◌then◌else◌}
use Rattle.gg_base.specs.Arithmetic.{com32}
use Rattle.gg_base.specs.declared.relation.Rel.{Rel}
use Rattle.gg_base.specs.Relations.{compares_signed}
use Rattle.tree_core.specs.declared.tree.Leaf.{Leaf}
use Rattle.md_reader.specs.declared.types.Restriction.{Restriction}
use Rattle.md_reader.specs.declared.types.Restriction.TheVariants as restriction
use Rattle.md_reader.specs.declared.types.Rule.{Rule}
use Rattle.lr_check_parse.specs.Moves.{Answering}

-- How a selection goes on, and what the choice asks of it. X is what it keeps, A an attribute; the attributes of the
-- stack have the top's first.
-- A reduction may be refused: then no slot is free.
pub record Selecting (X A : Type 0) : Type 0 where
  pub attributes : X → List A
  pub alike : A → A → Bool
  pub constant : A → Option ℕ
  pub relation : A → Option Rel
  pub shifted : Leaf → X → X
  pub reduced : ℕ → X → Option X

-- a longword, read with its sign
abbrev pub signed : ℕ → ℤ
signed n = if nat_lt n (2 ^ 31) then pos n else negsuc (com32 n)

abbrev pub in_range : ℤ → ℤ → Option ℕ → Bool
in_range low high None = false
in_range low high (Some n) = int_le low (signed n) && int_le (signed n) high

abbrev pub is_signed : Option Rel → Bool
is_signed None = false
is_signed (Some r) = compares_signed r

-- the attribute of the symbol with this number, from 1
abbrev pub attribute_at : {A : Type 0} → List A → ℕ → Option A
attribute_at hs i = if i == 0 then None else slice_get hs (i - 1)

module _ {X A : Type 0} (of : Selecting X A) where
  abbrev pub same_spelling : Option A → Option A → Bool
  same_spelling None b = false
  same_spelling (Some a) None = false
  same_spelling (Some a) (Some b) = of.alike a b

  abbrev pub constant_at : Option A → Option ℕ
  constant_at None = None
  constant_at (Some a) = of.constant a

  abbrev pub relation_at : Option A → Option Rel
  relation_at None = None
  relation_at (Some a) = of.relation a

  -- a restriction holds of the attributes of a right side
  abbrev pub holds : List A → Restriction → Bool
  holds hs (restriction.Same i j) = same_spelling (attribute_at hs i) (attribute_at hs j)
  holds hs (restriction.Range i low high) = in_range low high (constant_at (attribute_at hs i))
  holds hs (restriction.Signed i) = is_signed (relation_at (attribute_at hs i))

  abbrev pub all_hold : List A → List Restriction → Bool
  all_hold hs [] = true
  all_hold hs (r ∷ rs) = holds hs r && all_hold hs rs

  -- the attributes of the symbols of a right side, the first symbol's first
  abbrev pub symbols_of : ℕ → X → List A
  symbols_of size x = reverse (take size (of.attributes x))

  -- the restrictions of a rule hold
  abbrev pub answered : Rule → X → Bool
  answered r x = all_hold (symbols_of (length r.right) x) r.restrictions

  -- a question is answered by the attributes, and changes nothing
  abbrev pub by_attributes : Answering Leaf X
  by_attributes = record { token = λ l. l.tok; says = answered; asked = λ r x. x; shifted = of.shifted; reduced = λ n r x. of.reduced n x }
