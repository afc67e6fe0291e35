-- What the restrictions of a rule say of the holes of its lines and its shape. A rule is taken only where its restrictions hold of its
-- symbols. Before its lines are written some of these may be saved in slots and others reloaded: a constant and a branch stay what they
-- are, but of two operands that were spelled alike one may have moved. So of those nothing is said.
use Rattle.std.specs.Prelude.{◌≡◌, ℕ, ◌^◌, nat_lt, ℤ, pos, negsuc, int_le, List, Option, Some, None, true, option_and_then}
use Rattle.std.specs.Prelude.{if◌then◌else◌}
use Rattle.std.specs.List.{AllByRecursion}
use Rattle.gg_base.specs.Arithmetic.{com32}
use Rattle.gg_base.specs.declared.relation.Rel.{Rel}
use Rattle.gg_base.specs.Relations.{compares_signed}
use Rattle.tree_core.specs.declared.program.TreeProgram.{TreeProgram}
use Rattle.sel_terms_meaning.specs.md_reader.specs.declared.types.Restriction.{Restriction}
use Rattle.sel_terms_meaning.specs.md_reader.specs.declared.types.Restriction.TheVariants as restriction
use Rattle.sel_target.specs.declared.attr.Attr.{Attr}
use Rattle.sel_target.specs.Symbols.{constant_of, relation_of}

-- a longword, read with its sign
abbrev pub with_sign : ℕ → ℤ
with_sign n = if nat_lt n (2 ^ 31) then pos n else negsuc (com32 n)

-- there is a number, and it lies in the range
abbrev pub IsInRange : ℤ → ℤ → Option ℕ → Type 0
IsInRange low high None = ⊥
IsInRange low high (Some n) = (int_le low (with_sign n) ≡ true) × (int_le (with_sign n) high ≡ true)

-- there is a relation, and it compares with signs, or for equality
abbrev pub IsSignedRelation : Option Rel → Type 0
IsSignedRelation None = ⊥
IsSignedRelation (Some rel) = compares_signed rel ≡ true

-- the holes are found by their numbers
module _ {O : Type 0} (q : TreeProgram) (at : ℕ → Option (Attr O)) where
  abbrev pub Restricts : Restriction → Type 0
  Restricts (restriction.Same i j) = Unit {0}
  Restricts (restriction.Range i low high) = IsInRange low high (option_and_then (constant_of q) (at i))
  Restricts (restriction.Signed i) = IsSignedRelation (option_and_then relation_of (at i))

  abbrev pub AreRestricted : List Restriction → Type 0
  AreRestricted rs = AllByRecursion Restricts rs
