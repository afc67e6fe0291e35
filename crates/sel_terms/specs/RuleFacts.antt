-- What a rule says of its symbols.
use Rattle.std.specs.Prelude.{ℕ, zero, suc, ◌+◌, ◌-◌, ◌==◌, ◌&&◌, ◌||◌, min, max, Bool, false, ℤ, pos, int_le, List, []}
use Rattle.std.specs.Prelude.{◌∷◌, ◌++◌, length, slice_get, Option, Some, None, if◌then◌else◌}
use Rattle.gg_base.specs.declared.size.Size.{Size}
use Rattle.gg_base.specs.declared.size.Size.TheVariants.{Long}
use Rattle.md_reader.specs.declared.types.Kind.{Kind}
use Rattle.md_reader.specs.declared.types.Kind.TheVariants as kind
use Rattle.md_reader.specs.declared.types.Class.{Class}
use Rattle.md_reader.specs.declared.types.Sym.{Sym}
use Rattle.md_reader.specs.declared.types.Sym.TheVariants as grammar_symbol
use Rattle.md_reader.specs.declared.types.Restriction.{Restriction}
use Rattle.md_reader.specs.declared.types.Restriction.TheVariants as restriction
use Rattle.md_reader.specs.declared.types.Rule.{Rule}
use Rattle.md_reader.specs.Patterns.{kind_at}
use Rattle.term_core.specs.declared.facts.Fact.{Fact}

abbrev pub size_of_kind : Option Kind → Size
size_of_kind (Some (kind.Value size)) = size
size_of_kind (Some (kind.Place size)) = size
size_of_kind k = Long

abbrev pub size_of_symbol : List Class → Sym → Size
size_of_symbol classes (grammar_symbol.Tok t) = Long
size_of_symbol classes (grammar_symbol.Class c) = size_of_kind (kind_at classes c)

abbrev pub size_of_some : List Class → Option Sym → Size
size_of_some classes None = Long
size_of_some classes (Some s) = size_of_symbol classes s

-- symbols are numbered from 1
abbrev pub size_at : List Class → List Sym → ℕ → Size
size_at classes right i = if i == 0 then Long else size_of_some classes (slice_get right (i - 1))

abbrev pub is_small_range : ℤ → ℤ → Bool
is_small_range low high = int_le (pos 0) low && int_le high (pos 31)

-- a range inside 0 to 31 is given for symbol i
abbrev pub is_ranged : List Restriction → ℕ → Bool
is_ranged [] i = false
is_ranged (restriction.Range j low high ∷ rs) i = ((j == i) && is_small_range low high) || is_ranged rs i
is_ranged (r ∷ rs) i = is_ranged rs i

-- the restrictions are read once, and of each two symbols that are spelled alike the greater gives way to the lesser
abbrev pub alike_once : List Restriction → ℕ → ℕ
alike_once [] i = i
alike_once (restriction.Same a b ∷ rs) i = alike_once rs (if i == max a b then min a b else i)
alike_once (r ∷ rs) i = alike_once rs i

abbrev pub repeated : ℕ → (ℕ → ℕ) → ℕ → ℕ
repeated zero f n = n
repeated (suc k) f n = f (repeated k f n)

-- they are read until no symbol gives way: a symbol gives way less often than its number says
abbrev pub least_alike : List Restriction → ℕ → ℕ
least_alike rs i = repeated i (alike_once rs) i

abbrev pub fact_of : List Class → Rule → ℕ → Fact
fact_of classes rule i = record {
  size = size_at classes rule.right i;
  is_count = is_ranged rule.restrictions i;
  same_as = least_alike rule.restrictions i;
}

abbrev pub facts_below : List Class → Rule → ℕ → List Fact
facts_below classes rule zero = []
facts_below classes rule (suc k) = facts_below classes rule k ++ fact_of classes rule k ∷ []

abbrev pub facts_of : List Class → Rule → List Fact
facts_of classes rule = facts_below classes rule (length rule.right + 1)

-- a line that saves a place or an address speaks of the address
abbrev pub size_of_saved : Kind → Size
size_of_saved (kind.Value size) = size
size_of_saved k = Long

abbrev pub saved_facts : Kind → List Fact
saved_facts k =
    record { size = Long; is_count = false; same_as = 0 } ∷
    record { size = size_of_saved k; is_count = false; same_as = 1 } ∷ []
