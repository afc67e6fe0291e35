-- Which settling is a class alone.
use Rattle.std.specs.Prelude.{ℕ, List, [], ◌∷◌, Bool, false, ◌&&◌, ◌==◌, slice_index_or}
use Rattle.md_reader.specs.declared.types.Sym.{Sym}
use Rattle.md_reader.specs.declared.types.Sym.TheVariants as grammar_symbol
use Rattle.lr_check_found.specs.declared.settlings.Settling.{Settling}
use Rattle.lr_check_found.specs.Found.{FoundView}

-- whether the list is the class alone
abbrev pub is_class : List Sym → ℕ → Bool
is_class [] c = false
is_class (grammar_symbol.Tok t ∷ xs) c = false
is_class (grammar_symbol.Class d ∷ []) c = d == c
is_class (grammar_symbol.Class d ∷ x ∷ xs) c = false

-- whether the settling is the class alone, at the place with the number
abbrev pub is_alone : FoundView → ℕ → ℕ → Settling → Bool
is_alone f n c e = (e.place == n) && is_class (slice_index_or f.lists.all e.list []) c
