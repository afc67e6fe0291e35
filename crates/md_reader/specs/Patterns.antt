-- Tree patterns in prefix order, and the sorts of their parts.
use Rattle.std.specs.Prelude.{◌≡◌, ℕ, zero, suc, ◌+◌, List, [], ◌∷◌, ◌++◌, Option, Bool, true, false}
use Rattle.std.specs.Prelude.{length, slice_get, if◌then◌else◌}
use Rattle.std.specs.Option.{option_map}
use Rattle.gg_base.specs.declared.size.Size.TheVariants as sizes
use Rattle.tree_core.specs.declared.token.Sort.{Sort}
use Rattle.tree_core.specs.declared.token.Sort.TheVariants as sort
use Rattle.tree_core.specs.Grammar.{kids, sort_of}
use Rattle.tree_core.specs.Trees.{sort_fits}
use Rattle.md_reader.specs.declared.types.Kind.{Kind}
use Rattle.md_reader.specs.declared.types.Kind.TheVariants as kind
use Rattle.md_reader.specs.declared.types.Class.{Class}
use Rattle.md_reader.specs.declared.types.Sym.{Sym}
use Rattle.md_reader.specs.declared.types.Sym.TheVariants as grammar_symbol

-- the sort of the trees that a class stands for
abbrev pub sort_of_kind : Kind → Sort
sort_of_kind kind.Reg = sort.Long
sort_of_kind (kind.Value sizes.Byte) = sort.Byte
sort_of_kind (kind.Value sizes.Word) = sort.Word
sort_of_kind (kind.Value sizes.Long) = sort.Long
sort_of_kind (kind.Place sizes.Byte) = sort.PlaceB
sort_of_kind (kind.Place sizes.Word) = sort.PlaceW
sort_of_kind (kind.Place sizes.Long) = sort.PlaceL
sort_of_kind kind.Con = sort.Long
sort_of_kind kind.Ea = sort.Long
sort_of_kind kind.Nothing = sort.Stmt

-- the kind of the class with this number
abbrev pub kind_at : List Class → ℕ → Option Kind
kind_at classes c = option_map (λ (x : Class). x.kind) (slice_get classes c)

-- the sorts that are wanted below a symbol; below a class stands nothing
abbrev pub kids_of : Sym → List Sort
kids_of (grammar_symbol.Tok t) = kids t
kids_of (grammar_symbol.Class c) = []

abbrev pub sort_of_symbol : List Class → Sym → Option Sort
sort_of_symbol classes (grammar_symbol.Tok t) = sort_of t
sort_of_symbol classes (grammar_symbol.Class c) = option_map sort_of_kind (kind_at classes c)

-- trees for these places, each of whose symbols passes the test where it stands
pub data Trees (ok : Sym → Sort → Bool) : List Sort → Type 0 where
  no_tree : Trees ok []
  node : {x : Sort} {xs : List Sort} (s : Sym) → ok s x ≡ true → Trees ok (kids_of s) → Trees ok xs → Trees ok (x ∷ xs)

-- their symbols in prefix order, in front of a list
abbrev pub onto : {ok : Sym → Sort → Bool} {xs : List Sort} → Trees ok xs → List Sym → List Sym
onto no_tree w = w
onto (node s passes below beside) w = s ∷ onto below (onto beside w)

abbrev pub any_test : Sym → Sort → Bool
any_test s x = true

-- a symbol of the wanted sort, or a place of the wanted value's size
abbrev pub sorted_test : List Class → Sym → Sort → Bool
sorted_test classes s x = sort_fits (sort_of_symbol classes s) x

-- the symbols are one tree, whatever the sorts
pub record IsTree (w : List Sym) : Type 0 where
  pub tree : Trees any_test (sort.Long ∷ [])
  pub spelled : onto tree [] ≡ w

-- the symbols are one tree of this sort, each of whose parts has the sort that is wanted there
pub record IsSorted (classes : List Class) (left : Sort) (w : List Sym) : Type 0 where
  pub tree : Trees (sorted_test classes) (left ∷ [])
  pub spelled : onto tree [] ≡ w

-- how the tests go: what is wanted, and the symbols to come
abbrev pub walk : (Sym → Sort → Bool) → List Sort → List Sym → Bool
walk ok [] [] = true
walk ok [] (s ∷ w) = false
walk ok (x ∷ xs) [] = false
walk ok (x ∷ xs) (s ∷ w) = if ok s x then walk ok (kids_of s ++ xs) w else false

abbrev pub count : ℕ → List Sym → Bool
count zero [] = true
count zero (s ∷ w) = false
count (suc n) [] = false
count (suc n) (s ∷ w) = count (length (kids_of s) + n) w
