-- What an addition makes of what was found.
use Rattle.std.specs.Prelude.{◌≡◌, ℕ, ◌+◌, ◌<◌, List, [], ◌∷◌, ◌++◌, Option, Some, None, Bool, length, slice_get}
use Rattle.std.specs.Prelude.{slice_set, slice_index_or, if◌then◌else◌}
use Rattle.tree_core.specs.declared.token.Tok.{Tok}
use Rattle.lr_check_sets.specs.Automaton.{Automaton, Candidate, shift, reduce, size_of, Free}
use Rattle.lr_check_found.specs.declared.places.Place.{Place}
use Rattle.lr_check_found.specs.declared.places.Origin.{Origin}
use Rattle.lr_check_found.specs.declared.settlings.Settling.{Settling}
use Rattle.lr_check_found.specs.Lists.{ListsView, AreLists, KeepsLists}
use Rattle.lr_check_found.specs.declared.settlings.How.{How}
use Rattle.lr_check_found.specs.declared.settlings.How.TheVariants as how
use Rattle.md_reader.specs.declared.types.Sym.{Sym}
use Rattle.md_reader.specs.declared.types.Sym.TheVariants as grammar_symbol
use Rattle.lr_check_found.specs.Found.{FoundView, slot, IsPlaceAt}
use Rattle.lr_check_found.specs.Sound.{IsFound}

-- other lists
abbrev pub with_lists : FoundView → ListsView → FoundView
with_lists f l = record {
  lists = l;
  numbers = f.numbers;
  places = f.places;
  origins = f.origins;
  sums = f.sums;
  listed = f.listed;
  settlings = f.settlings;
  tuples = f.tuples;
}

-- the lists that were there stay, and all else
pub record IsRelisted (f g : FoundView) : Type 0 where
  pub lists : AreLists g.lists
  pub kept : KeepsLists f.lists g.lists
  pub same : g ≡ with_lists f g.lists

-- the next settling is a sum of the place with the number
abbrev pub with_sum : FoundView → ℕ → FoundView
with_sum f n = record {
  lists = f.lists;
  numbers = f.numbers;
  places = f.places;
  origins = f.origins;
  listed = f.listed;
  settlings = f.settlings;
  tuples = f.tuples + 1;
  sums = slice_set f.sums n (slice_index_or f.sums n [] ++ length f.settlings ∷ []);
}

-- the list settles at the place with the number
abbrev pub with_listed : FoundView → ℕ → ℕ → FoundView
with_listed f n l = record {
  lists = f.lists;
  numbers = f.numbers;
  places = f.places;
  origins = f.origins;
  sums = f.sums;
  settlings = f.settlings;
  tuples = f.tuples;
  listed = slice_set f.listed n (slice_index_or f.listed n [] ++ l ∷ []);
}

-- one settling more
abbrev pub with_entry : FoundView → Settling → FoundView
with_entry f e = record {
  lists = f.lists;
  numbers = f.numbers;
  places = f.places;
  origins = f.origins;
  sums = f.sums;
  listed = f.listed;
  settlings = f.settlings ++ e ∷ [];
  tuples = f.tuples;
}

abbrev pub held : FoundView → Bool → ℕ → FoundView
held f is_sum n = if is_sum then with_sum f n else f

-- the settling, its list held at its place, and held as a sum if it is one
abbrev pub settled : FoundView → Settling → FoundView
settled f e = with_entry (held (with_listed f e.place e.list) e.is_sum e.place) e

-- one place more
pub record IsPlaced (f g : FoundView) (x : Place) (o : Origin) : Type 0 where
  pub places : g.places ≡ f.places ++ x ∷ []
  pub origins : g.origins ≡ f.origins ++ o ∷ []
  pub sums : g.sums ≡ f.sums ++ [] ∷ []
  pub number : slice_index_or g.numbers (slot x) None ≡ Some (length f.places)
  pub others : (i : ℕ) → (i ≡ slot x → ⊥) → slice_index_or g.numbers i None ≡ slice_index_or f.numbers i None
  pub lists : g.lists ≡ f.lists
  pub listed : g.listed ≡ f.listed ++ [] ∷ []
  pub settlings : g.settlings ≡ f.settlings
  pub tuples : g.tuples ≡ f.tuples

-- the place is there, or is one more
pub data IsAdded (f g : FoundView) (x : Place) (o : Origin) : Type 0 where
  there : g ≡ f → IsAdded f g x o
  placed : ((A : Automaton) (n : ℕ) → IsFound A f → IsPlaceAt f n x → ⊥) → IsPlaced f g x o → IsAdded f g x o

-- the list that settles so, behind the token: two lists on top of each other, or the class
abbrev pub list_of : Tok → How → List Sym → List Sym → List Sym
list_of t how.Leaf u l = u ++ (l ++ (grammar_symbol.Tok t ∷ []))
list_of t (how.One i) u l = u ++ (l ++ (grammar_symbol.Tok t ∷ []))
list_of t (how.Two i k) u l = u ++ (l ++ (grammar_symbol.Tok t ∷ []))
list_of t (how.Reduced i c) u l = grammar_symbol.Class c ∷ []

abbrev pub number_in : Option Settling → ℕ
number_in None = 0
number_in (Some e) = e.list

-- the number of a settling's list
abbrev pub list_number : FoundView → ℕ → ℕ
list_number f i = number_in (slice_get f.settlings i)

-- the lists of the last kid and of the first of two
abbrev pub upper_of : FoundView → How → ℕ
upper_of f how.Leaf = 0
upper_of f (how.One i) = list_number f i
upper_of f (how.Two i k) = list_number f k
upper_of f (how.Reduced i c) = 0

abbrev pub lower_of : FoundView → How → ℕ
lower_of f how.Leaf = 0
lower_of f (how.One i) = 0
lower_of f (how.Two i k) = list_number f i
lower_of f (how.Reduced i c) = 0

-- the candidate's right side is longer, or it is a shift
abbrev pub IsWider : Candidate → ℕ → Type 0
IsWider shift size = Unit {0}
IsWider (reduce r) size = size < size_of r

-- some choice leads out of a list of so many symbols
pub record HasWayOut (A : Automaton) (behind : Option ℕ) (t : Tok) (size : ℕ) : Type 0 where
  pub state : ℕ
  pub candidate : Candidate
  pub at : behind ≡ Some state
  pub free : Free (A.candidates state t) candidate
  pub out : IsWider candidate size
