-- What has been found: places by number, and the lists of symbols that settle there, each with how it was found.
use Rattle.std.specs.Prelude.{◌≡◌, ℕ, ◌+◌, ◌*◌, List, Option, Some, true, slice_get}
use Rattle.tree_core.specs.declared.token.Tok.{Tok}
use Rattle.md_reader.specs.declared.types.Sym.{Sym}
use Rattle.lr_tables.specs.Symbols.{number}
use Rattle.lr_check_found.specs.declared.places.Place.{Place}
use Rattle.lr_check_found.specs.declared.places.Origin.{Origin}
use Rattle.lr_check_found.specs.declared.settlings.Settling.{Settling}
use Rattle.lr_check_found.specs.Lists.{ListsView, IsList}

-- the number of each place by its state and tokens; the places with their origins; at each the sums and the lists that settle, by
-- number; the settlings; and how many of them are sums
pub record FoundView : Type 0 where
  pub lists : ListsView
  pub numbers : List (Option ℕ)
  pub places : List Place
  pub origins : List Origin
  pub sums : List (List ℕ)
  pub listed : List (List ℕ)
  pub settlings : List Settling
  pub tuples : ℕ

-- where a place's number is held: there are 40 tokens
abbrev pub slot : Place → ℕ
slot x = (x.state * 40 + number x.token) * 40 + number x.behind

abbrev pub place_of : ℕ → Tok → Tok → Place
place_of q k b = record { state = q; token = k; behind = b }

abbrev pub IsPlaceAt : FoundView → ℕ → Place → Type 0
IsPlaceAt f n x = slice_get f.places n ≡ Some x

abbrev pub IsSettlingAt : FoundView → ℕ → Settling → Type 0
IsSettlingAt f i e = slice_get f.settlings i ≡ Some e

-- the settling with this number has this place and list, and leads to the state
pub record SettlesAt (f : FoundView) (i : ℕ) (y : Place) (s : List Sym) (p : ℕ) : Type 0 where
  pub entry : Settling
  pub there : IsSettlingAt f i entry
  pub place : IsPlaceAt f entry.place y
  pub list : IsList f.lists entry.list s
  pub behind : entry.behind ≡ Some p

-- and it is a sum
pub record SumAt (f : FoundView) (i : ℕ) (y : Place) (s : List Sym) (p : ℕ) : Type 0 where
  pub entry : Settling
  pub there : IsSettlingAt f i entry
  pub place : IsPlaceAt f entry.place y
  pub list : IsList f.lists entry.list s
  pub behind : entry.behind ≡ Some p
  pub is_sum : entry.is_sum ≡ true

-- the list settles at the place with the number
pub record Settles (f : FoundView) (n : ℕ) (s : List Sym) : Type 0 where
  pub number : ℕ
  pub entry : Settling
  pub there : IsSettlingAt f number entry
  pub place : entry.place ≡ n
  pub list : IsList f.lists entry.list s

-- what was found stays
pub record Grows (f g : FoundView) : Type 0 where
  pub lists : (n : ℕ) (s : List Sym) → IsList f.lists n s → IsList g.lists n s
  pub places : (n : ℕ) (x : Place) → IsPlaceAt f n x → IsPlaceAt g n x
  pub settlings : (i : ℕ) (e : Settling) → IsSettlingAt f i e → IsSettlingAt g i e
