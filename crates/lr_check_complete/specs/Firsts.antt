-- The sums of the first of two kids, one for each list.
use Rattle.std.specs.Prelude.{◌≡◌, ◌⊎◌, ℕ, List, Contains}
use Rattle.tree_core.specs.declared.token.Sort.{Sort}
use Rattle.md_reader.specs.declared.types.Sym.{Sym}
use Rattle.lr_check_found.specs.lr_check_sets.specs.Trees.{May}
use Rattle.lr_check_found.specs.lr_check_sets.specs.Automaton.{Automaton}
use Rattle.lr_check_found.specs.declared.places.Place.{Place}
use Rattle.lr_check_found.specs.Lists.{IsList}
use Rattle.lr_check_found.specs.Found.{FoundView, IsPlaceAt, SumAt}
use Rattle.lr_check_found.specs.Items.{HasTwo, Fits}
use Rattle.lr_check_found.specs.Adding.{list_number}
use Rattle.lr_check_complete.specs.Sets.{HasPlace, HasSum}

-- some sum among the numbers has the list of the sum i
pub record HasListOf (f : FoundView) (numbers : List ℕ) (i : ℕ) : Type 0 where
  pub number : ℕ
  pub there : Contains numbers number
  pub same : list_number f number ≡ list_number f i

-- the sum comes to the numbers before, unless one of them has its list
pub record AddsList (f : FoundView) (i : ℕ) (before after : List ℕ) : Type 0 where
  pub kept : (n : ℕ) → Contains before n → Contains after n
  pub only : (n : ℕ) → Contains after n → Contains before n ⊎ (n ≡ i)
  pub there : HasListOf f after i

-- the same for each of the sums
pub record AddsLists (f : FoundView) (sums before after : List ℕ) : Type 0 where
  pub kept : (n : ℕ) → Contains before n → Contains after n
  pub only : (n : ℕ) → Contains after n → Contains before n ⊎ Contains sums n
  pub there : (i : ℕ) → Contains sums i → HasListOf f after i

-- the place with the number has two kids, for the first of which y is a beginning
pub record FirstKid (A : Automaton) (f : FoundView) (n : ℕ) (x y : Place) : Type 0 where
  pub there : IsPlaceAt f n x
  pub sort : Sort
  pub second : Sort
  pub over : ℕ
  pub two : HasTwo A x sort second over
  pub fits : Fits y sort over y.behind
  pub may : May y.behind second

-- the first kid's place is found, and each list of its sums is among those with the numbers
pub record FirstAt (f : FoundView) (y : Place) (numbers : List ℕ) : Type 0 where
  pub place : HasPlace f y.state y.token y.behind
  pub sums : (s : List Sym) → HasSum f y.state y.token y.behind s → (i : ℕ) × (Contains numbers i × IsList f.lists (list_number f i) s)

-- a sum of the place
pub record SumOf (f : FoundView) (y : Place) (i : ℕ) : Type 0 where
  pub list : List Sym
  pub behind : ℕ
  pub sum : SumAt f i y list behind
