-- What follows from a place's token and its kids, and from a list that settles.
use Rattle.std.specs.Prelude.{◌≡◌, ℕ, List, [], ◌∷◌, ◌++◌, Some, Contains, length}
use Rattle.tree_core.specs.declared.token.Tok.{Tok}
use Rattle.tree_core.specs.declared.token.Sort.{Sort}
use Rattle.tree_core.specs.Grammar.{kids}
use Rattle.md_reader.specs.declared.types.Sym.{Sym}
use Rattle.md_reader.specs.declared.types.Sym.TheVariants as grammar_symbol
use Rattle.lr_check_found.specs.lr_check_sets.specs.Trees.{May}
use Rattle.lr_check_found.specs.lr_check_sets.specs.Automaton.{Automaton, Production, reduce, walk, size_of, Free}
use Rattle.lr_check_found.specs.declared.choices.Leads.{Leads}
use Rattle.lr_check_found.specs.declared.choices.Leads.TheVariants.{Out, Whole, Inside}
use Rattle.lr_check_found.specs.declared.places.Place.{Place}
use Rattle.lr_check_found.specs.declared.settlings.Settling.{Settling}
use Rattle.lr_check_found.specs.Lists.{IsList}
use Rattle.lr_check_found.specs.Found.{FoundView, place_of, IsPlaceAt, IsSettlingAt, SumAt, Settles}
use Rattle.lr_check_found.specs.Items.{HasOne, HasTwo, Fits}
use Rattle.lr_check_complete.specs.Sets.{HasPlace, HasSum}

-- the place with the number has one kid, for which the place y is a beginning
pub record OneKid (A : Automaton) (f : FoundView) (n : ℕ) (x y : Place) : Type 0 where
  pub there : IsPlaceAt f n x
  pub sort : Sort
  pub behind : ℕ
  pub one : HasOne A x sort behind
  pub fits : Fits y sort behind x.behind

-- each list that the kid's sum has settles behind the token
pub record OneIn (f : FoundView) (n : ℕ) (k : Tok) (i : ℕ) : Type 0 where
  pub settles : (y : Place) (s : List Sym) (j : ℕ) → SumAt f i y s j → Settles f n (s ++ (grammar_symbol.Tok k ∷ []))

-- the kid's place is found, and each of its sums settles behind the token
pub record OnlyAt (f : FoundView) (n : ℕ) (k : Tok) (y : Place) : Type 0 where
  pub place : HasPlace f y.state y.token y.behind
  pub sums : (s : List Sym) → HasSum f y.state y.token y.behind s → Settles f n (s ++ (grammar_symbol.Tok k ∷ []))

-- the only kid of the place, which begins in state p
pub record OnlyIn (f : FoundView) (n : ℕ) (x : Place) (p : ℕ) (w : Sort) : Type 0 where
  pub each : (t : Tok) → May t w → OnlyAt f n x.token (place_of p t x.behind)

-- a sum of the first of two kids, which begins in state p, with m behind it
pub record FirstSum (f : FoundView) (p : ℕ) (w : Sort) (m : Tok) (i : ℕ) : Type 0 where
  pub place : Place
  pub list : List Sym
  pub behind : ℕ
  pub sum : SumAt f i place list behind
  pub fits : Fits place w p m

-- the sum has this list, and begins in state p
pub record HasListAt (f : FoundView) (p i : ℕ) (s : List Sym) : Type 0 where
  pub place : Place
  pub behind : ℕ
  pub sum : SumAt f i place s behind
  pub state : place.state ≡ p

-- each token that may begin the first kid is found there, and each list of its sums is among those with the numbers
pub record FirstsIn (f : FoundView) (p : ℕ) (w : Sort) (m : Tok) (numbers : List ℕ) : Type 0 where
  pub places : (t : Tok) → May t w → HasPlace f p t m
  pub sums : (t : Tok) (s : List Sym) → May t w → HasSum f p t m s → (i : ℕ) × (Contains numbers i × HasListAt f p i s)

-- the place with the number has two kids: the sum i is the first's, and the second begins with m
pub record TwoKids (A : Automaton) (f : FoundView) (n : ℕ) (x : Place) (m : Tok) (i : ℕ) : Type 0 where
  pub there : IsPlaceAt f n x
  pub sort : Sort
  pub second : Sort
  pub over : ℕ
  pub two : HasTwo A x sort second over
  pub first : FirstSum f over sort m i
  pub may : May m second

-- the two kids' lists settle behind the token
pub record TwoIn (f : FoundView) (n : ℕ) (k : Tok) (i h : ℕ) : Type 0 where
  pub settles : (y z : Place) (s u : List Sym) (j l : ℕ) → SumAt f i y s j → SumAt f h z u l
      → Settles f n (u ++ (s ++ (grammar_symbol.Tok k ∷ [])))

-- the second kid, which begins with m, behind the list of the first, which leads to state j
pub record SecondIn (f : FoundView) (n : ℕ) (x : Place) (m : Tok) (s : List Sym) (j : ℕ) : Type 0 where
  pub place : HasPlace f j m x.behind
  pub sums : (u : List Sym) → HasSum f j m x.behind u → Settles f n (u ++ (s ++ (grammar_symbol.Tok x.token ∷ [])))

-- the same behind the list of the sum i
pub record SecondAt (f : FoundView) (n : ℕ) (x : Place) (m : Tok) (i : ℕ) : Type 0 where
  pub each : (y : Place) (s : List Sym) (j : ℕ) → SumAt f i y s j → SecondIn f n x m s j

-- the first of two kids, which begins in state p, with the second's token behind it
pub record FirstIn (A : Automaton) (f : FoundView) (n : ℕ) (x : Place) (p : ℕ) (w : Sort) (m : Tok) : Type 0 where
  pub places : (t : Tok) → May t w → HasPlace f p t m
  pub second : (t : Tok) (s : List Sym) (j : ℕ) → May t w → HasSum f p t m s → walk A p s ≡ Some j → SecondIn f n x m s j

pub record BothIn (A : Automaton) (f : FoundView) (n : ℕ) (x : Place) (p : ℕ) (w v : Sort) : Type 0 where
  pub each : (m : Tok) → May m v → FirstIn A f n x p w m

-- what follows from the place's token and its kids: there are at most two
abbrev pub KidsIn : Automaton → FoundView → ℕ → Place → ℕ → List Sort → Type 0
KidsIn A f n x p [] = Settles f n (grammar_symbol.Tok x.token ∷ [])
KidsIn A f n x p (w ∷ []) = OnlyIn f n x p w
KidsIn A f n x p (w ∷ v ∷ []) = BothIn A f n x p w v
KidsIn A f n x p (w ∷ v ∷ z ∷ xs) = ⊥

-- a state and a token that leads from it, with the places that stand there by number
pub record IsFrame (A : Automaton) (f : FoundView) (q : ℕ) (k : Tok) (p : ℕ) (numbers : List ℕ) : Type 0 where
  pub go : A.go q (grammar_symbol.Tok k) ≡ Some p
  pub places : (n : ℕ) → Contains numbers n → (b : Tok) × IsPlaceAt f n (place_of q k b)
  pub all : (n : ℕ) (b : Tok) → IsPlaceAt f n (place_of q k b) → Contains numbers n

-- P is true of each place with one of the numbers
abbrev pub AtPlaces : FoundView → List ℕ → (ℕ → Place → Type 0) → Type 0
AtPlaces f numbers P = (n : ℕ) → Contains numbers n → (x : Place) → IsPlaceAt f n x → P n x

-- what follows from a choice at a list that settles at the place
abbrev pub LeadsIn : FoundView → ℕ → Leads → Type 0
LeadsIn f n (Out k) = Unit {0}
LeadsIn f n (Whole k) = Settles f n (grammar_symbol.Class k ∷ [])
LeadsIn f n Inside = Unit {0}

-- the reductions of the whole list settle too
pub record ReducesIn (A : Automaton) (f : FoundView) (i : ℕ) : Type 0 where
  pub each : (e : Settling) (x : Place) (s : List Sym) (p : ℕ) (r : Production) → IsSettlingAt f i e → IsPlaceAt f e.place x
      → IsList f.lists e.list s → e.behind ≡ Some p →
      Free (A.candidates p x.behind) (reduce r) → size_of r ≡ length s → Settles f e.place (grammar_symbol.Class r.left ∷ [])

-- what follows from the places of a state and a token
pub record FrameIn (A : Automaton) (f : FoundView) (q : ℕ) (k : Tok) : Type 0 where
  pub each : (p n : ℕ) (b : Tok) → A.go q (grammar_symbol.Tok k) ≡ Some p → IsPlaceAt f n (place_of q k b)
      → KidsIn A f n (place_of q k b) p (kids k)
