-- How places and settlings are found: each follows from others by the rules of the sets.
use Rattle.std.specs.Prelude.{◌≡◌, ℕ, ◌<◌, List, [], ◌∷◌, ◌++◌, Option, Some, length}
use Rattle.tree_core.specs.declared.token.Tok.{Tok}
use Rattle.tree_core.specs.declared.token.Tok.TheVariants as tok
use Rattle.tree_core.specs.declared.token.Sort.{Sort}
use Rattle.tree_core.specs.declared.token.Sort.TheVariants as sort
use Rattle.tree_core.specs.Grammar.{kids}
use Rattle.md_reader.specs.declared.types.Sym.{Sym}
use Rattle.md_reader.specs.declared.types.Sym.TheVariants as grammar_symbol
use Rattle.lr_check_sets.specs.Trees.{May}
use Rattle.lr_check_sets.specs.Automaton.{Automaton, Production, reduce, size_of, Free}
use Rattle.lr_check_found.specs.declared.places.Place.{Place}
use Rattle.lr_check_found.specs.declared.places.Origin.{Origin}
use Rattle.lr_check_found.specs.declared.places.Origin.TheVariants as origin
use Rattle.lr_check_found.specs.declared.settlings.How.{How}
use Rattle.lr_check_found.specs.declared.settlings.How.TheVariants as how
use Rattle.lr_check_found.specs.declared.settlings.Item.{Item}
use Rattle.lr_check_found.specs.declared.settlings.Item.TheVariants as item
use Rattle.lr_check_found.specs.declared.settlings.Settling.{Settling}
use Rattle.lr_check_found.specs.Lists.{IsList}
use Rattle.lr_check_found.specs.Found.{FoundView, IsPlaceAt, IsSettlingAt, SumAt}

-- the token of a place, which leads to state p, and its only kid
pub record HasOne (A : Automaton) (x : Place) (w : Sort) (p : ℕ) : Type 0 where
  pub go : A.go x.state (grammar_symbol.Tok x.token) ≡ Some p
  pub kid : kids x.token ≡ w ∷ []

-- and its two kids
pub record HasTwo (A : Automaton) (x : Place) (w v : Sort) (p : ℕ) : Type 0 where
  pub go : A.go x.state (grammar_symbol.Tok x.token) ≡ Some p
  pub kid : kids x.token ≡ w ∷ v ∷ []

-- a subtree at y may be the kid that is wanted in state p, with b behind it
pub record Fits (y : Place) (w : Sort) (p : ℕ) (b : Tok) : Type 0 where
  pub state : y.state ≡ p
  pub may : May y.token w
  pub behind : y.behind ≡ b

-- how a place begins
pub data Begun (A : Automaton) (f : FoundView) (x : Place) : Origin → Type 0 where
  root : Fits x sort.Stmt 0 tok.End → Begun A f x origin.Root
  only : {i p : ℕ} {y : Place} {w : Sort} → IsPlaceAt f i y → HasOne A y w p → Fits x w p y.behind → Begun A f x (origin.First i)
  first : {i p : ℕ} {y : Place} {w v : Sort} (m : Tok) → IsPlaceAt f i y → HasTwo A y w v p → Fits x w p m → May m v
      → Begun A f x (origin.First i)
  second : {i n p j : ℕ} {y z : Place} {w v : Sort} {s : List Sym} →
      IsPlaceAt f i y → HasTwo A y w v p → SumAt f n z s j → Fits z w p x.token → Fits x v j y.behind → Begun A f x (origin.Second i n)

-- how a list settles at the place x with the number n
pub data Made (A : Automaton) (f : FoundView) (n : ℕ) (x : Place) : How → List Sym → Type 0 where
  leaf : {p : ℕ} → A.go x.state (grammar_symbol.Tok x.token) ≡ Some p → kids x.token ≡ []
      → Made A f n x how.Leaf (grammar_symbol.Tok x.token ∷ [])
  one : {i p j : ℕ} {y : Place} {w : Sort} {s : List Sym} →
      HasOne A x w p → SumAt f i y s j → Fits y w p x.behind → Made A f n x (how.One i) (s ++ (grammar_symbol.Tok x.token ∷ []))
  two : {i k p j h : ℕ} {y z : Place} {w v : Sort} {s u : List Sym} →
      HasTwo A x w v p → SumAt f i y s j → Fits y w p z.token → SumAt f k z u h → Fits z v j x.behind →
      Made A f n x (how.Two i k) (u ++ (s ++ (grammar_symbol.Tok x.token ∷ [])))
  made_by_reduction : {i p : ℕ} {s : List Sym} (e : Settling) (r : Production) →
      IsSettlingAt f i e → e.place ≡ n → IsList f.lists e.list s → e.behind ≡ Some p → Free (A.candidates p x.behind) (reduce r)
      → size_of r ≡ length s →
      Made A f n x (how.Reduced i r.left) (grammar_symbol.Class r.left ∷ [])

-- the state behind the list that settles so
pub data IsBehind (A : Automaton) (f : FoundView) (x : Place) : How → Option ℕ → Type 0 where
  behind_leaf : IsBehind A f x how.Leaf (A.go x.state (grammar_symbol.Tok x.token))
  behind_one : {i : ℕ} {e : Settling} → IsSettlingAt f i e → IsBehind A f x (how.One i) e.behind
  behind_two : {i k : ℕ} {e : Settling} → IsSettlingAt f k e → IsBehind A f x (how.Two i k) e.behind
  behind_reduced : {i c : ℕ} → IsBehind A f x (how.Reduced i c) (A.go x.state (grammar_symbol.Class c))

-- it follows from what was found before it
abbrev pub IsEarlier : ℕ → Origin → Type 0
IsEarlier n origin.Root = Unit {0}
IsEarlier n (origin.First i) = i < n
IsEarlier n (origin.Second i k) = i < n

abbrev pub IsLater : ℕ → How → Type 0
IsLater n how.Leaf = Unit {0}
IsLater n (how.One i) = i < n
IsLater n (how.Two i k) = (i < n) × (k < n)
IsLater n (how.Reduced i c) = i < n

-- what is to be added follows
pub record HasMade (A : Automaton) (f : FoundView) (n : ℕ) (h : How) : Type 0 where
  pub place : Place
  pub list : List Sym
  pub there : IsPlaceAt f n place
  pub made : Made A f n place h list

abbrev pub IsItem : Automaton → FoundView → Item → Type 0
IsItem A f (item.Place x o) = Begun A f x o
IsItem A f (item.Settling n h) = HasMade A f n h
