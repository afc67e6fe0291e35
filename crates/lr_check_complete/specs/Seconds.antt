-- The second of two kids, behind a sum of the first.
use Rattle.std.specs.Prelude.{ℕ, List, [], ◌∷◌, ◌++◌}
use Rattle.tree_core.specs.declared.token.Sort.{Sort}
use Rattle.md_reader.specs.declared.types.Sym.{Sym}
use Rattle.md_reader.specs.declared.types.Sym.TheVariants as grammar_symbol
use Rattle.tree_core.specs.declared.token.Tok.{Tok}
use Rattle.lr_check_found.specs.lr_check_sets.specs.Automaton.{Automaton}
use Rattle.lr_check_found.specs.declared.places.Place.{Place}
use Rattle.lr_check_found.specs.Found.{FoundView, IsPlaceAt, SumAt, Settles}
use Rattle.lr_check_found.specs.Items.{HasTwo, Fits}
use Rattle.lr_check_complete.specs.Sets.{HasPlace, HasSum}

-- the place with the number has two kids: the sum i is the first's, and y is a beginning of the second behind it
pub record SecondKid (A : Automaton) (f : FoundView) (n : ℕ) (x : Place) (i : ℕ) (y : Place) : Type 0 where
  pub there : IsPlaceAt f n x
  pub sort : Sort
  pub second : Sort
  pub over : ℕ
  pub two : HasTwo A x sort second over
  pub place : Place
  pub list : List Sym
  pub behind : ℕ
  pub sum : SumAt f i place list behind
  pub first : Fits place sort over y.token
  pub fits : Fits y second behind x.behind

-- the second kid's place is found, and each of its sums settles behind the token and the first's list
pub record SecondFound (f : FoundView) (n : ℕ) (k : Tok) (i : ℕ) (y : Place) : Type 0 where
  pub place : HasPlace f y.state y.token y.behind
  pub sums : (z : Place) (s u : List Sym) (j : ℕ) → SumAt f i z s j → HasSum f y.state y.token y.behind u
      → Settles f n (u ++ (s ++ (grammar_symbol.Tok k ∷ [])))
