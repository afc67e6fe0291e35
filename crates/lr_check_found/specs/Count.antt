-- How many tuples the set of sums has.
use Rattle.std.specs.Prelude.{◌≡◌, ℕ, ◌<◌, List, Contains, AllPairs, length}
use Rattle.md_reader.specs.declared.types.Sym.{Sym}
use Rattle.lr_check_sets.specs.Automaton.{Automaton}
use Rattle.lr_check_sets.specs.Sums.{Sum}
use Rattle.lr_check_found.specs.declared.places.Place.{Place}

-- a place, and a list that replaces its subtree
pub record Tuple : Type 0 where
  pub place : Place
  pub list : List Sym

-- more than so many tuples, no two of them the same, are sums
pub record HasMore (A : Automaton) (most : ℕ) : Type 0 where
  pub tuples : List Tuple
  pub many : most < length tuples
  pub apart : AllPairs (λ (x y : Tuple). x ≡ y → ⊥) tuples
  pub each : (x : Tuple) → Contains tuples x → Sum A x.place.state x.place.token x.place.behind x.list
