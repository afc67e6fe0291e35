-- What a node is asked while reductions of a class alone turn round.
use Rattle.std.specs.Prelude.{◌≡◌, ℕ, ◌≤◌, List, [], ◌∷◌, zero, suc, length, slice_index_or}
use Rattle.md_reader.specs.declared.types.Sym.TheVariants as grammar_symbol
use Rattle.lr_check_found.specs.lr_check_sets.specs.Automaton.{Automaton}
use Rattle.lr_check_found.specs.declared.places.Place.{Place}
use Rattle.lr_check_samples.specs.Samples.{Turning}
use Rattle.lr_check_flaws.specs.Flaws.{Along}
use Rattle.lr_check_drawn.specs.Asked.{AskedView}

-- from the one class to the other it is asked so
abbrev pub HasTurned : Automaton → Place → ℕ → ℕ → AskedView → Type 0
HasTurned A x c d a = Turning A x.state x.behind (grammar_symbol.Class c ∷ []) (grammar_symbol.Class d ∷ []) a.own a.depths

-- reductions lead along these classes
pub record LeadsOn (A : Automaton) (x : Place) (c : ℕ) (ds : List ℕ) : Type 0 where
  pub last : ℕ
  pub along : Along A x.state x.behind c ds last

-- and back to the first
pub record IsRound (A : Automaton) (x : Place) (ds : List ℕ) : Type 0 where
  pub class : ℕ
  pub along : Along A x.state x.behind class ds class

-- the class before the one with the number
abbrev pub class_before : ℕ → List ℕ → ℕ → ℕ
class_before c ds zero = c
class_before c ds (suc n) = slice_index_or ds n c

-- by so many of the classes
pub data Turned (A : Automaton) (x : Place) (c : ℕ) (d : ℕ) (a : AskedView) : ℕ → Type 0 where
  turned_not : c ≡ d → a ≡ record { own = []; depths = [] } → Turned A x c d a 0
  turned_so : (n : ℕ) → HasTurned A x c d a → Turned A x c d a (suc n)

-- the turns so far
pub record Turns (A : Automaton) (x : Place) (c : ℕ) (ds : List ℕ) (from : ℕ) (a : AskedView) (n : ℕ) : Type 0 where
  pub within : n ≤ length ds
  pub from_before : from ≡ class_before c ds n
  pub turned : Turned A x c from a n
