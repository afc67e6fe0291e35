-- What is wrong with what was found, and where.
use Rattle.std.specs.Prelude.{◌≡◌, ℕ, List, [], ◌∷◌, ◌++◌, Some}
use Rattle.lr_check_found.specs.tree_core.specs.declared.token.Tok.{Tok}
use Rattle.lr_check_found.specs.md_reader.specs.declared.types.Sym.{Sym}
use Rattle.lr_check_found.specs.md_reader.specs.declared.types.Sym.TheVariants as grammar_symbol
use Rattle.lr_check_found.specs.lr_check_sets.specs.Automaton.{Automaton, Production, reduce, size_of, Free, CanBlock}
use Rattle.lr_check_found.specs.lr_check_sets.specs.Faults.{Circles, Fault}
use Rattle.lr_check_found.specs.declared.places.Place.{Place}
use Rattle.lr_check_found.specs.Found.{FoundView, IsPlaceAt, SettlesAt}
use Rattle.lr_check_found.specs.Sound.{IsFound}
use Rattle.lr_check_flaws.specs.declared.flaws.Flaw.{Flaw}
use Rattle.lr_check_flaws.specs.declared.flaws.Flaw.TheVariants.{Gap, Dead, Circle}

-- a reduction of the class c alone leads to the class d
pub record StepsTo (A : Automaton) (q : ℕ) (t : Tok) (c d : ℕ) : Type 0 where
  pub at : ℕ
  pub rule : Production
  pub go : A.go q (grammar_symbol.Class c) ≡ Some at
  pub free : Free (A.candidates at t) (reduce rule)
  pub one : size_of rule ≡ 1
  pub left : rule.left ≡ d

-- such reductions, at least one, lead from a class along these classes to the last of them
pub data Along (A : Automaton) (q : ℕ) (t : Tok) : ℕ → List ℕ → ℕ → Type 0 where
  along_one : {c d : ℕ} → StepsTo A q t c d → Along A q t c (d ∷ []) d
  along_on : {c d e : ℕ} {ds : List ℕ} → Along A q t c ds d → StepsTo A q t d e → Along A q t c (ds ++ e ∷ []) e

-- the token of the place with the number is not shifted
pub record IsGapAt (A : Automaton) (f : FoundView) (n : ℕ) : Type 0 where
  pub place : Place
  pub there : IsPlaceAt f n place
  pub unshifted : (p : ℕ) → A.go place.state (grammar_symbol.Tok place.token) ≡ Some p → ⊥

-- behind the list of the settling with the number some answers take nothing
pub record IsDeadAt (A : Automaton) (f : FoundView) (i : ℕ) : Type 0 where
  pub place : Place
  pub list : List Sym
  pub behind : ℕ
  pub settles : SettlesAt f i place list behind
  pub nothing : CanBlock (A.candidates behind place.behind)

-- the settling with the number is a class alone, from which reductions lead along these classes back to it
pub record IsCircleAt (A : Automaton) (f : FoundView) (i : ℕ) (classes : List ℕ) : Type 0 where
  pub place : Place
  pub class : ℕ
  pub behind : ℕ
  pub settles : SettlesAt f i place (grammar_symbol.Class class ∷ []) behind
  pub along : Along A place.state place.behind class classes class

-- the flaw is there
abbrev pub IsFlaw : Automaton → FoundView → Flaw → Type 0
IsFlaw A f (Gap n) = IsGapAt A f n
IsFlaw A f (Dead i) = IsDeadAt A f i
IsFlaw A f (Circle i classes) = IsCircleAt A f i classes.items

-- a flaw of what was found is a fault of the sets
abbrev pub FlawsAreFaults : Type 0
FlawsAreFaults = (A : Automaton) (f : FoundView) (w : Flaw) → IsFound A f → IsFlaw A f w → Fault A

-- such steps are reductions of whole lists
abbrev pub AlongCircles : Type 0
AlongCircles =
    (A : Automaton) (q : ℕ) (t : Tok) (c d : ℕ) (ds : List ℕ) → Along A q t c ds d →
    Circles A q t (grammar_symbol.Class c ∷ []) (grammar_symbol.Class d ∷ [])
