-- When one run follows another: it does what the other does, until the other makes a wild access or nests too deep.
use Rattle.std.specs.Prelude.{◌≡◌, ◌⊎◌, ℕ, ◌<◌, ◌≤◌, List, ◌++◌}
use Rattle.gg_base.specs.declared.run.End.{End}
use Rattle.gg_base.specs.declared.run.End.TheVariants.{Ended, Trapped, Wild, Deep, Spent, Broken}
use Rattle.gg_base.specs.Runs.{Runs}

-- the moment from which on nothing is promised
abbrev pub IsLost : End → Type 0
IsLost (Ended s) = ⊥
IsLost Trapped = ⊥
IsLost Wild = Unit {0}
IsLost Deep = Unit {0}
IsLost Spent = ⊥
IsLost (Broken k) = ⊥

-- some answer of the run is wild or deep
abbrev pub GetsLost : Runs → Type 0
GetsLost r = (n : ℕ) × IsLost (r n).end

-- some answer of the run has this output and this end
abbrev pub Says : Runs → List ℕ → End → Type 0
Says r output end = (n : ℕ) × ((r n).output ≡ output) × ((r n).end ≡ end)

-- some answer of the run has this output
abbrev pub Shows : Runs → List ℕ → Type 0
Shows r output = (n : ℕ) × ((r n).output ≡ output)

-- some answer of the run has an output that begins so
abbrev pub Reaches : Runs → List ℕ → Type 0
Reaches r output = (n : ℕ) × ((more : List ℕ) × ((r n).output ≡ output ++ more))

-- what an answer of the first run asks of the second
abbrev pub Asks : End → List ℕ → Runs → Type 0
Asks (Ended s) output b = Says b output (Ended s)
Asks Trapped output b = Says b output Trapped
Asks Spent output b = Says b output Spent
Asks Wild output b = Shows b output
Asks Deep output b = Shows b output
Asks (Broken k) output b = Unit {0}

-- what an answer of the second run tells of the first
abbrev pub Tells : End → List ℕ → Runs → Type 0
Tells (Ended s) output a = Says a output (Ended s) ⊎ GetsLost a
Tells Trapped output a = Says a output Trapped ⊎ GetsLost a
Tells Spent output a = Reaches a output ⊎ GetsLost a
Tells Wild output a = GetsLost a
Tells Deep output a = GetsLost a
Tells (Broken k) output a = GetsLost a

-- the second run follows the first
pub record Follows (a b : Runs) : Type 0 where
  pub forward : (n : ℕ) → Asks (a n).end (a n).output b
  pub backward : (m : ℕ) → Tells (b m).end (b m).output a

abbrev pub IsBroken : End → Type 0
IsBroken (Ended s) = ⊥
IsBroken Trapped = ⊥
IsBroken Wild = ⊥
IsBroken Deep = ⊥
IsBroken Spent = ⊥
IsBroken (Broken k) = Unit {0}

abbrev pub NeverBroken : Runs → Type 0
NeverBroken r = (n : ℕ) → IsBroken (r n).end → ⊥

-- The half that looks forwards, with the number of a spent run: it is at least as large on the other side.
abbrev pub AsksAt : ℕ → End → List ℕ → Runs → Type 0
AsksAt n (Ended s) output b = Says b output (Ended s)
AsksAt n Trapped output b = Says b output Trapped
AsksAt n Spent output b = (m : ℕ) × ((b m).output ≡ output) × ((b m).end ≡ Spent) × (n ≤ m)
AsksAt n Wild output b = Shows b output
AsksAt n Deep output b = Shows b output
AsksAt n (Broken k) output b = Unit {0}

-- below a bound on the first run's numbers, the second run has what is asked of it
pub record Forward (k : ℕ) (a b : Runs) : Type 0 where
  pub at : (n : ℕ) → n < k → AsksAt n (a n).end (a n).output b
