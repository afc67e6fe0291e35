-- What a piece of code does, as a tree: events in their order, questions at branches, and where the piece ends.
-- Numbers are terms over symbols: registers at the beginning of the piece, and what was read since.
use Rattle.std.specs.Prelude.{◌≡◌, ℕ, ◌<◌, Bool, true, false, List, Some, Result, Ok, Err}
use Rattle.vax_machine_lists.specs.vax_core.specs.declared.code.CodeItem.{CodeItem}
use Rattle.vax_machine_lists.specs.vax_machine.specs.declared.turn.Stop.{Stop}
use Rattle.vax_machine_lists.specs.vax_machine.specs.declared.function.Test.{Test}
use Rattle.vax_machine_lists.specs.vax_machine.specs.State.{State}
use Rattle.vax_machine_lists.specs.vax_machine.specs.Functions.{passes}
use Rattle.vax_machine_lists.specs.vax_machine.specs.Labels.{label_place}
use Rattle.vax_machine_lists.specs.vax_machine.specs.Calls.{called, silent, returned}
use Rattle.vax_machine_lists.specs.vax_machine.specs.Step.{Stops, act, step_of}
use Rattle.vax_pairs.specs.Ways.{Way}
use Rattle.vax_pairs.specs.Events.{Event, occurs, wrote}
use Rattle.vax_pairs.specs.TermStates.{TermState, coded, dressed}

pub data Tree : Type 0 where
  Emits : Event → Tree → Tree
  Asks : (t : Test) (s : TermState) (yes no : Tree) → Tree
  -- a place that stands to one of the other code; whether a step was done before
  Arrives : (moved : Bool) (place : ℕ) (s : TermState) → Tree
  CallsHere : (count : ℕ) (name : List ℕ) (behind : ℕ) (s : TermState) → Tree
  ReturnsHere : (behind : ℕ) (s : TermState) → Tree

abbrev pub Choose : Bool → Type 0 → Type 0 → Type 0
Choose true A B = A
Choose false A B = B

-- the run from x is over so, and has written these bytes
abbrev pub Halts : State → List ℕ → Stop → Type 0
Halts x w e = (y : State) × ((k : ℕ) × (Way y x w k × (step_of y ≡ Stops e)))

abbrev pub Behind : State → List ℕ → (List ℕ → State → Type 0) → Result (List ℕ × State) Stop → Type 0
Behind x w P (Ok z) = P z.0 z.1
Behind x w P (Err e) = Halts x w e

-- From x the machine does what a tree says, and has written w so far: m has the data, the stack, the control words and the input, and all
-- that no piece changes.
abbrev pub DoesTree : List CodeItem → Tree → List ℕ → State → State → List ℕ → Type 0
DoesTree items (Emits e t) env m x w = Behind x w (λ more n. DoesTree items t more n x (wrote e env w)) (occurs e env m)
DoesTree items (Asks t s a b) env m x w =
    Choose (passes t (coded env m.conditions s)) (DoesTree items a env m x w) (DoesTree items b env m x w)
DoesTree items (Arrives moved place s) env m x w = (k : ℕ) × (Way (dressed env m place s) x w k × (moved ≡ true → 0 < k))
DoesTree items (CallsHere count name behind s) env m x w =
    (p : ℕ) × ((k : ℕ) × (Way (dressed env m p s) x w k
    × (act (dressed env m p s) ≡ silent (called (dressed env m behind s) count (label_place items name) (Some behind)))))
DoesTree items (ReturnsHere behind s) env m x w =
    (p : ℕ) × ((k : ℕ) × (Way (dressed env m p s) x w k × (act (dressed env m p s) ≡ returned (dressed env m behind s))))
