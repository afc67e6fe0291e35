-- What steps of the machine do, and instructions that stand in its code.
use Rattle.std.specs.Prelude.{◌≡◌, ℕ, ◌+◌, List, [], ◌∷◌, ◌++◌, length, slice_get, Some, None, Ok, Err}
use Rattle.vax_core.specs.declared.code.Instr.{Instr}
use Rattle.vax_core.specs.declared.code.CodeItem.{CodeItem}
use Rattle.vax_core.specs.declared.code.CodeItem.TheVariants as item_kind
use Rattle.vax_machine.specs.declared.turn.Stop.{Stop}
use Rattle.vax_machine.specs.State.{State}
use Rattle.vax_machine.specs.Labels.{label_place}
use Rattle.vax_machine.specs.Calls.{Acts, called, silent, returned}
use Rattle.vax_machine.specs.Step.{act}
use Rattle.vax_machine.specs.Running.{end_of, steps}
use Rattle.vax_machine_lists.specs.Instructions.{Course, Ending, Comes, Goes, Calls, Returns, Stops}

-- So many steps lead from a state to another and write these bytes: what comes behind them is what the other does.
pub record Leads (m : State) (written : List ℕ) (count : ℕ) (n : State) : Type 0 where
  pub output : (i : ℕ) → (steps (count + i) m).output ≡ written ++ (steps i n).output
  pub end : (i : ℕ) → (steps (count + i) m).end ≡ (steps i n).end

-- After so many steps the run is over; it has written these bytes.
pub record Halts (m : State) (written : List ℕ) (count : ℕ) (e : Stop) : Type 0 where
  pub output : (i : ℕ) → (steps (count + i) m).output ≡ written
  pub end : (i : ℕ) → (steps (count + i) m).end ≡ end_of e

-- These steps lead to a state in which this is done next.
pub record Gets (m : State) (written : List ℕ) (count : ℕ) (acts : Acts) : Type 0 where
  pub state : State
  pub leads : Leads m written count state
  pub going : state.over ≡ None
  pub acts_so : act state ≡ acts

-- instructions stand from a place on
abbrev pub HasInstrs : List CodeItem → ℕ → List Instr → Type 0
HasInstrs code place [] = Unit {0}
HasInstrs code place (i ∷ is) = (slice_get code place ≡ Some (item_kind.Instr i)) × HasInstrs code (place + 1) is

-- a state at a place of the code that the machine m runs
abbrev pub at_of : State → State → ℕ → State
at_of m n place = record n { place = place; items = m.items; over = m.over }

-- The machine's steps from a state do what a course says, its instructions being so many.
abbrev pub CarriesTo : State → ℕ → List ℕ → Ending → Type 0
CarriesTo m count w (Comes n) = Leads m w count (at_of m n (m.place + count))
CarriesTo m count w (Goes label n) = (j : ℕ) × Gets m w j (Ok (None, at_of m n (label_place m.items label)))
CarriesTo m count w (Calls name args n rest) =
    (j : ℕ) × (place : ℕ) × (place + length rest ≡ m.place + count)
    × Gets m w j (silent (called (at_of m n place) args (label_place m.items name) (Some place)))
CarriesTo m count w (Returns n) = (j : ℕ) × (place : ℕ) × Gets m w j (returned (at_of m n place))
CarriesTo m count w (Stops e) = (j : ℕ) × Gets m w j (Err e)

abbrev pub Carries : State → ℕ → Course → Type 0
Carries m count c = CarriesTo m count c.written c.ending
