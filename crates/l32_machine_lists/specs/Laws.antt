-- Instructions in a code do what they do by themselves, and labels are passed.
use Rattle.std.specs.Prelude.{◌≡◌, ◌+◌, ℕ, List, length, slice_get, Some, None}
use Rattle.l32_core.specs.declared.code.Instr32.{Instr32}
use Rattle.l32_core.specs.declared.code.Item32.TheVariants as item_kind
use Rattle.l32_machine.specs.State.{State}
use Rattle.l32_machine.specs.Running.{state_run}
use Rattle.l32_target_meaning.specs.Running.{run}
use Rattle.l32_machine_lists.specs.Runs.{HasInstrs, Carries}

-- Where instructions stand in the code at the machine's place, its steps do what the instructions do by themselves.
abbrev pub StepsAreTheirs : Type 0
StepsAreTheirs = (is : List Instr32) (m : State) → HasInstrs m.items m.place is → m.over ≡ None → Carries m (length is) (run is m)

-- The run of a state that stands at a label is the run behind the label.
abbrev pub LabelsArePassed : Type 0
LabelsArePassed =
    (m : State) (name : List ℕ) → slice_get m.items m.place ≡ Some (item_kind.Label name)
    → state_run m ≡ state_run (record m { place = m.place + 1 })
