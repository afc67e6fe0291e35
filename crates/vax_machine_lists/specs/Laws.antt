-- Instructions in a code do what they do by themselves.
use Rattle.std.specs.Prelude.{◌≡◌, List, ◌++◌, length, None}
use Rattle.vax_core.specs.declared.code.Instr.{Instr}
use Rattle.vax_machine.specs.State.{State}
use Rattle.vax_machine_lists.specs.Instructions.{exec, followed}
use Rattle.vax_machine_lists.specs.Runs.{HasInstrs, Carries}

-- Where instructions stand in the code at the machine's place, its steps do what the instructions do by themselves.
abbrev pub StepsAreTheirs : Type 0
StepsAreTheirs = (is : List Instr) (m : State) → HasInstrs m.items m.place is → m.over ≡ None → Carries m (length is) (exec is m)

-- instructions, and others behind them
abbrev pub OneAfterAnother : Type 0
OneAfterAnother = (is js : List Instr) (m : State) → exec (is ++ js) m ≡ followed (exec is m) js (exec js)
