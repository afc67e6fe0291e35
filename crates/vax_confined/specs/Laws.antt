-- What confined runs have in common with the machine's.
use Rattle.std.specs.Prelude.{◌≡◌, List, ◌++◌}
use Rattle.vax_machine_lists.specs.vax_core.specs.declared.code.Instr.{Instr}
use Rattle.vax_machine_lists.specs.vax_machine.specs.declared.turn.Stop.TheVariants as stops
use Rattle.vax_machine_lists.specs.vax_machine.specs.State.{State}
use Rattle.vax_machine_lists.specs.Instructions.{Course, Ending, Stops, followed}
use Rattle.vax_machine_lists.specs.Instructions as machine
use Rattle.vax_confined.specs.Confined.{exec}

-- instructions, and others behind them
abbrev pub OneAfterAnother : Type 0
OneAfterAnother = (is js : List Instr) (m : State) → exec (is ++ js) m ≡ followed (exec is m) js (exec js)

-- The other course is the same, unless this one ends by a break.
abbrev pub SameUnless : Ending → Course → Course → Type 0
SameUnless (Stops (stops.Broken kind)) c other = Unit {0}
SameUnless e c other = other ≡ c

abbrev pub IsCourseOf : Course → Course → Type 0
IsCourseOf c other = SameUnless c.ending c other

-- where a confined run doesn't break, the machine's is the same
abbrev pub ConfinedRunsAreRuns : Type 0
ConfinedRunsAreRuns = (is : List Instr) (m : State) → IsCourseOf (exec is m) (machine.exec is m)
