-- What lists of instructions do, as a target says it: they run confined, so what touches memory that is no tree's breaks.
use Rattle.std.specs.Prelude.{ℕ, List}
use Rattle.vax_templates.specs.vax_core.specs.declared.code.Instr.{Instr}
use Rattle.vax_states.specs.vax_machine.specs.declared.turn.Stop.{Stop}
use Rattle.vax_states.specs.vax_machine.specs.declared.turn.Stop.TheVariants as stops
use Rattle.vax_states.specs.vax_machine.specs.State.{State}
use Rattle.vax_states.specs.vax_machine_lists.specs.Instructions as lists
use Rattle.vax_confined.specs.Confined as confined
use Rattle.vax_templates.specs.sel_target.specs.Courses.{Course, Ending, Comes, Goes, Calls, Returns, Traps, Breaks}

-- instructions end no run by themselves: a return is left to be done
abbrev pub stop_of : Stop → Ending Instr State
stop_of (stops.Ended value) = Breaks
stop_of stops.Trapped = Traps
stop_of (stops.Broken kind) = Breaks

abbrev pub ending_of : lists.Ending → Ending Instr State
ending_of (lists.Comes m) = Comes m
ending_of (lists.Goes label m) = Goes label m
ending_of (lists.Calls name count m rest) = Calls name count m rest
ending_of (lists.Returns m) = Returns m
ending_of (lists.Stops e) = stop_of e

abbrev pub course_of : lists.Course → Course Instr State
course_of c = record { written = c.written; ending = ending_of c.ending }

abbrev pub run : List Instr → State → Course Instr State
run is m = course_of (confined.exec is m)
