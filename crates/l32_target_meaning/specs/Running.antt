-- What a list of instructions makes of a machine's state by the instructions alone: no code is looked at, and the state's place stays.
use Rattle.std.specs.Prelude.{ℕ, Bool, true, false, List, [], ◌∷◌, Option, Some, None, option_to_list, Result, Ok, Err, if◌then◌else◌}
use Rattle.std.specs.Str.{bytes_eq}
use Rattle.l32_templates.specs.vax_templates.specs.gg_base.specs.Arithmetic.{sub32, mul32}
use Rattle.l32_templates.specs.vax_templates.specs.gg_base.specs.Relations.{holds}
use Rattle.l32_templates.specs.vax_templates.specs.vax_core.specs.First.{putchar_name}
use Rattle.vax_target_meaning.specs.vax_machine.specs.Labels.{getchar_name}
use Rattle.l32_templates.specs.vax_templates.specs.sel_target.specs.Courses.{Course, Ending, Comes, Goes, Calls, Returns, Traps, Breaks, ends, comes, followed}
use Rattle.l32_templates.specs.l32_core.specs.declared.code.Instr32.{Instr32}
use Rattle.l32_templates.specs.l32_core.specs.Ops.{shape}
use Rattle.l32_templates.specs.l32_machine.specs.declared.turn.Stop32.{Stop32}
use Rattle.l32_templates.specs.l32_machine.specs.declared.turn.Stop32.TheVariants as stops
use Rattle.l32_templates.specs.l32_machine.specs.declared.operands.Arguments.{Arguments}
use Rattle.l32_templates.specs.l32_machine.specs.declared.function.Action.{Action}
use Rattle.l32_templates.specs.l32_machine.specs.declared.function.Action.TheVariants.{Compute, Branch, Jump, Push, Enter, Call, Return}
use Rattle.l32_templates.specs.l32_machine.specs.State.{State}
use Rattle.l32_templates.specs.l32_machine.specs.Memory.{sp_set}
use Rattle.l32_templates.specs.l32_machine.specs.Operands.{all_evaluated}
use Rattle.l32_templates.specs.l32_machine.specs.Functions.{action_of, applied}
use Rattle.l32_templates.specs.l32_machine.specs.Calls.{Acts, silent, pushed, putchar, getchar}
use Rattle.l32_templates.specs.l32_machine.specs.Step.{finished}

-- instructions end no run by themselves: a return is left to be done
abbrev pub stop_of : Stop32 → Ending Instr32 State
stop_of (stops.Ended value) = Breaks
stop_of stops.Trapped = Traps
stop_of (stops.Broken kind) = Breaks

abbrev pub stopped : Stop32 → Course Instr32 State
stopped e = ends (stop_of e)

abbrev pub breaks : Course Instr32 State
breaks = ends Breaks

-- an act of the machine, as a course
abbrev pub course_of : Acts → Course Instr32 State
course_of (Ok x) = record { written = option_to_list x.0; ending = Comes x.1 }
course_of (Err e) = stopped e

-- a branch goes to its label, or comes behind itself
abbrev pub branching : Bool → Option (List ℕ) → State → Course Instr32 State
branching taken None m = breaks
branching true (Some label) m = ends (Goes label m)
branching false (Some label) m = comes m

-- a service is done at once
abbrev pub calling : ℕ → Option (List ℕ) → State → Course Instr32 State
calling count None m = breaks
calling count (Some name) m =
    if bytes_eq name putchar_name then course_of (putchar m count)
    else if bytes_eq name getchar_name then course_of (getchar m count)
    else ends (Calls name count m [])

-- what is done with the operands
abbrev pub alone : Action → Arguments → Option (List ℕ) → State → Course Instr32 State
alone (Compute f) x target m = course_of (finished m x.destination (applied f x.first x.second))
alone (Branch relation) x target m = branching (holds relation x.first x.second) target m
alone Jump x target m = branching true target m
alone Push x target m = course_of (silent (pushed m x.first))
alone Enter x target m = course_of (silent (sp_set m (sub32 m.sp (mul32 4 x.first))))
alone Call x target m = calling x.first target m
alone Return x target m = ends (Returns m)

-- what is done behind the operands' evaluation, if that is possible
abbrev pub evaluated_then : Instr32 → State → Result Arguments Stop32 → Course Instr32 State
evaluated_then i m (Ok x) = alone (action_of i.op) x i.target m
evaluated_then i m (Err e) = stopped e

-- one instruction
unfoldable pub performed : Instr32 → State → Course Instr32 State
performed i m = evaluated_then i m (all_evaluated m (shape i.op).parts i.operands)

-- instructions, one after another
abbrev pub run : List Instr32 → State → Course Instr32 State
run [] m = comes m
run (i ∷ is) m = followed (performed i m) is (run is)
