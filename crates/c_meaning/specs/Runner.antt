-- What a step of a machine does to the run that is still to come.
use Rattle.std.specs.Prelude.{◌≡◌, ℕ, ◌+◌, ◌<◌, List, [], ◌∷◌, Bool, true, false}
use Rattle.gg_base.specs.declared.run.End.TheVariants as ends
use Rattle.gg_base.specs.declared.run.SourceTurn.{SourceTurn}
use Rattle.gg_base.specs.declared.run.SourceTurn.TheVariants as turns
use Rattle.gg_base.specs.Runs.{Outcome, Runs, Remaining, stop, emit, counted}
use Rattle.gg_base.specs.Turns.{Turns, counted_from, end_of}
use Rattle.c_program.specs.Statements.{AnAction, SomeActions}
use Rattle.c_meaning.specs.declared.flow.Flow.{Flow}
use Rattle.c_meaning.specs.declared.flow.Event.{Event}
use Rattle.c_meaning.specs.declared.flow.Event.TheVariants.{Quiet, Wrote, Counted, Stopped}
use Rattle.c_meaning.specs.declared.frame.ValueFrame.{ValueFrame}
use Rattle.c_meaning.specs.declared.frame.FlowFrame.{FlowFrame}
use Rattle.c_meaning.specs.declared.frame.Frame.{Frame}
use Rattle.c_meaning.specs.declared.frame.Control.{Control}
use Rattle.c_meaning.specs.declared.machine.Machine.{Machine}
use Rattle.c_meaning.specs.State.{State}
use Rattle.c_meaning.specs.Turns.{answers}
use Rattle.c_meaning.specs.Meaning.{stmt, stmts}
use Rattle.c_meaning.specs.Work.{act_work, acts_work}
use Rattle.c_meaning.specs.Parts.{state}
use Rattle.c_meaning.specs.Pending.{Then, program_of, tasks_of, with_flow, resume, leave, before, going, waits, to_come}
use Rattle.c_meaning.specs.FrameWork.{value_work, flow_work, frame_work, frames_work, control_work, work}

-- What is left of a run behind an event. A quiet one leaves less than `bound` to do.
abbrev pub Progress : Runs → ℕ → Event → Machine → Type 0
Progress run bound Quiet new = (run ≡ to_come new) × (work new < bound)
Progress run bound (Wrote b) new = run ≡ emit b (to_come new)
Progress run bound Counted new = run ≡ counted (to_come new)
Progress run bound (Stopped e) new = (run ≡ stop (end_of e)) × (to_come new ≡ stop (end_of e))

-- A machine makes progress with a run, which goes on with what waits in it.
pub record Makes (old : Machine) (run : Then → State → Runs) (amount : ℕ) (event : Event) (new : Machine) : Type 0 where
  pub progress : Progress (run (waits old) (state old.store)) (amount + frames_work old.frames.items) event new

-- it does a control
abbrev pub Does : Machine → Control → Event → Machine → Type 0
Does old c event new = Makes old (going (program_of old) c) (control_work c) event new

abbrev pub Steps : Machine → Event → Machine → Type 0
Steps old event new = Does old old.control event new

-- it does a statement, or statements one after another
abbrev pub Performs : Machine → AnAction → Event → Machine → Type 0
Performs old a event new =
    Makes old (λ κ. stmt (program_of old) (tasks_of old) a (with_flow κ)) (act_work a) event new

abbrev pub Blocks : Machine → SomeActions → Event → Machine → Type 0
Blocks old row event new =
    Makes old (λ κ. stmts (program_of old) (tasks_of old) row (with_flow κ)) (acts_work row) event new

-- a control is what is done next
abbrev pub Goes : Machine → Control → Event → Machine → Type 0
Goes old c event new = Makes old (going (program_of old) c) (control_work c + 1) event new

-- and one more frame waits for it
abbrev pub Waiting : Machine → Frame → Control → Event → Machine → Type 0
Waiting old f c event new = Makes old (λ κ. going (program_of old) c (before (program_of old) f κ))
    (control_work c + frame_work f + 1) event new

-- and something is counted
abbrev pub Counts : Machine → Frame → Control → Event → Machine → Type 0
Counts old f c event new = Makes old (λ κ st. counted (going (program_of old) c (before (program_of old) f κ)
    st)) 0 event new

-- a frame that is off the list is given a value, or is told how a statement was left
abbrev pub Resumes : Machine → ValueFrame → ℕ → Event → Machine → Type 0
Resumes old f v event new = Makes old (λ κ. resume (program_of old) f κ v) (value_work f + 1) event new

abbrev pub GoesOn : Machine → FlowFrame → Flow → Event → Machine → Type 0
GoesOn old f w event new = Makes old (λ κ. leave (program_of old) f κ w) (flow_work f + 1) event new

-- steps up to what shows
abbrev pub Reaches : Machine → Event → Machine → Type 0
Reaches old Quiet new = ⊥
Reaches old (Wrote b) new = to_come old ≡ emit b (to_come new)
Reaches old Counted new = to_come old ≡ counted (to_come new)
Reaches old (Stopped e) new = (to_come old ≡ stop (end_of e)) × (to_come new ≡ stop (end_of e))

-- where a run stands; its number counts from its begin
abbrev pub to_go : Bool → Machine → ℕ → Outcome
to_go true m left = record { output = []; end = ends.Spent; number = 0 }
to_go false m left = to_come m left

abbrev pub remaining : Machine → ℕ → ℕ → Bool → Bool → Remaining
remaining m left taken spent failed = record { outcome = counted_from taken (to_go spent m left); taken = taken; failed = failed }

-- the answers that are still to come: one alone once the number was used up
abbrev pub answers_left : Bool → Machine → ℕ → List SourceTurn
answers_left true m left = turns.Spent ∷ []
answers_left false m left = answers (to_come m) left

abbrev pub turns_of : Machine → ℕ → ℕ → Bool → Bool → Turns
turns_of m left taken spent failed = record { answers = answers_left spent m left; remaining = remaining m left taken spent failed }
