-- What the work that waits means, in the words of the program's meaning.
use Rattle.std.specs.Prelude.{ℕ, List, [], ◌∷◌, ◌++◌, map}
use Rattle.gg_base.specs.declared.run.End.TheVariants as ends
use Rattle.gg_base.specs.Runs.{Runs, stop}
use Rattle.gg_base.specs.Turns.{end_of}
use Rattle.c_types.specs.declared.types.CType.{CType}
use Rattle.c_types.specs.Constants.{converted, apply_unary}
use Rattle.c_types.specs.Typed.{expression_of, expressions_of}
use Rattle.c_program.specs.Statements.{act, acts, declaration}
use Rattle.c_program.specs.Programs.{AProgram, program}
use Rattle.c_meaning.specs.declared.flow.Flow.{Flow}
use Rattle.c_meaning.specs.declared.flow.Flow.TheVariants.{Onward, Returned}
use Rattle.c_meaning.specs.declared.operator.Operator.TheVariants as operators
use Rattle.c_meaning.specs.declared.store.Spot.{Spot}
use Rattle.c_meaning.specs.declared.store.Spot.TheVariants.{Memory}
use Rattle.c_meaning.specs.declared.frame.Use.{Use}
use Rattle.c_meaning.specs.declared.frame.Use.TheVariants as uses
use Rattle.c_meaning.specs.declared.frame.ValueFrame.{ValueFrame}
use Rattle.c_meaning.specs.declared.frame.ValueFrame.TheVariants as waiting
use Rattle.c_meaning.specs.declared.frame.FlowFrame.{FlowFrame}
use Rattle.c_meaning.specs.declared.frame.FlowFrame.TheVariants as leaving
use Rattle.c_meaning.specs.declared.frame.Frame.{Frame}
use Rattle.c_meaning.specs.declared.frame.Frame.TheVariants.{ForValue, ForArgument, ForFlow, ForCall}
use Rattle.c_meaning.specs.declared.frame.Control.{Control}
use Rattle.c_meaning.specs.declared.frame.Control.TheVariants as controls
use Rattle.c_meaning.specs.declared.machine.Machine.{Machine}
use Rattle.c_meaning.specs.State.{State}
use Rattle.c_meaning.specs.Values.{Rest, Behind, Next, Look, chosen, logical, or_trap, read_at, store_at, step_at}
use Rattle.c_meaning.specs.Values.{address_of}
use Rattle.c_meaning.specs.Blocks.{released, block_set}
use Rattle.c_meaning.specs.Calls.{passed, answer, call}
use Rattle.c_meaning.specs.Meaning.{expr, arguments, dropped, turned, look_at, turn_at, local_set, declared, followed}
use Rattle.c_meaning.specs.Meaning.{stmt, stmts}
use Rattle.c_meaning.specs.Programs.{means, finished}
use Rattle.c_meaning.specs.Parts.{activation, state, maybe_bor, loop_of, combined, changed}

-- what waits is given a value, or is told how a statement was left
pub data Signal : Type 0 where
  Valued : (v : ℕ) → Signal
  Leaves : (w : Flow) → Signal

abbrev pub Then : Type 0
Then = Signal → State → Runs

abbrev pub with_value : Then → Rest
with_value κ v = κ (Valued v)

abbrev pub with_flow : Then → Behind
with_flow κ w = κ (Leaves w)

module _ (p : AProgram) where
  -- what is done with a place once it is found
  abbrev pub used : Use → CType → Spot → Rest → State → Runs
  used uses.Read t s κ = read_at t s κ
  used uses.Address t s κ = address_of s κ
  used (uses.Step m by) t s κ = step_at m by t s κ
  used (uses.Assign e) t s κ = expr p (means p) (expression_of e.now.value) (λ v. store_at t s v κ)
  used (uses.Change op e) t s κ =
      read_at t s (λ x. expr p (means p) (expression_of e.now.value) (λ y. changed t s (operators.Arithmetic op) x y κ))
  used (uses.Advance e) t s κ =
      read_at t s (λ x. expr p (means p) (expression_of e.now.value) (λ y. changed t s (operators.Advance t) x y κ))
  used (uses.Retreat e) t s κ =
      read_at t s (λ x. expr p (means p) (expression_of e.now.value) (λ y. changed t s (operators.Retreat t) x y κ))

  -- a value comes to work that waits
  abbrev pub resume : ValueFrame → Then → Rest
  resume (waiting.Unary op) κ v = κ (Valued (apply_unary op v))
  resume (waiting.Convert t) κ v = κ (Valued (converted t v))
  resume (waiting.Right op e) κ x = expr p (means p) (expression_of e.now.value) (λ y. or_trap (combined op x y) (with_value κ))
  resume (waiting.Last op x) κ y = or_trap (combined op x y) (with_value κ)
  resume (waiting.AndRight e) κ x = λ st.
      chosen x (expr p (means p) (expression_of e.now.value) (λ y. κ (Valued (logical y))) st) (κ (Valued 0) st)
  resume (waiting.OrRight e) κ x = λ st.
      chosen x (κ (Valued 1) st) (expr p (means p) (expression_of e.now.value) (λ y. κ (Valued (logical y))) st)
  resume waiting.Truth κ y = κ (Valued (logical y))
  resume (waiting.Choose a b) κ x = λ st. chosen x (expr p (means p) (expression_of a.now.value) (with_value κ) st)
      (expr p (means p) (expression_of b.now.value) (with_value κ) st)
  resume (waiting.Comma e) κ x = expr p (means p) (expression_of e.now.value) (with_value κ)
  resume (waiting.Found t u) κ a = used u t (Memory a) (with_value κ)
  resume (waiting.Assign t s) κ v = store_at t s v (with_value κ)
  resume (waiting.Change t s op x) κ y = changed t s op x y (with_value κ)
  resume waiting.Forget κ v = κ (Leaves Onward)
  resume (waiting.Begin n ds) κ v = local_set p (means p) n v (declared p (means p) (map declaration ds.now) (with_flow κ))
  resume (waiting.Store t o ds) κ v = block_set t o v (declared p (means p) (map declaration ds.now) (with_flow κ))
  resume (waiting.If a) κ v = λ st. chosen v (stmt p (means p) (act a.now.value) (with_flow κ) st) (κ (Leaves Onward) st)
  resume (waiting.IfElse a b) κ v = λ st. chosen v (stmt p (means p) (act a.now.value) (with_flow κ) st)
      (stmt p (means p) (act b.now.value) (with_flow κ) st)
  resume waiting.Return κ v = κ (Leaves (Returned v))
  resume (waiting.Test l) κ v = λ st. chosen v (turn_at p (means p) (loop_of l) (with_flow κ) st) (κ (Leaves Onward) st)
  resume (waiting.Look l) κ v = look_at p (means p) (loop_of l) (with_flow κ)

  -- a statement is left before work that waits
  abbrev pub leave : FlowFrame → Then → Behind
  leave (leaving.Statements ss) κ w = followed p (means p) (with_flow κ) (stmts p (means p) (acts ss.now) (with_flow κ)) w
  leave (leaving.Turn l) κ w = turned p (means p) (with_flow κ) (dropped p (means p) (maybe_bor l.step)
      (means p (Look (loop_of l)) (with_flow κ))) w

  -- what is not for a frame goes past it
  abbrev pub before : Frame → Then → Then
  before (ForValue f) κ (Valued v) = resume f κ v
  before (ForValue f) κ (Leaves w) = κ (Leaves w)
  before (ForArgument f done ts es) κ (Valued v) = passed ts.now v (λ x us.
      arguments p (means p) (expressions_of es.now) us (λ xs. call p (means p) f (done.items ++ x ∷ xs) (with_value κ)))
  before (ForArgument f done ts es) κ (Leaves w) = κ (Leaves w)
  before (ForFlow f) κ (Valued v) = κ (Valued v)
  before (ForFlow f) κ (Leaves w) = leave f κ w
  before (ForCall c active block) κ (Valued v) = κ (Valued v)
  before (ForCall c active block) κ (Leaves w) = released p.objects block
      (λ w st. κ (Valued (answer w)) (record st { call = activation c; active = active })) w

  -- all that waits, the last of it first
  abbrev pub stack : Then → List Frame → Then
  stack κ [] = κ
  stack κ (f ∷ fs) = stack (before f κ) fs

  -- where nothing waits
  abbrev pub bottom : Then
  bottom (Valued v) st = stop (ends.Ended v)
  bottom (Leaves w) st = finished w st

  -- what is done now, and then what waits
  abbrev pub going : Control → Then → State → Runs
  going (controls.Evaluate e) κ = expr p (means p) (expression_of e.now) (with_value κ)
  going (controls.Perform a) κ = stmt p (means p) (act a.now.value) (with_flow κ)
  going (controls.Block ss) κ = stmts p (means p) (acts ss.now.items) (with_flow κ)
  going (controls.Declare ds) κ = declared p (means p) (map declaration ds.now) (with_flow κ)
  going (controls.Value v) κ = κ (Valued v)
  going (controls.Left w) κ = κ (Leaves w)
  going (controls.Stop e) κ = λ st. stop (end_of e)

-- the program that a machine runs, and what its tasks mean
abbrev pub program_of : Machine → AProgram
program_of m = program m.program.now

abbrev pub tasks_of : Machine → Next
tasks_of m = means (program_of m)

-- the run that is still to come of a machine
abbrev pub waits : Machine → Then
waits m = stack (program_of m) (bottom (program_of m)) m.frames.items

abbrev pub to_come : Machine → Runs
to_come m = going (program_of m) m.control (waits m) (state m.store)
