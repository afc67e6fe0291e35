-- How many steps a machine takes until the next moment that shows.
use Rattle.std.specs.Prelude.{ℕ, ◌+◌, List, [], ◌∷◌, map}
use Rattle.c_types.specs.Typed.{expression_of, expressions_of}
use Rattle.c_program.specs.Statements.{act, acts, declaration}
use Rattle.c_meaning.specs.declared.frame.Use.{Use}
use Rattle.c_meaning.specs.declared.frame.Use.TheVariants as uses
use Rattle.c_meaning.specs.declared.frame.ValueFrame.{ValueFrame}
use Rattle.c_meaning.specs.declared.frame.ValueFrame.TheVariants as waiting
use Rattle.c_meaning.specs.declared.frame.FlowFrame.{FlowFrame}
use Rattle.c_meaning.specs.declared.frame.FlowFrame.TheVariants as leaving
use Rattle.c_meaning.specs.declared.frame.Frame.{Frame}
use Rattle.c_meaning.specs.declared.frame.Frame.TheVariants.{ForValue, ForArgument, ForFlow, ForCall}
use Rattle.c_meaning.specs.declared.frame.Control.{Control}
use Rattle.c_meaning.specs.declared.frame.Control.TheVariants as controls
use Rattle.c_meaning.specs.declared.machine.Machine.{Machine}
use Rattle.c_meaning.specs.Parts.{loop_of}
use Rattle.c_meaning.specs.Work.{expression_work, arguments_work, declarations_work, loop_work, again_to_do, act_work}
use Rattle.c_meaning.specs.Work.{acts_work}

abbrev pub use_work : Use → ℕ
use_work uses.Read = 2
use_work uses.Address = 2
use_work (uses.Step m by) = 2
use_work (uses.Assign e) = expression_work (expression_of e.now.value) + 2
use_work (uses.Change op e) = expression_work (expression_of e.now.value) + 2
use_work (uses.Advance e) = expression_work (expression_of e.now.value) + 2
use_work (uses.Retreat e) = expression_work (expression_of e.now.value) + 2

abbrev pub value_work : ValueFrame → ℕ
value_work (waiting.Unary op) = 1
value_work (waiting.Convert t) = 1
value_work (waiting.Right op e) = expression_work (expression_of e.now.value) + 1
value_work (waiting.Last op x) = 1
value_work (waiting.AndRight e) = expression_work (expression_of e.now.value) + 1
value_work (waiting.OrRight e) = expression_work (expression_of e.now.value) + 1
value_work waiting.Truth = 1
value_work (waiting.Choose a b) = expression_work (expression_of a.now.value) + expression_work (expression_of b.now.value) + 1
value_work (waiting.Comma e) = expression_work (expression_of e.now.value) + 1
value_work (waiting.Found t u) = use_work u + 1
value_work (waiting.Assign t s) = 1
value_work (waiting.Change t s op x) = 1
value_work waiting.Forget = 1
value_work (waiting.Begin n ds) = declarations_work (map declaration ds.now) + 1
value_work (waiting.Store t o ds) = declarations_work (map declaration ds.now) + 1
value_work (waiting.If a) = act_work (act a.now.value) + 1
value_work (waiting.IfElse a b) = act_work (act a.now.value) + act_work (act b.now.value) + 1
value_work waiting.Return = 1
value_work (waiting.Test l) = 1
value_work (waiting.Look l) = loop_work (loop_of l)

abbrev pub flow_work : FlowFrame → ℕ
flow_work (leaving.Statements ss) = acts_work (acts ss.now) + 1
flow_work (leaving.Turn l) = again_to_do (loop_of l)

abbrev pub frame_work : Frame → ℕ
frame_work (ForValue f) = value_work f
frame_work (ForArgument f done ts es) = arguments_work (expressions_of es.now) + 1
frame_work (ForFlow f) = flow_work f
frame_work (ForCall c active block) = 1

abbrev pub frames_work : List Frame → ℕ
frames_work [] = 0
frames_work (f ∷ fs) = frame_work f + frames_work fs

abbrev pub control_work : Control → ℕ
control_work (controls.Evaluate e) = expression_work (expression_of e.now)
control_work (controls.Perform a) = act_work (act a.now.value)
control_work (controls.Block ss) = acts_work (acts ss.now.items)
control_work (controls.Declare ds) = declarations_work (map declaration ds.now)
control_work (controls.Value v) = 1
control_work (controls.Left w) = 1
control_work (controls.Stop e) = 0

abbrev pub work : Machine → ℕ
work m = control_work m.control + frames_work m.frames.items
