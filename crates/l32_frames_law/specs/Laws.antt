-- Calls and returns of a compiled program's functions.
use Rattle.std.specs.Prelude.{◌≡◌, ℕ, ◌+◌, ◌<◌, ◌≤◌, List, [], ◌∷◌, ◌++◌, length, take, Some, None, Ok, Err}
use Rattle.l32_core.specs.declared.code.Item32.{Item32}
use Rattle.l32_core.specs.declared.code.Code32.{Code32}
use Rattle.vax_core.specs.First.{main_name}
use Rattle.tree_core.specs.declared.program.Object.{Object}
use Rattle.tree_core.specs.declared.program.TreeFn.{TreeFn}
use Rattle.tree_core.specs.Names.{function_label}
use Rattle.l32_states.specs.tree_meaning.specs.State.{Activation, Extent, begun}
use Rattle.l32_states.specs.tree_meaning.specs.State.{State as Trees}
use Rattle.l32_states.specs.tree_meaning.specs.Steps.{with_call, without_pushed}
use Rattle.l32_machine.specs.declared.turn.Stop32.TheVariants.{Ended}
use Rattle.l32_machine.specs.declared.frame.Frame32.{Frame32}
use Rattle.l32_machine.specs.State.{State, reg, with_reg}
use Rattle.l32_machine.specs.Labels.{label_place}
use Rattle.l32_machine.specs.Calls.{noted, called, returned}
use Rattle.l32_machine.specs.Step.{Goes, step_of}
use Rattle.l32_machine.specs.Loading.{first_frame, start}
use Rattle.l32_states.specs.vax_machine_lists.specs.Sound.{AllBelow}
use Rattle.l32_states.specs.l32_templates.specs.vax_templates.specs.sel_target.specs.Courses.{Returns as Leaving, ends}
use Rattle.l32_states.specs.l32_target_meaning.specs.Running.{run}
use Rattle.l32_states.specs.l32_target_meaning.specs.Agreeing.{IsSound, Agrees}
use Rattle.l32_frames.specs.Frames.{end_code}
use Rattle.l32_frames_law.specs.Calling.{HasFrame, IsRoomy, HoldsObjects}

-- ---- a call

-- The function's frame is made in a state, and behind `enter` its body begins.
pub record Begins (objects : List Object) (code : List Item32) (g : TreeFn) (em : HasFrame code (function_label g.name) g.locals)
    (es : List Extent) (t : Trees) (m : State) (count : ℕ) : Type 0 where
  -- the state that the call makes, and that behind `enter`
  pub called_state : State
  pub state : State
  pub does : called m count (label_place m.items (function_label g.name)) ≡ Ok called_state
  pub goes : step_of called_state ≡ Goes state
  pub agrees : Agrees objects (record { locals = g.locals; words = em.words }) es t state
  pub frames : state.frames ≡ m.frames ++ noted m count ∷ []
  pub items : state.items ≡ code
  pub at : state.place ≡ em.entry + 1

-- A call of a function of the program, with arguments that were pushed, comes to a state that stands for the trees'
-- state in which the function begins.
abbrev pub CallsBegin : Type 0
CallsBegin =
    (objects : List Object) (code : List Item32) (g : TreeFn) (em : HasFrame code (function_label g.name) g.locals)
    (e : Extent) (es : List Extent) (t : Trees) (m : State)
    → Agrees objects e es t m → IsRoomy m → m.items ≡ code → (count : ℕ) → count < 256 → count ≤ length t.running.pushed
    → Begins objects code g em (e ∷ es) (with_call (without_pushed t count) g (take count t.running.pushed)) m count

-- ---- the beginning of a run

-- behind main's `enter`
pub record Starts (objects : List Object) (c : Code32) (g : TreeFn) (em : HasFrame c.items main_name g.locals) (area input : List ℕ)
    : Type 0 where
  pub state : State
  pub goes : step_of (start c input) ≡ Goes state
  pub agrees : Agrees objects (record { locals = g.locals; words = em.words }) []
      (record { running = begun g []; callers = []; area = area; input = input }) state
  pub frames : state.frames ≡ first_frame ∷ []
  pub items : state.items ≡ c.items
  pub at : state.place ≡ em.entry + 1

-- A run begins in a state that stands, one step on, for the trees' state in which main begins.
abbrev pub RunsBegin : Type 0
RunsBegin =
    (objects : List Object) (c : Code32) (g : TreeFn) (em : HasFrame c.items main_name g.locals) (area input : List ℕ)
    → HoldsObjects objects c.area area → AllBelow 256 input → Starts objects c g em area input

-- ---- a return

-- a return from a state, and the state behind it, which stands for the trees' state behind the call
pub record Returns (objects : List Object) (own : Extent) (rest : List Extent) (t : Trees) (outer : List Frame32) (place v : ℕ)
    (c : Activation) (cs : List Activation) (m : State) : Type 0 where
  pub state : State
  pub does : returned m ≡ Ok (None, state)
  pub agrees : Agrees objects own rest (record { running = record c { result = v }; callers = cs; area = t.area; input = t.input }) state
  pub result : reg state 0 ≡ v
  pub frames : state.frames ≡ outer
  pub items : state.items ≡ m.items
  pub at : state.place ≡ place

-- A return with a value comes to the caller.
abbrev pub ReturnsAgree : Type 0
ReturnsAgree =
    (objects : List Object) (e own : Extent) (rest : List Extent) (t : Trees) (c : Activation) (cs : List Activation) (m : State)
    (h : Agrees objects e (own ∷ rest) t m) (place v : ℕ)
    → t.callers ≡ c ∷ cs → h.innermost.back ≡ Some place → reg m 0 ≡ v → Returns objects own rest t h.outer place v c cs m

-- The outermost call's return ends the run with the value.
abbrev pub LastReturnEnds : Type 0
LastReturnEnds =
    (objects : List Object) (e : Extent) (es : List Extent) (t : Trees) (m : State) (h : Agrees objects e es t m) (v : ℕ)
    → h.innermost.back ≡ None → reg m 0 ≡ v → returned m ≡ Err (Ended v)

-- Where a body's end is reached, the function returns 0.
abbrev pub EndsReturnZero : Type 0
EndsReturnZero = (m : State) → IsSound m → (run end_code m ≡ ends (Leaving (with_reg m 0 0))) × (reg (with_reg m 0 0) 0 ≡ 0)
