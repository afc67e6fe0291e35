-- Calls and returns of a compiled program's functions.
use Rattle.std.specs.Prelude.{◌≡◌, ℕ, ◌+◌, ◌^◌, ◌<◌, ◌≤◌, List, [], ◌∷◌, ◌++◌, length, slice_index, Option, Some, None, Ok, Err}
use Rattle.gg_base.specs.declared.limits.TheConstants.{STACK_START}
use Rattle.vax_core.specs.declared.register.Reg.TheVariants.{R0, Sp}
use Rattle.vax_core.specs.declared.code.CodeItem.{CodeItem}
use Rattle.vax_machine_live.specs.declared.frame.Frame.{Frame}
use Rattle.vax_machine.specs.declared.turn.Stop.TheVariants.{Ended}
use Rattle.vax_machine.specs.State.{State, reg}
use Rattle.vax_machine.specs.Labels.{label_place}
use Rattle.vax_machine.specs.Calls.{called, returned}
use Rattle.tree_core.specs.declared.program.Object.{Object}
use Rattle.tree_core.specs.declared.program.TreeFn.{TreeFn}
use Rattle.tree_core.specs.Names.{function_label}
use Rattle.tree_meaning.specs.State.{Activation, Extent}
use Rattle.tree_meaning.specs.State.{State as Trees}
use Rattle.vax_states.specs.vax_machine_lists.specs.Sound.{AllBelow}
use Rattle.vax_states.specs.Agreeing.{Agrees, HasRoom}
use Rattle.vax_states.specs.vax_machine_lists.specs.Runs.{Leads}
use Rattle.vax_frames_law.specs.Calling.{with_call, HasFrame, IsMadeIn}
use Rattle.vax_frames.specs.Frames.{room_code}

-- room for a whole call: about two million bytes, which are left as long as at most `ACTIVE_CALL_LIMIT` calls are active
pub record IsRoomy (m : State) : Type 0 where
  pub room : HasRoom m
  pub wide : STACK_START + 2000000 ≤ reg m Sp

-- The function's frame is made in a state, and behind the frame's instructions its body begins.
pub record Begins (objects : List Object) (code : List CodeItem) (g : TreeFn)
    (em : HasFrame code (function_label g.name) g.locals) (es : List Extent)
    (t : Trees) (m : State) (count : ℕ)
    (back : Option ℕ) : Type 0 where
  -- the state that the call makes, and that behind the frame's instructions
  pub called_state : State
  pub state : State
  pub steps : ℕ
  pub frame : Frame
  pub does : called m count (label_place m.items (function_label g.name)) back ≡ Ok called_state
  pub leads : Leads called_state [] steps state
  pub agrees : Agrees objects (record { locals = g.locals; words = em.words }) es t state
  pub frames : state.frames ≡ m.frames ++ frame ∷ []
  pub is_made : IsMadeIn m em.mask back frame
  pub small : AllBelow (2 ^ 32) frame.saved
  pub items : state.items ≡ code
  pub at : state.place ≡ em.entry + 1 + length (room_code em.words)

-- A call of a function of the program, with arguments that were pushed, comes to a state that stands for the trees'
-- state in which the function begins.
abbrev pub CallsBegin : Type 0
CallsBegin =
    (objects : List Object) (code : List CodeItem) (g : TreeFn) (em : HasFrame code (function_label g.name) g.locals)
    (e : Extent) (es : List Extent)
    (t : Trees) (m : State)
    → Agrees objects e es t m → IsRoomy m → m.items ≡ code → (count : ℕ) (back : Option ℕ) → count < 256 → count ≤ length t.running.pushed
    → Begins objects code g em (e ∷ es) (with_call t g count) m count back

-- What a return needs of the innermost frame and of the one outside it: it was made in a call by the outer one's function.
pub record IsCalledFrom (outer : List Frame) (f : Frame) (place : ℕ) : Type 0 where
  pub caller : Frame
  pub further : List Frame
  pub outer_is : outer ≡ further ++ caller ∷ []
  pub back : f.back ≡ Some place
  pub small : AllBelow (2 ^ 32) f.saved
  pub fp : slice_index f.saved 13 ≡ caller.fp
  pub ap : slice_index f.saved 12 ≡ caller.ap

-- a return from a state, and the state behind it, which stands for the trees' state behind the call
pub record Returns (objects : List Object) (own : Extent) (rest : List Extent) (t : Trees) (outer : List Frame) (place v : ℕ)
    (c : Activation)
    (cs : List Activation) (m : State) : Type 0 where
  pub state : State
  pub does : returned m ≡ Ok (None, state)
  pub agrees : Agrees objects own rest (record { running = record c { result = v }; callers = cs; area = t.area; input = t.input }) state
  pub result : reg state R0 ≡ v
  pub frames : state.frames ≡ outer
  pub items : state.items ≡ m.items
  pub at : state.place ≡ place

-- A return with a value comes to the caller.
abbrev pub ReturnsAgree : Type 0
ReturnsAgree =
    (objects : List Object) (e own : Extent) (rest : List Extent) (t : Trees) (c : Activation) (cs : List Activation) (m : State)
    (h : Agrees objects e (own ∷ rest) t m) (place v : ℕ)
    → t.callers ≡ c ∷ cs → IsCalledFrom h.outer h.innermost place → reg m R0 ≡ v → Returns objects own rest t h.outer place v c cs m

-- The outermost call's return ends the run with the value.
abbrev pub LastReturnEnds : Type 0
LastReturnEnds =
    (objects : List Object) (e : Extent) (es : List Extent) (t : Trees) (m : State) (h : Agrees objects e es t m) (v : ℕ)
    → h.innermost.back ≡ None
    → reg m R0 ≡ v → returned m ≡ Err (Ended v)
