-- Calls and returns with all calls at home.
use Rattle.std.specs.Prelude.{◌≡◌, ℕ, ◌+◌, ◌^◌, ◌<◌, ◌≤◌, List, [], ◌∷◌, ◌++◌, length, Option, None, Ok, Err}
use Rattle.gg_base.specs.declared.limits.TheConstants.{STACK_TOP}
use Rattle.vax_states.specs.tree_core.specs.declared.program.Object.{Object}
use Rattle.vax_states.specs.tree_core.specs.declared.program.TreeFn.{TreeFn}
use Rattle.vax_states.specs.tree_core.specs.Names.{function_label}
use Rattle.vax_states.specs.tree_meaning.specs.State.{Activation, begun, Extent}
use Rattle.vax_states.specs.tree_meaning.specs.State.{State as Trees}
use Rattle.vax_states.specs.vax_machine_lists.specs.vax_core.specs.declared.code.CodeItem.{CodeItem}
use Rattle.vax_states.specs.vax_machine_lists.specs.vax_core.specs.declared.register.Reg.TheVariants.{R0, Sp}
use Rattle.vax_states.specs.vax_machine_live.specs.declared.frame.Frame.{Frame}
use Rattle.vax_states.specs.vax_machine.specs.declared.turn.Stop.TheVariants.{Ended}
use Rattle.vax_states.specs.vax_machine.specs.State.{State, reg}
use Rattle.vax_states.specs.vax_machine.specs.Labels.{label_place}
use Rattle.vax_states.specs.vax_machine.specs.Calls.{called, returned}
use Rattle.vax_states.specs.vax_machine_lists.specs.Sound.{AllBelow, IsSound}
use Rattle.vax_states.specs.vax_machine_lists.specs.Instructions.{comes, exec}
use Rattle.vax_states.specs.vax_machine_lists.specs.Runs.{Leads, at_of}
use Rattle.vax_states.specs.Agreeing.{AreLabelled}
use Rattle.vax_frames_law.specs.vax_frames.specs.Frames.{room_code}
use Rattle.vax_frames_law.specs.Calling.{with_call, HasFrame, IsMadeIn}
use Rattle.vax_frames_law.specs.Laws.{IsRoomy, IsCalledFrom}
use Rattle.vax_homes_law.specs.vax_homes.specs.declared.choose.Home.{Home}
use Rattle.vax_homes_law.specs.Alike.{Has, IsPaired}
use Rattle.vax_homes_law.specs.Calling.{with_stack}
use Rattle.vax_homes_frames.specs.Live.{HomedCall, frames_of, AllAtHome}

-- homes that a function with so many locals may have
pub record AreHomesOf (locals : ℕ) (hs : List Home) : Type 0 where
  pub paired : IsPaired hs
  pub fits : (h : Home) → Has hs h → h.local < locals

-- ---- a call

-- The frame's instructions stand where a call goes, and lead by themselves to the machine with which the body begins.
pub record MakesRoom (code : List CodeItem) (words place : ℕ) (entered behind : State) : Type 0 where
  pub going : entered.over ≡ None
  pub items : entered.items ≡ code
  pub place_is : entered.place ≡ place
  pub made : State
  pub does : exec (room_code words) entered ≡ comes made
  pub behind_is : behind ≡ at_of entered made (place + length (room_code words))

-- From the machine that is m with the stack st the function's frame is made, and behind the frame's instructions its body begins, with
-- its homes hs. Both machines are named: the state behind is `state` with the stack `stack`.
pub record BeginsAtHome (objects : List Object) (code : List CodeItem) (g : TreeFn) (em : HasFrame code (function_label g.name) g.locals)
    (es : List Extent) (hs : List Home) (cs : List HomedCall) (t : Trees) (m : State) (st : List ℕ) (count : ℕ) (back : Option ℕ)
    : Type 0 where
  pub called_state : State
  pub state : State
  pub stack : List ℕ
  pub steps : ℕ
  pub frame : Frame
  pub does : called (with_stack m st) count (label_place m.items (function_label g.name)) back ≡ Ok called_state
  pub leads : Leads called_state [] steps (with_stack state stack)
  pub room : MakesRoom code em.words (em.entry + 1) called_state (with_stack state stack)
  pub at_home : AllAtHome objects (record { locals = g.locals; words = em.words }) es (record { frame = frame; homes = hs }) cs t state
      stack
  pub frames : state.frames ≡ m.frames ++ frame ∷ []
  pub is_made : IsMadeIn m em.mask back frame
  pub small : AllBelow (2 ^ 32) frame.saved
  pub items : state.items ≡ code
  pub at : state.place ≡ em.entry + 1 + length (room_code em.words)

-- A call of a function of the program, with arguments that were pushed, comes to a machine that stands for the trees' state in which the
-- function begins, with its homes; the caller waits with its own.
abbrev pub CallsBeginAtHome : Type 0
CallsBeginAtHome =
    (objects : List Object) (code : List CodeItem) (g : TreeFn) (em : HasFrame code (function_label g.name) g.locals) (hs : List Home)
    (e : Extent) (es : List Extent) (c : HomedCall) (cs : List HomedCall) (t : Trees) (m : State) (st : List ℕ)
    → AllAtHome objects e es c cs t m st → IsRoomy m → m.items ≡ code → AreHomesOf g.locals hs
    → (count : ℕ) (back : Option ℕ) → count < 256 → count ≤ length t.running.pushed
    → BeginsAtHome objects code g em (e ∷ es) hs (c ∷ cs) (with_call t g count) m st count back

-- So does the first call of a run, from a machine in which nothing is live and nothing on the stack.
abbrev pub RunsBeginAtHome : Type 0
RunsBeginAtHome =
    (objects : List Object) (code : List CodeItem) (g : TreeFn) (em : HasFrame code (function_label g.name) g.locals) (hs : List Home)
    (m : State) (area input : List ℕ) (back : Option ℕ)
    → IsSound m → m.frames ≡ [] → reg m Sp ≡ STACK_TOP → m.items ≡ code → AreLabelled objects m → m.area ≡ area → m.input ≡ input
    → AreHomesOf g.locals hs
    → BeginsAtHome objects code g em [] hs [] (record { running = begun g []; callers = []; area = area; input = input }) m m.stack 0 back

-- ---- a return

-- a return, and the machine behind it, which stands for the trees' state behind the call, with the caller's homes
pub record ReturnsAtHome (objects : List Object) (own : Extent) (rest : List Extent) (c : HomedCall) (cs : List HomedCall) (t : Trees)
    (place v : ℕ) (a : Activation) (xs : List Activation) (m : State) (st : List ℕ) : Type 0 where
  pub state : State
  pub does : returned (with_stack m st) ≡ Ok (None, with_stack state st)
  pub at_home : AllAtHome objects own rest c cs (record { running = record a { result = v }; callers = xs; area = t.area; input = t.input })
      state st
  pub result : reg state R0 ≡ v
  pub frames : state.frames ≡ frames_of (c ∷ cs)
  pub items : state.items ≡ m.items
  pub at : state.place ≡ place

-- A return with a value comes to the caller.
abbrev pub ReturnsAgreeAtHome : Type 0
ReturnsAgreeAtHome =
    (objects : List Object) (e own : Extent) (rest : List Extent) (d c : HomedCall) (cs : List HomedCall) (t : Trees) (a : Activation)
    (xs : List Activation) (m : State) (st : List ℕ) (place v : ℕ)
    → AllAtHome objects e (own ∷ rest) d (c ∷ cs) t m st → t.callers ≡ a ∷ xs → IsCalledFrom (frames_of (c ∷ cs)) d.frame place
    → reg m R0 ≡ v → ReturnsAtHome objects own rest c cs t place v a xs m st

-- The outermost call's return ends the run with the value.
abbrev pub LastReturnEndsAtHome : Type 0
LastReturnEndsAtHome =
    (objects : List Object) (e : Extent) (es : List Extent) (c : HomedCall) (cs : List HomedCall) (t : Trees) (m : State) (st : List ℕ)
    (v : ℕ)
    → AllAtHome objects e es c cs t m st → c.frame.back ≡ None → reg m R0 ≡ v → returned (with_stack m st) ≡ Err (Ended v)
