-- When a state of the machine stands for a state of a tree program.
use Rattle.std.specs.Prelude.{◌≡◌, ℕ, ◌+◌, ◌^◌, ◌<◌, ◌≤◌, List, [], ◌∷◌, ◌++◌, length, slice_get, Some, None}
use Rattle.l32_templates.specs.vax_templates.specs.gg_base.specs.declared.limits.TheConstants.{AREA_LIMIT, FRAME_LIMIT, STACK_SIZE, STACK_START}
use Rattle.vax_target_meaning.specs.tree_core.specs.declared.program.Object.{Object}
use Rattle.vax_target_meaning.specs.tree_meaning.specs.State.{State as Trees, Extent}
use Rattle.vax_target_meaning.specs.vax_machine_lists.specs.Sound.{AllBelow}
use Rattle.vax_target_meaning.specs.vax_machine.specs.Area.{label_address}
use Rattle.l32_templates.specs.l32_machine.specs.declared.frame.Frame32.{Frame32}
use Rattle.l32_templates.specs.l32_machine.specs.State.{State}
use Rattle.l32_target_meaning.specs.Stack.{Holds, Hold}

-- A machine that goes on: twelve registers with longwords, the whole stack, a data area that may be so long, and bytes in both and in the
-- input.
pub record IsSound (m : State) : Type 0 where
  pub going : m.over ≡ None
  pub registers : length m.general ≡ 12
  pub longwords : AllBelow (2 ^ 32) m.general
  pub stack : length m.stack ≡ STACK_SIZE
  pub stack_bytes : AllBelow 256 m.stack
  pub area : length m.area ≤ AREA_LIMIT
  pub area_bytes : AllBelow 256 m.area
  pub input_bytes : AllBelow 256 m.input

-- each object's label stands at the object's address
abbrev pub AreLabelled : List Object → State → Type 0
AreLabelled objects m = (n : ℕ) (o : Object) → slice_get objects n ≡ Some o → label_address m.layout o.label ≡ o.address

-- The machine's state stands for the tree program's: the objects are where their labels say, the data area and the input are equal, and
-- each live call holds its piece of the stack. All but the last call's result.
pub record Agrees (objects : List Object) (e : Extent) (es : List Extent) (t : Trees) (m : State) : Type 0 where
  pub sound : IsSound m
  pub labelled : AreLabelled objects m
  pub area : m.area ≡ t.area
  pub input : m.input ≡ t.input
  -- the innermost call's frame, those outside it, and where the innermost call's piece of the stack ends
  pub innermost : Frame32
  pub outer : List Frame32
  pub high : ℕ
  pub frames : m.frames ≡ outer ++ innermost ∷ []
  pub running : Holds m.stack m.fp innermost e t.running m.sp high
  pub callers : Hold m.stack innermost.fp outer es t.callers high
  -- sp lies in the stack
  pub bottom : STACK_START ≤ m.sp

-- room for what one tree pushes and calls: 32 longwords and a frame
pub record HasRoom (m : State) : Type 0 where
  pub space : STACK_START + 128 ≤ m.sp
  pub frame : length m.frames < FRAME_LIMIT
