-- When a state of the machine stands for a state of a tree program.
use Rattle.std.specs.Prelude.{◌≡◌, ℕ, ◌+◌, ◌<◌, ◌≤◌, List, [], ◌∷◌, ◌++◌, length, slice_get, Some}
use Rattle.gg_base.specs.declared.limits.TheConstants.{FRAME_LIMIT, STACK_START}
use Rattle.vax_machine_lists.specs.vax_core.specs.declared.register.Reg.TheVariants.{R0, Ap, Fp, Sp}
use Rattle.vax_machine_lists.specs.vax_machine_live.specs.declared.frame.Frame.{Frame}
use Rattle.vax_machine_lists.specs.vax_machine.specs.State.{State, reg}
use Rattle.vax_machine_lists.specs.vax_machine.specs.Area.{label_address}
use Rattle.tree_core.specs.declared.program.Object.{Object}
use Rattle.tree_meaning.specs.State.{State as Trees, Extent}
use Rattle.vax_machine_lists.specs.Sound.{IsSound}
use Rattle.vax_states.specs.Stack.{Holds, Hold}

-- each object's label stands at the object's address
abbrev pub AreLabelled : List Object → State → Type 0
AreLabelled objects m = (n : ℕ) (o : Object) → slice_get objects n ≡ Some o → label_address m.layout o.label ≡ o.address

-- The machine's state stands for the tree program's: the objects are where their labels say, the data area and the input are equal, and
-- each live call holds its piece of the stack. All but the last call's result.
pub record Agrees (objects : List Object) (e : Extent) (es : List Extent) (t : Trees) (m : State) : Type 0 where
  pub sound : IsSound m
  pub labelled : AreLabelled objects m
  pub area : m.area ≡ t.area
  pub input : m.input ≡ t.input
  -- the innermost call's frame, those outside it, and where the innermost call's piece of the stack ends
  pub innermost : Frame
  pub outer : List Frame
  pub high : ℕ
  pub frames : m.frames ≡ outer ++ innermost ∷ []
  pub fp : reg m Fp ≡ innermost.fp
  pub ap : reg m Ap ≡ innermost.ap
  pub running : Holds m.stack innermost e t.running (reg m Sp) high
  pub callers : Hold m.stack outer es t.callers high
  -- sp lies in the stack
  pub bottom : STACK_START ≤ reg m Sp

-- directly behind a call r0 is its result
abbrev pub HasResult : Trees → State → Type 0
HasResult t m = reg m R0 ≡ t.running.result

-- room for what one tree pushes and calls: 32 longwords and a frame
pub record HasRoom (m : State) : Type 0 where
  pub space : STACK_START + 128 ≤ reg m Sp
  pub frame : length m.frames < FRAME_LIMIT
