-- What it says of a machine's state that it stands for a state of a tree program, sentence by sentence.
use Rattle.std.specs.Prelude.{◌≡◌, ℕ, ◌+◌, ◌*◌, ◌^◌, ◌<◌, ◌≤◌, List, [], ◌∷◌, ◌++◌, length, map, slice_get, slice_set, Some, Result, Ok}
use Rattle.gg_base.specs.declared.limits.TheConstants.{STACK_START, STACK_TOP}
use Rattle.gg_base.specs.declared.size.Size.{Size}
use Rattle.gg_base.specs.declared.size.Size.TheVariants.{Long}
use Rattle.vax_machine_lists.specs.vax_core.specs.declared.register.Reg.{Reg}
use Rattle.vax_machine_lists.specs.vax_core.specs.declared.register.Reg.TheVariants.{Ap, Fp, Sp}
use Rattle.vax_machine_lists.specs.vax_core.specs.Registers.{reg_number}
use Rattle.vax_machine_lists.specs.vax_core.specs.Homes.{home, argument_home}
use Rattle.vax_machine_lists.specs.vax_machine_live.specs.declared.frame.Frame.{Frame}
use Rattle.vax_machine_lists.specs.vax_machine.specs.declared.turn.Stop.{Stop}
use Rattle.vax_machine_lists.specs.vax_machine.specs.declared.operands.Location.TheVariants as locations
use Rattle.vax_machine_lists.specs.vax_machine.specs.State.{State, reg, with_reg}
use Rattle.vax_machine_lists.specs.vax_machine.specs.Memory.{read, written}
use Rattle.vax_machine_lists.specs.vax_machine.specs.Operands.{located}
use Rattle.vax_machine_lists.specs.vax_machine.specs.Calls.{pushed}
use Rattle.tree_core.specs.declared.program.Object.{Object}
use Rattle.tree_core.specs.Area.{fetched, stored}
use Rattle.tree_meaning.specs.State.{Activation, Extent}
use Rattle.tree_meaning.specs.State.{State as Trees}
use Rattle.tree_meaning.specs.Steps.{with_local_set, with_pushed}
use Rattle.vax_states.specs.Stack.{long_at, word_of, argument_of, Holds}
use Rattle.vax_states.specs.Agreeing.{Agrees, HasRoom}

-- what is said in each state that stands for one of trees
abbrev pub Always : ((objects : List Object) (e : Extent) (es : List Extent) (t : Trees) (m : State) → Agrees objects e es t m
    → Type 0) → Type 0
Always P = (objects : List Object) (e : Extent) (es : List Extent) (t : Trees) (m : State) (h : Agrees objects e es t m)
    → P objects e es t m h

-- ---- where things are

-- fp lies in the stack, and from sp up to it the pushed arguments and the frame's words stand
pub record StandsAtFp (e : Extent) (t : Trees) (m : State) : Type 0 where
  pub bottom : STACK_START ≤ reg m Sp
  pub words : reg m Sp + 4 * (e.words + length t.running.pushed) ≡ reg m Fp
  pub top : reg m Fp < STACK_TOP
  pub pushed : (i v : ℕ) → slice_get t.running.pushed i ≡ Some v → long_at m.stack (reg m Sp + 4 * i) ≡ v
  -- the number of arguments stands at ap
  pub count : long_at m.stack (reg m Ap) ≡ length t.running.arguments

abbrev pub FramesStand : Type 0
FramesStand = Always (λ objects e es t m h. StandsAtFp e t m)

-- A live call with its frame, its extent and its piece of the stack.
pub record Live : Type 0 where
  pub frame : Frame
  pub extent : Extent
  pub call : Activation
  pub low : ℕ
  pub high : ℕ

-- Live calls, the innermost first, hold pieces of the stack one above the other, from an address up to the stack's end;
-- so no two share a byte.
abbrev pub AreStacked : List ℕ → ℕ → List Live → Type 0
AreStacked stack low [] = low ≡ STACK_TOP
AreStacked stack low (c ∷ cs) = (c.low ≡ low) × Holds stack c.frame c.extent c.call c.low c.high × AreStacked stack c.high cs

-- the frames of live calls, the innermost last
abbrev pub frames_of : List Live → List Frame
frames_of [] = []
frames_of (c ∷ cs) = frames_of cs ++ c.frame ∷ []

-- each live call has its own frame and its own piece
pub record CallsStand (e : Extent) (es : List Extent) (t : Trees) (m : State) : Type 0 where
  pub calls : List Live
  pub frames : frames_of calls ≡ m.frames
  pub running : map (λ (c : Live). c.call) calls ≡ t.running ∷ t.callers
  pub extents : map (λ (c : Live). c.extent) calls ≡ e ∷ es
  pub stacked : AreStacked m.stack (reg m Sp) calls

abbrev pub CallsStandApart : Type 0
CallsStandApart = Always (λ objects e es t m h. CallsStand e es t m)

-- ---- what is read

-- the operands of locals, of other words and of arguments name their places
abbrev pub HomesAreNamed : Type 0
HomesAreNamed = Always (λ objects e es t m h. (k : ℕ) → k < e.words → located m (home k).base Long
    ≡ Ok (locations.Memory (word_of (reg m Fp) k), m))

abbrev pub ArgumentsAreNamed : Type 0
ArgumentsAreNamed =
    Always (λ objects e es t m h. (i : ℕ) → i < length t.running.arguments
    → located m (argument_home (i + 1)).base Long ≡ Ok (locations.Memory (argument_of (reg m Ap) (i + 1)), m))

-- there stand the locals that were written and the arguments, and the data area is read as trees read it
abbrev pub LocalsAreRead : Type 0
LocalsAreRead = Always (λ objects e es t m h. (k v : ℕ) → t.running.locals k ≡ Some v → read m (word_of (reg m Fp) k) Long ≡ Ok v)

abbrev pub ArgumentsAreRead : Type 0
ArgumentsAreRead = Always (λ objects e es t m h. (i v : ℕ) → slice_get t.running.arguments i ≡ Some v
    → read m (argument_of (reg m Ap) (i + 1)) Long ≡ Ok v)

abbrev pub AreasAreRead : Type 0
AreasAreRead = Always (λ objects e es t m h. (size : Size) (a v : ℕ) → fetched size t.area a ≡ Some v → read m a size ≡ Ok v)

-- ---- what is written

-- something is done, and the state behind it stands for a state of trees
pub record Leaves (objects : List Object) (e : Extent) (es : List Extent) (t : Trees) (did : Result State Stop) : Type 0 where
  pub state : State
  pub does : did ≡ Ok state
  pub agrees : Agrees objects e es t state

-- any longword goes into a word behind the locals
abbrev pub FreeWordsAreFree : Type 0
FreeWordsAreFree = Always (λ objects e es t m h. (k v : ℕ) → e.locals ≤ k → k < e.words
    → Leaves objects e es t (written m (word_of (reg m Fp) k) Long v))

abbrev pub LocalsAreWritten : Type 0
LocalsAreWritten =
    Always (λ objects e es t m h. (k v : ℕ) → k < e.locals → v < 2 ^ 32
    → Leaves objects e es (with_local_set t k v) (written m (word_of (reg m Fp) k) Long v))

abbrev pub with_argument : Trees → ℕ → ℕ → Trees
with_argument t k v = record t { running = record t.running { arguments = slice_set t.running.arguments k v } }

abbrev pub ArgumentsAreWritten : Type 0
ArgumentsAreWritten =
    Always (λ objects e es t m h. (k v : ℕ) → k < length t.running.arguments → v < 2 ^ 32
    → Leaves objects e es (with_argument t k v) (written m (argument_of (reg m Ap) (k + 1)) Long v))

abbrev pub AreasAreWritten : Type 0
AreasAreWritten =
    Always (λ objects e es t m h. (size : Size) (a v : ℕ) (area : List ℕ) → stored size t.area a v ≡ Some area
    → Leaves objects e es (record t { area = area }) (written m a size v))

abbrev pub LongwordsArePushed : Type 0
LongwordsArePushed = Always (λ objects e es t m h. (v : ℕ) → HasRoom m → v < 2 ^ 32 → Leaves objects e es (with_pushed t v) (pushed m v))

-- r0 to r11 may hold anything
abbrev pub RegistersAreFree : Type 0
RegistersAreFree = Always (λ objects e es t m h. (r : Reg) (v : ℕ) → reg_number r < 12 → v < 2 ^ 32
    → Agrees objects e es t (with_reg m r v))
