-- What it says of a machine's state that it stands for a state of a tree program, sentence by sentence.
use Rattle.std.specs.Prelude.{◌≡◌, ℕ, ◌+◌, ◌*◌, ◌^◌, ◌<◌, ◌≤◌, List, length, slice_get, slice_set, Some, Result, Ok}
use Rattle.gg_base.specs.declared.size.Size.{Size}
use Rattle.gg_base.specs.declared.size.Size.TheVariants.{Long}
use Rattle.tree_core.specs.declared.program.Object.{Object}
use Rattle.tree_core.specs.Area.{fetched, stored}
use Rattle.call_pieces.specs.tree_meaning.specs.State.{State as Trees, Extent}
use Rattle.call_pieces.specs.tree_meaning.specs.Steps.{with_local_set, with_pushed, without_pushed, with_result}
use Rattle.call_pieces.specs.Piece.{long_at, word_of}
use Rattle.l32_machine.specs.declared.turn.Stop32.{Stop32}
use Rattle.l32_machine.specs.State.{State, with_reg}
use Rattle.l32_machine.specs.Memory.{read, written}
use Rattle.l32_machine.specs.Calls.{pushed}
use Rattle.l32_target_meaning.specs.Stack.{argument_of}
use Rattle.l32_target_meaning.specs.Agreeing.{Agrees, HasRoom}

-- what is said in each state that stands for one of trees
abbrev pub Always : ((objects : List Object) (e : Extent) (es : List Extent) (t : Trees) (m : State) → Agrees objects e es t m
    → Type 0) → Type 0
Always P = (objects : List Object) (e : Extent) (es : List Extent) (t : Trees) (m : State) (h : Agrees objects e es t m)
    → P objects e es t m h

-- ---- what is read

pub record PlacesAreRead : Type 0 where
  -- each word of the frame can be read; a local that was written has its value, and each argument has its own
  pub word : Always (λ objects e es t m h. (k : ℕ) → k < e.words → read m (word_of m.fp k) Long ≡ Ok (long_at m.stack (word_of m.fp k)))
  pub local : Always (λ objects e es t m h. (k v : ℕ) → t.running.locals k ≡ Some v → read m (word_of m.fp k) Long ≡ Ok v)
  pub argument : Always (λ objects e es t m h. (i v : ℕ) → slice_get t.running.arguments i ≡ Some v
      → read m (argument_of m.fp (i + 1)) Long ≡ Ok v)
  -- the argument that was pushed last stands at sp
  pub pushed : Always (λ objects e es t m h. (v : ℕ) → slice_get t.running.pushed 0 ≡ Some v → read m m.sp Long ≡ Ok v)
  -- the data area is read as trees read it
  pub area : Always (λ objects e es t m h. (size : Size) (a v : ℕ) → fetched size t.area a ≡ Some v → read m a size ≡ Ok v)

-- ---- what is written

-- something is done, and the state behind it stands for a state of trees
pub record Leaves (objects : List Object) (e : Extent) (es : List Extent) (t : Trees) (did : Result State Stop32) : Type 0 where
  pub state : State
  pub does : did ≡ Ok state
  pub agrees : Agrees objects e es t state

abbrev pub with_argument : Trees → ℕ → ℕ → Trees
with_argument t k v = record t { running = record t.running { arguments = slice_set t.running.arguments k v } }

pub record PlacesAreWritten : Type 0 where
  -- any longword goes into a word behind the locals
  pub word : Always (λ objects e es t m h. (k v : ℕ) → e.locals ≤ k → k < e.words
      → Leaves objects e es t (written m (word_of m.fp k) Long v))
  pub local : Always (λ objects e es t m h. (k v : ℕ) → k < e.locals → v < 2 ^ 32
      → Leaves objects e es (with_local_set t k v) (written m (word_of m.fp k) Long v))
  pub argument : Always (λ objects e es t m h. (k v : ℕ) → k < length t.running.arguments → v < 2 ^ 32
      → Leaves objects e es (with_argument t k v) (written m (argument_of m.fp (k + 1)) Long v))
  pub area : Always (λ objects e es t m h. (size : Size) (a v : ℕ) (area : List ℕ) → stored size t.area a v ≡ Some area
      → Leaves objects e es (record t { area = area }) (written m a size v))
  pub push : Always (λ objects e es t m h. (v : ℕ) → HasRoom m → v < 2 ^ 32 → Leaves objects e es (with_pushed t v) (pushed m v))

pub record MachinesAreKept : Type 0 where
  -- a0 to a11 may hold anything
  pub register : Always (λ objects e es t m h. (r v : ℕ) → v < 2 ^ 32 → Agrees objects e es t (with_reg m r v))
  -- the last call's result is said apart
  pub result : Always (λ objects e es t m h. (v : ℕ) → Agrees objects e es (with_result t v) m)
  -- arguments are taken off the stack
  pub pop : Always (λ objects e es t m h. (count : ℕ) → count ≤ length t.running.pushed
      → Agrees objects e es (without_pushed t count) (record m { sp = m.sp + 4 * count }))
