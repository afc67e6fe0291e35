-- The piece of the stack that a live call holds, on any machine whose stack lies from `STACK_START` on and grows down. From its end down it
-- has the call's arguments, the last one highest; whatever the machine keeps between them and `fp`; the frame's words, word 0 highest,
-- directly below `fp`; and the arguments that the call has pushed, the last one lowest.
use Rattle.std.specs.Prelude.{◌≡◌, ℕ, ◌+◌, ◌-◌, ◌*◌, ◌<◌, ◌≤◌, List, length, slice_get, Some}
use Rattle.gg_base.specs.declared.limits.TheConstants.{STACK_START}
use Rattle.gg_base.specs.declared.size.Size.TheVariants.{Long}
use Rattle.gg_base.specs.LittleEndian.{number_in}
use Rattle.tree_meaning.specs.State.{Activation, Extent}

-- the longword at an address of the stack
abbrev pub long_at : List ℕ → ℕ → ℕ
long_at stack address = number_in Long stack (address - STACK_START)

-- the address of word k of a frame, local k's home
abbrev pub word_of : ℕ → ℕ → ℕ
word_of fp k = fp - 4 * (k + 1)

-- from an address up two stacks hold the same
abbrev pub SameFrom : ℕ → List ℕ → List ℕ → Type 0
SameFrom low old new = (address : ℕ) → low ≤ address → long_at new address ≡ long_at old address

-- A live call has its piece, from an address up to another; argument 1 stands at `first`. What the call has written stands there.
pub record Piece (stack : List ℕ) (fp first : ℕ) (e : Extent) (a : Activation) (low high : ℕ) : Type 0 where
  pub words : low + 4 * (e.words + length a.pushed) ≡ fp
  pub above : fp ≤ first
  pub end : first + 4 * length a.arguments ≡ high
  pub locals : e.locals ≤ e.words
  pub argument : (i v : ℕ) → slice_get a.arguments i ≡ Some v → long_at stack (first + 4 * i) ≡ v
  pub is_local : (k v : ℕ) → a.locals k ≡ Some v → k < e.locals
  pub local : (k v : ℕ) → a.locals k ≡ Some v → long_at stack (word_of fp k) ≡ v
  pub pushed : (i v : ℕ) → slice_get a.pushed i ≡ Some v → long_at stack (low + 4 * i) ≡ v
