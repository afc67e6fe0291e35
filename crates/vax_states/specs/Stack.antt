-- The stack of a machine that runs a compiled program. It lies from `STACK_START` to `STACK_TOP` and grows down. Each live call has one
-- piece of it, and the pieces of inner calls lie below those of outer ones. From its end down a call's piece holds its arguments, the
-- last one highest; their number, at the frame's `ap`; the frame's control words, from `fp` up to `top`; the frame's words, word 0
-- highest, directly below `fp`; and the arguments that the call has pushed, the last one lowest.
use Rattle.std.specs.Prelude.{◌≡◌, ℕ, ◌+◌, ◌-◌, ◌*◌, ◌%◌, ◌<◌, ◌≤◌, List, [], ◌∷◌, ◌++◌, length, slice_get, Some}
use Rattle.gg_base.specs.declared.limits.TheConstants.{STACK_START, STACK_TOP}
use Rattle.gg_base.specs.declared.size.Size.TheVariants.{Long}
use Rattle.gg_base.specs.LittleEndian.{number_in}
use Rattle.vax_machine_lists.specs.vax_machine_live.specs.declared.frame.Frame.{Frame}
use Rattle.tree_meaning.specs.State.{Activation, Extent}

-- the longword at an address of the stack
abbrev pub long_at : List ℕ → ℕ → ℕ
long_at stack address = number_in Long stack (address - STACK_START)

-- the address of word k of a frame, local k's home
abbrev pub word_of : ℕ → ℕ → ℕ
word_of fp k = fp - 4 * (k + 1)

-- the address of argument i, which is counted from 1
abbrev pub argument_of : ℕ → ℕ → ℕ
argument_of ap i = ap + 4 * i

-- A live call has its piece of the stack, from an address up to another, and what it has written stands there.
pub record Holds (stack : List ℕ) (f : Frame) (e : Extent) (a : Activation) (low high : ℕ) : Type 0 where
  -- the piece: pushed arguments, words, control words, number of arguments, arguments
  pub words : low + 4 * (e.words + length a.pushed) ≡ f.fp
  pub control : f.fp + 20 ≤ f.top
  pub saved : f.top ≤ f.fp + 60
  pub top : f.top ≡ f.ap
  pub end : f.ap + 4 * (length a.arguments + 1) ≡ high
  pub aligned : f.fp % 4 ≡ 0
  pub locals : e.locals ≤ e.words
  -- a return pops as many arguments as the low byte of their number says, and leaves r0 and r1
  pub few : length a.arguments ≤ 255
  pub mask : f.mask % 4 ≡ 0
  -- what stands there
  pub count : long_at stack f.ap ≡ length a.arguments
  pub argument : (i v : ℕ) → slice_get a.arguments i ≡ Some v → long_at stack (argument_of f.ap (i + 1)) ≡ v
  pub is_local : (k v : ℕ) → a.locals k ≡ Some v → k < e.locals
  pub local : (k v : ℕ) → a.locals k ≡ Some v → long_at stack (word_of f.fp k) ≡ v
  pub pushed : (i v : ℕ) → slice_get a.pushed i ≡ Some v → long_at stack (low + 4 * i) ≡ v

-- Live calls, the innermost first, hold the stack from an address up to its end; their frames stand the innermost last.
pub data Hold (stack : List ℕ) : List Frame → List Extent → List Activation → ℕ → Type 0 where
  nobody : Hold stack [] [] [] STACK_TOP
  caller : (outer all : List Frame) (f : Frame) (e : Extent) (es : List Extent) (a : Activation) (rest : List Activation) (low high : ℕ)
      → all ≡ outer ++ f ∷ [] → Holds stack f e a low high → Hold stack outer es rest high → Hold stack all (e ∷ es) (a ∷ rest) low

-- from an address up two stacks hold the same
abbrev pub SameFrom : ℕ → List ℕ → List ℕ → Type 0
SameFrom low old new = (address : ℕ) → low ≤ address → long_at new address ≡ long_at old address
