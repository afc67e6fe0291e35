-- The stack of a machine that runs a compiled program. It lies from `STACK_START` to `STACK_TOP` and grows down. Each live call has one
-- piece of it, and the pieces of inner calls lie below those of outer ones. From its end down a call's piece holds its arguments, the last
-- one highest and the first one at fp; the frame's longwords, longword 0 highest, directly below fp; and the arguments that the call has
-- pushed, the last one lowest. What a call notes stands beside the memory: the frame of a call has its caller's registers, and where the
-- caller's piece begins.
use Rattle.std.specs.Prelude.{◌≡◌, ℕ, ◌+◌, ◌-◌, ◌*◌, ◌%◌, ◌^◌, ◌<◌, ◌≤◌, List, [], ◌∷◌, ◌++◌, length, slice_get, Some}
use Rattle.l32_templates.specs.vax_templates.specs.gg_base.specs.declared.limits.TheConstants.{STACK_TOP}
use Rattle.vax_target_meaning.specs.tree_meaning.specs.State.{Activation, Extent}
use Rattle.vax_target_meaning.specs.vax_states.specs.Stack.{long_at, word_of}
use Rattle.vax_target_meaning.specs.vax_machine_lists.specs.Sound.{AllBelow}
use Rattle.l32_templates.specs.l32_machine.specs.declared.frame.Frame32.{Frame32}

-- the address of argument i, which is counted from 1
abbrev pub argument_of : ℕ → ℕ → ℕ
argument_of fp i = fp + 4 * (i - 1)

-- A live call with its fp and its frame has its piece of the stack, from an address up to another, and what it has written stands there.
pub record Holds (stack : List ℕ) (fp : ℕ) (f : Frame32) (e : Extent) (a : Activation) (low high : ℕ) : Type 0 where
  -- the piece: pushed arguments, longwords, arguments
  pub words : low + 4 * (e.words + length a.pushed) ≡ fp
  pub end : fp + 4 * length a.arguments ≡ high
  pub aligned : fp % 4 ≡ 0
  pub locals : e.locals ≤ e.words
  -- a return pops the arguments, and takes back twelve longwords but the first
  pub pops : f.sp ≡ high
  pub few : length a.arguments ≤ 255
  pub registers : length f.general ≡ 12
  pub longwords : AllBelow (2 ^ 32) f.general
  -- what stands there
  pub argument : (i v : ℕ) → slice_get a.arguments i ≡ Some v → long_at stack (argument_of fp (i + 1)) ≡ v
  pub is_local : (k v : ℕ) → a.locals k ≡ Some v → k < e.locals
  pub local : (k v : ℕ) → a.locals k ≡ Some v → long_at stack (word_of fp k) ≡ v
  pub pushed : (i v : ℕ) → slice_get a.pushed i ≡ Some v → long_at stack (low + 4 * i) ≡ v

-- Live calls, the innermost first, with the fp of the innermost, hold the stack from an address up to its end; their frames stand the
-- innermost last.
pub data Hold (stack : List ℕ) : ℕ → List Frame32 → List Extent → List Activation → ℕ → Type 0 where
  nobody : (fp : ℕ) → Hold stack fp [] [] [] STACK_TOP
  caller : (fp : ℕ) (outer all : List Frame32) (f : Frame32) (e : Extent) (es : List Extent) (a : Activation) (rest : List Activation)
      (low high : ℕ) → all ≡ outer ++ f ∷ [] → Holds stack fp f e a low high → Hold stack f.fp outer es rest high
      → Hold stack fp all (e ∷ es) (a ∷ rest) low
