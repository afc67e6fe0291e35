-- Calls and returns from a state beside another: only their stacks differ, in hidden bytes.
use Rattle.std.specs.Prelude.{◌≡◌, ℕ, ◌-◌, Bool, true, List, length, slice_index, slice_get, Option, Some, None, Ok, Err}
use Rattle.gg_base.specs.declared.limits.TheConstants.{STACK_SIZE, STACK_START}
use Rattle.vax_confined.specs.vax_machine_live.specs.declared.frame.Frame.{Frame}
use Rattle.vax_confined.specs.vax_machine.specs.declared.turn.Stop.TheVariants.{Ended}
use Rattle.vax_confined.specs.vax_machine.specs.State.{State}
use Rattle.vax_confined.specs.vax_machine.specs.Calls.{called, returned}

-- the same state with another stack
abbrev pub with_stack : State → List ℕ → State
with_stack m st = record m { stack = st }

pub record SameStacks (hidden : ℕ → Type 0) (old new : List ℕ) : Type 0 where
  pub old_size : length old ≡ STACK_SIZE
  pub new_size : length new ≡ STACK_SIZE
  pub same : (i : ℕ) → (hidden i → ⊥) → slice_index new i ≡ slice_index old i

-- a call comes to a state beside the one to which it comes from the first
pub record CalledBeside (hidden : ℕ → Type 0) (m n : State) (st : List ℕ) (count place : ℕ) (back : Option ℕ) : Type 0 where
  pub behind : List ℕ
  pub does : called (with_stack m st) count place back ≡ Ok (with_stack n behind)
  pub same : SameStacks hidden n.stack behind

abbrev pub CallsStandBeside : Type 0
CallsStandBeside = (hidden : ℕ → Bool) (m n : State) (st : List ℕ) (count place : ℕ) (back : Option ℕ)
    → SameStacks (λ i. hidden i ≡ true) m.stack st
    → called m count place back ≡ Ok n → CalledBeside (λ i. hidden i ≡ true) m n st count place back

-- A return does the same, where the byte at its frame's ap isn't hidden.
abbrev pub ReturnsStandBeside : Type 0
ReturnsStandBeside = (hidden : ℕ → Bool) (m : State) (st : List ℕ) (f : Frame) → SameStacks (λ i. hidden i ≡ true) m.stack st
    → slice_get m.frames (length m.frames - 1) ≡ Some f → (hidden (f.ap - STACK_START) ≡ true → ⊥)
    → ((n : State) → returned m ≡ Ok (None, n) → returned (with_stack m st) ≡ Ok (None, with_stack n st))
    × ((v : ℕ) → returned m ≡ Err (Ended v) → returned (with_stack m st) ≡ Err (Ended v))
