-- How the places are found at which C may be read: each such place brings others into the set.
use Rattle.std.specs.Prelude.{◌≡◌, ◌⊎◌, ℕ, ◌+◌, Bool, true, false, List, length, Option, Some, None, slice_get}
use Rattle.vax_core.specs.declared.code.CodeItem.{CodeItem}
use Rattle.vax_core.specs.declared.code.CodeItem.TheVariants as item_kind
use Rattle.vax_machine.specs.declared.function.Action.{Action}
use Rattle.vax_machine.specs.declared.function.Action.TheVariants.{Compute, Push, Branch, Call, Return}
use Rattle.vax_machine.specs.Functions.{action_of}
use Rattle.vax_alike.specs.Corresponding.{falls, keeps_carry, asks_carry}
use Rattle.vax_codes.specs.declared.marks.Marks.{Marks}
use Rattle.vax_codes.specs.Marks.{IsMarked, waits}
use Rattle.vax_codes.specs.Carry.{MayRead}
use Rattle.vax_codes.specs.Nexts.{goal_of}

-- C may be read in front of what is done where it may be read behind
abbrev pub action_passes : Action → Bool
action_passes (Compute f) = keeps_carry f
action_passes Push = true
action_passes (Branch t) = falls (Branch t)
action_passes Call = false
action_passes Return = false

abbrev pub passes_on : Option CodeItem → Bool
passes_on None = false
passes_on (Some (item_kind.Label n)) = true
passes_on (Some (item_kind.Globl n)) = true
passes_on (Some (item_kind.Mask m)) = false
passes_on (Some (item_kind.Instr i)) = action_passes (action_of i.op)

abbrev pub action_asks : Action → Bool
action_asks (Branch t) = asks_carry t
action_asks a = false

-- a branch that reads C
abbrev pub asks : Option CodeItem → Bool
asks (Some (item_kind.Instr i)) = action_asks (action_of i.op)
asks x = false

-- C may be read at p where it may be read at q
abbrev pub Brings : List CodeItem → ℕ → ℕ → Type 0
Brings cs q p = ((p + 1 ≡ q) × (passes_on (slice_get cs p) ≡ true)) ⊎ (goal_of cs (slice_get cs p) ≡ Some q)

-- The set so far: all that is in it belongs to it, and what else a place brings into it is in it, if the place doesn't wait.
pub record IsPartOf (cs : List CodeItem) (m : Marks) : Type 0 where
  pub each : length m.marked.items ≡ length cs + 1
  pub belongs : (p : ℕ) → IsMarked m p → MayRead cs p
  pub asked : (p : ℕ) → asks (slice_get cs p) ≡ true → IsMarked m p
  pub waiting : (p : ℕ) → waits m p ≡ true → IsMarked m p
  pub closed : (q : ℕ) → IsMarked m q → (waits m q ≡ true) ⊎ ((p : ℕ) → Brings cs q p → IsMarked m p)
