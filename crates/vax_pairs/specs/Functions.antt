-- Codes in which each function names only registers of its mask: what is to be known of each code by itself.
use Rattle.std.specs.Prelude.{◌≡◌, ℕ, ◌+◌, ◌/◌, ◌%◌, ◌^◌, ◌<◌, ◌≤◌, ◌==◌, Bool, true, false, List, [], ◌∷◌, Option, Some, None}
use Rattle.std.specs.Prelude.{slice_index, slice_get}
use Rattle.vax_machine_lists.specs.vax_core.specs.declared.code.CodeItem.{CodeItem}
use Rattle.vax_machine_lists.specs.vax_core.specs.declared.code.CodeItem.TheVariants as item_kind
use Rattle.vax_machine_lists.specs.vax_core.specs.declared.code.Instr.{Instr}
use Rattle.vax_machine_lists.specs.vax_core.specs.Registers.{operands_name}
use Rattle.vax_machine_lists.specs.vax_machine_live.specs.declared.frame.Frame.{Frame}
use Rattle.vax_machine_lists.specs.vax_machine.specs.declared.function.Action.{Action}
use Rattle.vax_machine_lists.specs.vax_machine.specs.declared.function.Action.TheVariants.{Branch}
use Rattle.vax_machine_lists.specs.vax_machine.specs.State.{State}
use Rattle.vax_machine_lists.specs.vax_machine.specs.Functions.{action_of}
use Rattle.vax_machine_lists.specs.vax_machine.specs.Labels.{next_item, label_place}
use Rattle.vax_machine_lists.specs.vax_machine.specs.Calls.{entry_mask}
use Rattle.vax_machine_lists.specs.Sound.{IsRunning}

-- a mask has a register
abbrev pub has : ℕ → ℕ → Bool
has mask r = (mask / 2 ^ r) % 2 == 1

abbrev pub is_branch : Action → Bool
is_branch (Branch t) = true
is_branch a = false

-- In: a place belongs to a function with this mask
pub record Functions (cs : List CodeItem) (In : (mask place : ℕ) → Type 0) : Type 0 where
  pub result : (mask place : ℕ) → In mask place → has mask 0 ≡ false
  pub names : (mask place : ℕ) (i : Instr) → In mask place → slice_get cs (next_item cs place) ≡ Some (item_kind.Instr i)
      → (r : ℕ) → 2 ≤ r → r < 12 → has mask r ≡ false → operands_name i.operands r ≡ false
  pub behind : (mask place : ℕ) (i : Instr) → In mask place → slice_get cs (next_item cs place) ≡ Some (item_kind.Instr i)
      → In mask (next_item cs place + 1)
  pub goes : (mask place : ℕ) (i : Instr) (l : List ℕ) → In mask place
      → slice_get cs (next_item cs place) ≡ Some (item_kind.Instr i) → i.target ≡ Some l → is_branch (action_of i.op) ≡ true
      → In mask (label_place cs l)
  pub enters : (l : List ℕ) (mask : ℕ) → entry_mask (slice_get cs (next_item cs (label_place cs l))) ≡ Some mask
      → In mask (next_item cs (label_place cs l) + 1)

-- registers outside a mask are the same
abbrev pub Outside : ℕ → List ℕ → List ℕ → Type 0
Outside mask us vs = (r : ℕ) → 2 ≤ r → r < 12 → has mask r ≡ false → slice_index us r ≡ slice_index vs r

module _ (In : (mask place : ℕ) → Type 0) where
  abbrev pub BackIn : ℕ → Option ℕ → Type 0
  BackIn mask None = Unit {0}
  BackIn mask (Some p) = In mask p

  -- Registers outside a live frame's mask are what they were at its call, in the frame that is live inside it or in the machine; and
  -- calls come back to places of the functions that called.
  abbrev pub Linked : Frame → List Frame → List ℕ → ℕ → Type 0
  Linked f [] regs place = Outside f.mask regs f.saved × In f.mask place
  Linked f (g ∷ fs) regs place = Outside f.mask g.saved f.saved × BackIn f.mask g.back

  abbrev pub Chain : List Frame → List ℕ → ℕ → Type 0
  Chain [] regs place = Unit {0}
  Chain (f ∷ fs) regs place = Linked f fs regs place × Chain fs regs place

  pub record KeepsRegisters (cs : List CodeItem) (m : State) : Type 0 where
    pub running : IsRunning m
    pub items : m.items ≡ cs
    pub chain : Chain m.frames m.registers m.place
