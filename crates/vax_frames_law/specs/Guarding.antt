-- Calls and returns keep the registers r2 to r11: where each function's mask has every one of them that an instruction
-- of the function names.
use Rattle.std.specs.Prelude.{◌≡◌, ℕ, ◌+◌, ◌/◌, ◌%◌, ◌^◌, ◌<◌, ◌≤◌, ◌==◌, List, [], ◌∷◌, ◌++◌, slice_get, slice_index}
use Rattle.std.specs.Prelude.{Option, Some, None, Ok, Bool, true, false}
use Rattle.vax_core.specs.declared.code.Instr.{Instr}
use Rattle.vax_core.specs.declared.code.CodeItem.{CodeItem}
use Rattle.vax_core.specs.declared.code.CodeItem.TheVariants as item_kind
use Rattle.vax_core.specs.Registers.{operands_name}
use Rattle.vax_machine_live.specs.declared.frame.Frame.{Frame}
use Rattle.vax_machine.specs.declared.function.Action.{Action}
use Rattle.vax_machine.specs.declared.function.Action.TheVariants.{Compute, Push, Branch, Call, Return}
use Rattle.vax_machine.specs.declared.function.Test.TheVariants as test
use Rattle.vax_machine.specs.State.{State}
use Rattle.vax_machine.specs.Functions.{action_of}
use Rattle.vax_machine.specs.Labels.{next_item, label_place}
use Rattle.vax_machine.specs.Calls.{called, returned}
use Rattle.vax_machine.specs.Loading.{blank}
use Rattle.vax_core.specs.declared.code.Code.{Code}
use Rattle.vax_core.specs.First.{main_name}
use Rattle.vax_machine.specs.Step.{step_of, Goes, Writes}

-- whether a mask has a register
abbrev pub has : ℕ → ℕ → Bool
has mask r = (mask / 2 ^ r) % 2 == 1

-- whether the run may come behind an instruction: not behind a return, nor a jump
abbrev pub may_pass : Action → Bool
may_pass (Compute f) = true
may_pass Push = true
may_pass (Branch test.Always) = false
may_pass (Branch t) = true
may_pass Call = true
may_pass Return = false

-- Each place of a code belongs to a function with a mask: its instructions name no other registers of r2 to r11, the run comes to no
-- other function's place behind an instruction or by a branch, and an entry mask is the mask of the places behind it.
pub record IsGuarded (code : List CodeItem) (mask_at : ℕ → ℕ) : Type 0 where
  pub named : (p : ℕ) (i : Instr) (r : ℕ) → slice_get code p ≡ Some (item_kind.Instr i) → 2 ≤ r → r < 12 → has (mask_at p) r ≡ false
      → operands_name i.operands r ≡ false
  pub onward : (p : ℕ) (i : Instr) → slice_get code p ≡ Some (item_kind.Instr i) → may_pass (action_of i.op) ≡ true
      → mask_at (next_item code (p + 1)) ≡ mask_at p
  pub branch : (p : ℕ) (i : Instr) (label : List ℕ) → slice_get code p ≡ Some (item_kind.Instr i) → i.target ≡ Some label
      → (action_of i.op ≡ Call → ⊥)
      → mask_at (next_item code (label_place code label)) ≡ mask_at p
  pub entry : (p mask : ℕ) → slice_get code p ≡ Some (item_kind.Mask mask) → mask_at (next_item code (p + 1)) ≡ mask

-- A call's frame, at a place and with registers: each register that its function may not use is as it was when it was called.
pub record IsIntact (code : List CodeItem) (mask_at : ℕ → ℕ) (f : Frame) (place : ℕ) (registers : List ℕ) : Type 0 where
  pub mask : mask_at (next_item code place) ≡ f.mask
  pub kept : (r : ℕ) → 2 ≤ r → r < 12 → has f.mask r ≡ false → slice_index registers r ≡ slice_index f.saved r

-- the same for all live frames, the innermost last, each suspended one with the registers that the frame inside it has saved
pub data AreIntact (code : List CodeItem) (mask_at : ℕ → ℕ) : List Frame → ℕ → List ℕ → Type 0 where
  outermost : (f : Frame) (place : ℕ) (registers : List ℕ) → f.back ≡ None → IsIntact code mask_at f place registers
      → AreIntact code mask_at (f ∷ []) place registers
  inner : (outer all : List Frame) (f : Frame) (place back : ℕ) (registers : List ℕ) → all ≡ outer ++ f ∷ [] → f.back ≡ Some back
      → IsIntact code mask_at f place registers
      → AreIntact code mask_at outer back f.saved → AreIntact code mask_at all place registers

-- a machine runs such a code, and its frames are intact
pub record KeepsRegisters (code : List CodeItem) (mask_at : ℕ → ℕ) (m : State) : Type 0 where
  pub items : m.items ≡ code
  pub intact : AreIntact code mask_at m.frames m.place m.registers

-- Each step of such a machine leaves it so.
abbrev pub StepsKeep : Type 0
StepsKeep = (code : List CodeItem) (mask_at : ℕ → ℕ) → IsGuarded code mask_at → (m n : State) → KeepsRegisters code mask_at m
    → (step_of m ≡ Goes n → KeepsRegisters code mask_at n) × ((b : ℕ) → step_of m ≡ Writes b n → KeepsRegisters code mask_at n)

-- A return gives r2 to r11 back as they were at the call.
abbrev pub ReturnsRestore : Type 0
ReturnsRestore =
    (code : List CodeItem) (mask_at : ℕ → ℕ) (m n : State) (outer : List Frame) (f : Frame) → KeepsRegisters code mask_at m
    → m.frames ≡ outer ++ f ∷ []
    → returned m ≡ Ok (None, n)
    → (r : ℕ) → 2 ≤ r → r < 12 → slice_index n.registers r ≡ slice_index f.saved r

-- A call saves r1 to r11 as they are, in one more frame.
pub record Saves (m n : State) : Type 0 where
  pub f : Frame
  pub frames : n.frames ≡ m.frames ++ f ∷ []
  pub saved : (r : ℕ) → 1 ≤ r → r < 12 → slice_index f.saved r ≡ slice_index m.registers r

abbrev pub CallsSave : Type 0
CallsSave = (m n : State) (count place : ℕ) (back : Option ℕ) → called m count place back ≡ Ok n → Saves m n

-- Where a run of a guarded code can begin, its first frame is intact.
abbrev pub RunsBeginIntact : Type 0
RunsBeginIntact =
    (c : Code) (input : List ℕ) (mask_at : ℕ → ℕ) (n : State) → IsGuarded c.items mask_at
    → called (blank c input) 0 (label_place c.items main_name) None ≡ Ok n → KeepsRegisters c.items mask_at n
