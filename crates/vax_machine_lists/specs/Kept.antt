-- What an instruction leaves as it was.
use Rattle.std.specs.Prelude.{◌≡◌, ℕ, ◌<◌, ◌≤◌, false, slice_index}
use Rattle.vax_core.specs.declared.code.Instr.{Instr}
use Rattle.vax_core.specs.Registers.{operands_name}
use Rattle.vax_machine.specs.State.{State}
use Rattle.vax_machine_lists.specs.Instructions.{Ending, Comes, Goes, Calls, Returns, Stops, performed}

-- the register of this number is the same, and the live frames and the code are
pub record Same (r : ℕ) (m n : State) : Type 0 where
  pub register : slice_index n.registers r ≡ slice_index m.registers r
  pub frames : n.frames ≡ m.frames
  pub items : n.items ≡ m.items

-- the register is the same where the run comes behind, goes elsewhere, calls or returns
abbrev pub KeptAt : ℕ → State → Ending → Type 0
KeptAt r m (Comes n) = Same r m n
KeptAt r m (Goes label n) = Same r m n
KeptAt r m (Calls name count n rest) = Same r m n
KeptAt r m (Returns n) = Same r m n
KeptAt r m (Stops e) = Unit {0}

-- an instruction changes none of r1 to r11 but those that its operands name
abbrev pub InstructionsKeep : Type 0
InstructionsKeep = (r : ℕ) → 1 ≤ r → r < 12 → (i : Instr) (m : State) → operands_name i.operands r ≡ false
    → KeptAt r m (performed i m).ending
