-- Compiled code is made of frames, so that calls keep the registers r2 to r11.
use Rattle.std.specs.Prelude.{◌≡◌, ℕ, ◌^◌, ◌<◌, ◌≤◌, List, length, slice_index, Option, None, Ok}
use Rattle.gg_base.specs.declared.size.Size.TheVariants.{Byte}
use Rattle.gg_base.specs.Arithmetic.{sub32}
use Rattle.tree_core.specs.declared.program.TreeProgram.{TreeProgram}
use Rattle.c_program.specs.Programs.{AProgram}
use Rattle.gg_compile_laws.specs.c_typed_check.specs.Typed.{IsTypedUnit}
use Rattle.c_lower_scheme.specs.Programs.{lowered}
use Rattle.md_reader.specs.State.{Content}
use Rattle.gg_compile_laws.specs.sel_parse_effect.specs.Claims.{IsFit}
use Rattle.vax_core.specs.declared.register.Reg.TheVariants.{Sp}
use Rattle.vax_core.specs.declared.code.CodeItem.{CodeItem}
use Rattle.vax_core.specs.declared.code.Code.{Code}
use Rattle.vax_machine.specs.State.{State, reg}
use Rattle.vax_machine.specs.Memory.{read}
use Rattle.vax_machine.specs.Calls.{called, returned}
use Rattle.vax_target_meaning.specs.Vax.{vax}
use Rattle.vax_frames_law.specs.Guarding.{IsGuarded, KeepsRegisters}
use Rattle.vax_frames_law.specs.Within.{AreFrames, mask_from}
use Rattle.vax_frames_law.specs.Undoing.{IsUndone}
use Rattle.gg_compile_laws.specs.gg_compile_code.specs.Selecting.{SelectedAll}
use Rattle.gg_compile_laws.specs.gg_compile_keeps.specs.Programs.{IsSelectable}
use Rattle.gg_compile_laws.specs.Typed.{FitFrames}
use Rattle.gg_compile_codes.specs.Reached.{Reached, GoesOn}

-- The code that a description, whose rules are shown on the VAX, selects of a program's trees is one frame behind another, each round a
-- body that names no register of r2 to r11 outside its mask, and branches to labels of its own.
abbrev pub SelectedCodesAreFrames : Type 0
SelectedCodesAreFrames =
    (q : TreeProgram) (d : Content) (c : Code) → IsSelectable q → IsFit vax d → SelectedAll vax d q c → AreFrames c.items

-- So it is guarded.
abbrev pub SelectedCodesAreGuarded : Type 0
SelectedCodesAreGuarded =
    (q : TreeProgram) (d : Content) (c : Code) → IsSelectable q → IsFit vax d → SelectedAll vax d q c
    → IsGuarded c.items (mask_from 0 c.items)

-- In each state of a run of a guarded code all live frames are intact: the registers outside a frame's mask are as they were at its call.
abbrev pub GuardedRunsKeepRegisters : Type 0
GuardedRunsKeepRegisters =
    (c : Code) (input : List ℕ) (m : State) → IsGuarded c.items (mask_from 0 c.items) → Reached c input m
    → KeepsRegisters c.items (mask_from 0 c.items) m

-- So it is with the code that is selected of a typed program whose functions fit their frames.
abbrev pub TypedCodesKeepRegisters : Type 0
TypedCodesKeepRegisters =
    (p : AProgram) (d : Content) (c : Code) (input : List ℕ) (m : State) → IsTypedUnit p → FitFrames p → IsFit vax d
    → SelectedAll vax d (lowered p) c → Reached c input m → KeepsRegisters c.items (mask_from 0 c.items) m

-- a call up to its return: frames, fp and ap are what they were, the arguments are off the stack, and r2 to r11 are what they were
pub record IsOver (m r : State) (count : ℕ) (back : Option ℕ) : Type 0 where
  pub undone : IsUndone m r count back
  pub kept : (k : ℕ) → 2 ≤ k → k < 12 → slice_index r.registers k ≡ slice_index m.registers k

-- In a guarded code: a call is made, its run goes on with its frame live, and returns from that frame; where the number of arguments stands
-- as it was pushed, the call is over and has left nothing changed in the caller's frame.
abbrev pub CallsAreOver : Type 0
CallsAreOver =
    (code : List CodeItem) (mask_at : ℕ → ℕ) (m n q r : State) (count place : ℕ) (back : Option ℕ) → IsGuarded code mask_at
    → length m.registers ≡ 15 → reg m Sp < 2 ^ 32 → count < 256 → called m count place back ≡ Ok n → KeepsRegisters code mask_at n
    → GoesOn n q → q.frames ≡ n.frames → read (record q { frames = m.frames }) (sub32 (reg m Sp) 4) Byte ≡ Ok count
    → returned q ≡ Ok (None, r) → IsOver m r count back
