-- What is claimed of a typed program whose functions fit their frames.
use Rattle.std.specs.Prelude.{ℕ, ◌<◌, ◌≤◌, length}
use Rattle.gg_base.specs.declared.limits.TheConstants.{NEED_LIMIT}
use Rattle.c_program.specs.Programs.{AProgram}
use Rattle.c_typed_check.specs.Typed.{IsTypedUnit, need_at}
use Rattle.c_lower_scheme.specs.Programs.{lowered}
use Rattle.md_reader.specs.State.{Content}
use Rattle.sel_parse_written.specs.sel_parse_effect.specs.Claims.{IsFit}
use Rattle.vax_core.specs.declared.code.Code.{Code}
use Rattle.gg_compile_keeps.specs.vax_target_meaning.specs.Vax.{vax}
use Rattle.gg_compile_keeps.specs.gg_compile_code.specs.Selecting.{SelectedAll}
use Rattle.gg_compile_laws.specs.Keeping.{Keeps, IsWithinLimits}
use Rattle.gg_compile_laws.specs.Ready.{HasReadyTrees}

-- no function needs more than `NEED_LIMIT` words of its frame
abbrev pub FitFrames : AProgram → Type 0
FitFrames p = (n : ℕ) → n < length p.routines → need_at p n ≤ NEED_LIMIT

-- The trees of such a program are within the limits of code.
abbrev pub TypedProgramsAreWithinLimits : Type 0
TypedProgramsAreWithinLimits = (p : AProgram) → IsTypedUnit p → FitFrames p → IsWithinLimits (lowered p)

-- They are ready.
abbrev pub TypedProgramsAreReady : Type 0
TypedProgramsAreReady = (p : AProgram) → IsTypedUnit p → FitFrames p → HasReadyTrees (lowered p)

-- The code that a description, whose rules are shown on the VAX, selects of them keeps the program.
abbrev pub TypedCodesKeepPrograms : Type 0
TypedCodesKeepPrograms = (p : AProgram) (d : Content) (c : Code) → IsTypedUnit p → FitFrames p → IsFit vax d
    → SelectedAll vax d (lowered p) c → Keeps p c
