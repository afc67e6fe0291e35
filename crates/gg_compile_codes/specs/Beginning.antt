-- The VAX has a state in which a compiled program's run begins.
use Rattle.std.specs.Prelude.{ℕ, List}
use Rattle.tree_core.specs.declared.program.TreeProgram.{TreeProgram}
use Rattle.md_reader.specs.State.{Content}
use Rattle.c_program.specs.Programs.{AProgram}
use Rattle.gg_compile_laws.specs.c_typed_check.specs.Typed.{IsTypedUnit}
use Rattle.c_sound.specs.Fits.{AreBytes}
use Rattle.c_lower_scheme.specs.Programs.{lowered}
use Rattle.gg_compile_laws.specs.sel_parse_effect.specs.Claims.{IsFit}
use Rattle.vax_core.specs.declared.code.Code.{Code}
use Rattle.vax_machine_lists.specs.Sound.{AllBelow}
use Rattle.vax_target_meaning.specs.Vax.{vax}
use Rattle.gg_compile_law.specs.Written.{IsWritten}
use Rattle.gg_compile_laws.specs.gg_compile_code.specs.Selecting.{SelectedAll}
use Rattle.gg_compile_laws.specs.Typed.{FitFrames}
use Rattle.gg_compile_codes.specs.Begins.{HasBegin}

-- Where a code is written of a program whose names can be spelled, on each input of bytes some state of the VAX stands for the beginning of
-- the run of its trees.
abbrev pub WrittenProgramsBegin : Type 0
WrittenProgramsBegin =
    (q : TreeProgram) (c : Code) (input : List ℕ) → vax.can_write q → IsWritten q c → AllBelow 256 input → HasBegin vax q input

-- So it is with the trees of a typed program whose functions fit their frames, where a description, whose rules are shown, selects a code.
abbrev pub TypedProgramsBegin : Type 0
TypedProgramsBegin =
    (p : AProgram) (d : Content) (c : Code) (input : List ℕ) → IsTypedUnit p → FitFrames p → IsFit vax d → SelectedAll vax d (lowered p) c
    → AreBytes input → HasBegin vax (lowered p) input
