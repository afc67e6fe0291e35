-- A text can be written of the code that is selected of a program's trees.
use Rattle.std.specs.Prelude.{◌≡◌, true}
use Rattle.std.specs.List.{AllByRecursion}
use Rattle.tree_core.specs.declared.program.Object.{Object}
use Rattle.tree_core.specs.declared.program.TreeProgram.{TreeProgram}
use Rattle.tree_core.specs.Valid.{IsValid}
use Rattle.c_program.specs.Programs.{AProgram}
use Rattle.c_typed_check.specs.Typed.{IsTypedUnit}
use Rattle.c_sound.specs.Sound.{IsSound}
use Rattle.c_lower_scheme.specs.Programs.{lowered}
use Rattle.md_reader.specs.State.{Content}
use Rattle.sel_parse_written.specs.sel_parse_effect.specs.Claims.{IsFit}
use Rattle.vax_core.specs.declared.code.Code.{Code}
use Rattle.vax_core.specs.Valid.{is_name, is_code}
use Rattle.vax_machine_lists.specs.Sound.{AllBelow}
use Rattle.gg_compile_keeps.specs.vax_target_meaning.specs.Vax.{vax}
use Rattle.gg_compile_keeps.specs.gg_compile_code.specs.Selecting.{SelectedAll}
use Rattle.gg_compile_laws.specs.Keeping.{IsWithinLimits}
use Rattle.gg_compile_laws.specs.Typed.{FitFrames}

-- The labels of a program's objects can be spelled, and what they hold are bytes.
pub record HasPlainObjects (q : TreeProgram) : Type 0 where
  pub labels : AllByRecursion (λ (o : Object). is_name o.label ≡ true) q.objects
  pub bytes : AllByRecursion (λ (o : Object). AllBelow 256 o.bytes) q.objects

-- A text can be written of the code that a description, whose rules are shown on the VAX, selects of the trees of a valid program within
-- the limits.
abbrev pub SelectedCodesCanBeWritten : Type 0
SelectedCodesCanBeWritten =
    (q : TreeProgram) (d : Content) (c : Code) → IsValid q → IsWithinLimits q → HasPlainObjects q → IsFit vax d → SelectedAll vax d q c
    → is_code c ≡ true

-- So it is with the code that is selected of the trees of a sound C program, where these are within the limits.
abbrev pub SelectedProgramsCanBeWritten : Type 0
SelectedProgramsCanBeWritten =
    (p : AProgram) (d : Content) (c : Code) → IsSound p → IsWithinLimits (lowered p) → IsFit vax d → SelectedAll vax d (lowered p) c
    → is_code c ≡ true

-- So it is with every typed program none of whose functions needs more than `NEED_LIMIT` words of its frame.
abbrev pub TypedCodesCanBeWritten : Type 0
TypedCodesCanBeWritten =
    (p : AProgram) (d : Content) (c : Code) → IsTypedUnit p → FitFrames p → IsFit vax d → SelectedAll vax d (lowered p) c → is_code c ≡ true
