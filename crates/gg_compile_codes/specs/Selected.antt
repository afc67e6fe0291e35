-- A program's code as it is computed, and its code of which the laws speak, are one.
use Rattle.tree_core.specs.declared.program.TreeProgram.{TreeProgram}
use Rattle.md_reader.specs.State.{Content}
use Rattle.lr_tables.specs.View.{TableView}
use Rattle.lr_tables.specs.Promises.{IsNumbered}
use Rattle.c_program.specs.Programs.{AProgram}
use Rattle.gg_compile_laws.specs.c_typed_check.specs.Typed.{IsTypedUnit}
use Rattle.c_lower_scheme.specs.Programs.{lowered}
use Rattle.gg_compile_laws.specs.lr_checked.specs.Accepted.{NeverStops}
use Rattle.gg_compile_laws.specs.sel_parse_effect.specs.Claims.{IsFit}
use Rattle.vax_core.specs.declared.code.Code.{Code}
use Rattle.vax_target_meaning.specs.Vax.{vax}
use Rattle.gg_compile_laws.specs.gg_compile_code.specs.Selecting as computed
use Rattle.gg_compile_laws.specs.Typed.{FitFrames}
use Rattle.gg_compile_laws.specs.Ready.{HasReadyTrees}
use Rattle.gg_compile_codes.specs.Selecting.{SelectedAll}

-- Of trees that are ready, by a description whose rules are shown on the VAX: a code that is computed is the one of which the laws speak.
abbrev pub ComputedCodesAreSelected : Type 0
ComputedCodesAreSelected =
    (q : TreeProgram) (d : Content) (c : Code) → HasReadyTrees q → IsFit vax d → computed.SelectedAll vax d q c → SelectedAll vax d q c

-- And by the tables of a description whose typed statements never stop a parse, the code of which the laws speak is computed.
abbrev pub SelectedCodesAreComputed : Type 0
SelectedCodesAreComputed =
    (q : TreeProgram) (t : TableView) (c : Code) → HasReadyTrees q → IsFit vax t.content → IsNumbered t → NeverStops t.content
    → SelectedAll vax t.content q c → computed.SelectedAll vax t.content q c

-- So it is both ways with the trees of a typed program whose functions fit their frames.
abbrev pub TypedCodesAreSelected : Type 0
TypedCodesAreSelected =
    (p : AProgram) (d : Content) (c : Code) → IsTypedUnit p → FitFrames p → IsFit vax d → computed.SelectedAll vax d (lowered p) c
    → SelectedAll vax d (lowered p) c

abbrev pub TypedCodesAreComputed : Type 0
TypedCodesAreComputed =
    (p : AProgram) (t : TableView) (c : Code) → IsTypedUnit p → FitFrames p → IsFit vax t.content → IsNumbered t → NeverStops t.content
    → SelectedAll vax t.content (lowered p) c → computed.SelectedAll vax t.content (lowered p) c
