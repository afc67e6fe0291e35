-- What is claimed of the code of a typed program whose functions want other locals in registers. Whatever is chosen of them, the laws of its
-- code are those of the program's own trees.
use Rattle.std.specs.Prelude.{◌≡◌, ◌≤◌, length, true}
use Rattle.std.specs.List.{All}
use Rattle.gg_base.specs.declared.limits.TheConstants.{AREA_LIMIT, NEED_LIMIT}
use Rattle.tree_core.specs.declared.program.Object.{Object}
use Rattle.tree_core.specs.declared.program.TreeFn.{TreeFn}
use Rattle.tree_core.specs.declared.program.TreeProgram.{TreeProgram}
use Rattle.tree_homes.specs.Rehoming.{IsRehomed, anything}
use Rattle.c_program.specs.Programs.{AProgram}
use Rattle.c_lower_scheme.specs.Programs.{lowered}
use Rattle.md_reader.specs.State.{Content}
use Rattle.vax_core.specs.declared.code.Code.{Code}
use Rattle.vax_core.specs.Valid.{is_code}
use Rattle.gg_compile_laws.specs.c_typed_check.specs.Typed.{IsTypedUnit}
use Rattle.gg_compile_laws.specs.sel_parse_effect.specs.Claims.{IsFit}
use Rattle.gg_compile_laws.specs.vax_target_meaning.specs.Vax.{vax}
use Rattle.gg_compile_laws.specs.gg_compile_code.specs.Selecting.{SelectedAll}
use Rattle.gg_compile_laws.specs.Keeping.{Keeps, IsWithinLimits}
use Rattle.gg_compile_laws.specs.Ready.{HasReadyTrees}
use Rattle.gg_compile_laws.specs.Typed.{FitFrames}

-- The trees of a typed program whose functions fit their frames, with other locals wanted in registers.
pub record AreRehomedTrees (p : AProgram) (q : TreeProgram) : Type 0 where
  pub typed : IsTypedUnit p
  pub fit : FitFrames p
  pub rehomed : IsRehomed anything (lowered p) q

-- They are ready, so that by a description that was checked and shown all have code.
abbrev pub RehomedTreesAreReady : Type 0
RehomedTreesAreReady = (p : AProgram) (q : TreeProgram) → AreRehomedTrees p q → HasReadyTrees q

-- They are within the limits of code.
abbrev pub RehomedProgramsAreWithinLimits : Type 0
RehomedProgramsAreWithinLimits = (p : AProgram) (q : TreeProgram) → AreRehomedTrees p q → IsWithinLimits q

-- Each function has few enough locals, and each object few enough bytes.
pub record FitsCode (q : TreeProgram) : Type 0 where
  pub locals : All (λ (f : TreeFn). f.locals ≤ NEED_LIMIT) q.functions
  pub objects : All (λ (o : Object). length o.bytes ≤ AREA_LIMIT) q.objects

-- It holds where it is only known that there is such a typing, as a `Program` keeps it.
abbrev pub RehomedTreesFitCode : Type 0
RehomedTreesFitCode = (p : AProgram) (q : TreeProgram) → ∥ AreRehomedTrees p q ∥₁ → FitsCode q

-- The code that a description, whose rules are shown on the VAX, selects of them keeps the program.
abbrev pub RehomedCodesKeepPrograms : Type 0
RehomedCodesKeepPrograms =
    (p : AProgram) (q : TreeProgram) (d : Content) (c : Code) → AreRehomedTrees p q → IsFit vax d → SelectedAll vax d q c → Keeps p c

-- A text of it can be written.
abbrev pub RehomedCodesCanBeWritten : Type 0
RehomedCodesCanBeWritten =
    (p : AProgram) (q : TreeProgram) (d : Content) (c : Code) → AreRehomedTrees p q → IsFit vax d → SelectedAll vax d q c
    → is_code c ≡ true
