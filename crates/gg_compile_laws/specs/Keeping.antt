-- The code that is selected of a C program's trees keeps the program.
use Rattle.std.specs.Prelude.{◌≡◌, ℕ, ◌≤◌, List, Some, true, slice_get}
use Rattle.std.specs.List.{AllByRecursion}
use Rattle.gg_base.specs.declared.limits.TheConstants.{NEED_LIMIT}
use Rattle.gg_base.specs.Follows.{Follows}
use Rattle.tree_core.specs.declared.program.TreeFn.{TreeFn}
use Rattle.tree_core.specs.declared.program.TreeProgram.{TreeProgram}
use Rattle.tree_core.specs.Names.{function_label}
use Rattle.c_program.specs.Programs.{AProgram}
use Rattle.c_sound.specs.Fits.{AreBytes}
use Rattle.c_sound.specs.Sound.{IsSound}
use Rattle.c_lower_follows.specs.c_meaning.specs.Programs.{source}
use Rattle.c_lower_scheme.specs.Programs.{lowered}
use Rattle.md_reader.specs.State.{Content}
use Rattle.sel_parse_written.specs.sel_target.specs.Spelled.{TreesAreSpelled}
use Rattle.sel_parse_written.specs.sel_parse_effect.specs.Claims.{IsFit}
use Rattle.vax_core.specs.declared.code.Code.{Code}
use Rattle.vax_core.specs.Valid.{is_name}
use Rattle.vax_machine.specs.Loading.{Loads}
use Rattle.vax_machine.specs.Running.{run}
use Rattle.gg_compile_keeps.specs.vax_target_meaning.specs.Vax.{vax}
use Rattle.gg_compile_counts.specs.gg_compile_law.specs.Names.{HaveSmall}
use Rattle.gg_compile_keeps.specs.gg_compile_code.specs.Selecting.{SelectedAll}

-- The code loads, and on every input of bytes its run follows the program's.
pub record Keeps (p : AProgram) (c : Code) : Type 0 where
  pub loads : Loads c
  pub follows : (input : List ℕ) → AreBytes input → Follows (source p input) (run c input)

-- What code for the trees asks besides what typing gives: functions' names can be spelled, numbers, offsets and labels
-- are longwords, and each function's locals fit its frame.
pub record IsWithinLimits (q : TreeProgram) : Type 0 where
  pub names : AllByRecursion (λ (f : TreeFn). is_name (function_label f.name) ≡ true) q.functions
  pub longwords : TreesAreSpelled q
  pub small : HaveSmall q.functions
  pub locals : (n : ℕ) (g : TreeFn) → slice_get q.functions n ≡ Some g → g.locals ≤ NEED_LIMIT

-- The code that a description, whose rules are shown on the VAX, selects of the trees of a program keeps the program.
abbrev pub SelectedCodesKeepPrograms : Type 0
SelectedCodesKeepPrograms =
    (p : AProgram) (d : Content) (c : Code) → IsSound p → IsWithinLimits (lowered p) → IsFit vax d
    → SelectedAll vax d (lowered p) c → Keeps p c
