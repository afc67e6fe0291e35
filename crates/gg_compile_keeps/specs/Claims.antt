-- The code that is selected of a program's trees keeps the program.
use Rattle.std.specs.Prelude.{ℕ, List}
use Rattle.gg_base.specs.Runs.{Runs}
use Rattle.gg_base.specs.Follows.{Follows}
use Rattle.tree_core.specs.declared.program.TreeProgram.{TreeProgram}
use Rattle.tree_meaning.specs.Meaning.{tree_run}
use Rattle.md_reader.specs.State.{Content}
use Rattle.sel_parse_joined.specs.sel_parse_effect.specs.Claims.{IsFit}
use Rattle.vax_core.specs.declared.code.Code.{Code}
use Rattle.vax_machine.specs.Loading.{Loads}
use Rattle.vax_machine.specs.Running.{run}
use Rattle.gg_compile_names.specs.vax_machine_lists.specs.Sound.{AllBelow}
use Rattle.gg_compile_names.specs.vax_target_meaning.specs.Vax.{vax}
use Rattle.gg_compile_code.specs.Selecting.{SelectedAll}
use Rattle.gg_compile_keeps.specs.Programs.{IsSelectable}

-- The code loads, and on every input of bytes its run follows whatever the run of the trees follows.
pub record KeepsTrees (q : TreeProgram) (c : Code) : Type 0 where
  pub loads : Loads c
  pub follows : (source : Runs) (input : List ℕ) → AllBelow 256 input → Follows source (tree_run q input) → Follows source (run c input)

-- The code that a description, whose rules are shown on the VAX, selects of a program's trees keeps them.
abbrev pub SelectedCodesKeepTrees : Type 0
SelectedCodesKeepTrees = (q : TreeProgram) (d : Content) (c : Code) → IsSelectable q → IsFit vax d → SelectedAll vax d q c → KeepsTrees q c
