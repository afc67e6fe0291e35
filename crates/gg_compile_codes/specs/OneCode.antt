-- A tree program has one code by a description.
use Rattle.std.specs.Prelude.{◌≡◌}
use Rattle.tree_core.specs.declared.program.TreeProgram.{TreeProgram}
use Rattle.md_reader.specs.State.{Content}
use Rattle.vax_core.specs.declared.code.Code.{Code}
use Rattle.gg_compile_code.specs.vax_target_meaning.specs.Vax.{vax}
use Rattle.gg_compile_code.specs.Selecting.{SelectedAll}

-- Two codes that a description selects of the trees of a program are equal. Nothing is asked of the description or of the trees.
abbrev pub SelectedCodesAreOne : Type 0
SelectedCodesAreOne = (q : TreeProgram) (d : Content) (c e : Code) → SelectedAll vax d q c → SelectedAll vax d q e → c ≡ e
