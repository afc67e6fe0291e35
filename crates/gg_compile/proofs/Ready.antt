-- By an accepted description the trees of a program whose functions fit all have code; it can be written, and keeps the program.
use Rattle.std.proofs.Common.{◌≡◌, true, sym, subst}
use Rattle.std.proofs.Math.Bool.{Bool-set}
use Rattle.std.proofs.Math.Logic.{∥∥₁_map, ∥∥₁_elim}
use Rattle.gg_base.proofs.Facts.{no_prop}
use Rattle.tree_core.specs.declared.program.TreeItem.TheVariants as tree_item
use Rattle.tree_core.specs.declared.program.TreeProgram.{TreeProgram}
use Rattle.md_reader.specs.State.{Content}
use Rattle.gg_accepted.specs.lr_checked.specs.Accepted.{NeverStops}
use Rattle.gg_accepted.specs.sel_parse_effect.specs.Claims.{IsFit}
use Rattle.c_program.specs.Programs.{program}
use Rattle.c_lower.specs.c_typed_check.specs.declared.program.Program.{Program}
use Rattle.c_lower_scheme.specs.Programs.{lowered}
use Rattle.vax_core.specs.declared.code.Code.{Code}
use Rattle.vax_core.specs.Valid.{is_code}
use Rattle.gg_compile_laws.specs.vax_target_meaning.specs.Vax.{vax}
use Rattle.gg_compile_laws.specs.gg_compile_code.specs.Selecting.{SelectedAll}
use Rattle.gg_compile_laws.specs.gg_compile_code.specs.Going.{ProgramGoes}
use Rattle.gg_compile_laws.specs.Keeping.{Keeps}
use Rattle.gg_compile_laws.specs.Ready.{HasReadyTrees}
use Rattle.gg_compile_laws.proofs.Going.{trees_go}
use Rattle.gg_compile_laws.proofs.Limits.{typed_codes_keep_programs}
use Rattle.gg_compile_laws.proofs.Typed.{typed_programs_are_ready}
use Rattle.gg_compile_laws.proofs.Programs.{typed_codes_can_be_written}
use Rattle.gg_compile.specs.Needs.{AllFit}

-- no tree of trees that are ready blocks, turns or finds its frame full
pub all_go : (q : TreeProgram) (d : Content) → ∥ HasReadyTrees q ∥₁ → IsFit vax d → NeverStops d → ProgramGoes vax d q
all_go q d ok fit never f g there n (tree_item.Label l) at = tt
all_go q d ok fit never f g there n (tree_item.Root w) at = record {
  parses = λ b. ∥∥₁_elim ok no_prop (λ r. (trees_go q d r fit never f g there n (tree_item.Root w) at).parses b);
  has_room = λ b. ∥∥₁_elim ok no_prop (λ r. (trees_go q d r fit never f g there n (tree_item.Root w) at).has_room b);
}

module _ (s : Program) (q : TreeProgram) (is : q ≡ lowered (program s.held)) (fit : AllFit (program s.held)) where
  pub ready : ∥ HasReadyTrees q ∥₁
  ready = ∥∥₁_map s.is_typed (λ t. subst HasReadyTrees (sym is) (typed_programs_are_ready (program s.held) t fit))

  module _ (d : Content) (c : Code) (shown : IsFit vax d) (selected : SelectedAll vax d q c) where
    of_it : SelectedAll vax d (lowered (program s.held)) c
    of_it = subst (λ (x : TreeProgram). SelectedAll vax d x c) is selected

    pub code_keeps : ∥ Keeps (program s.held) c ∥₁
    code_keeps = ∥∥₁_map s.is_typed (λ t. typed_codes_keep_programs (program s.held) d c t fit shown of_it)

    pub code_valid : is_code c ≡ true
    code_valid = ∥∥₁_elim s.is_typed (Bool-set _ _) (λ t. typed_codes_can_be_written (program s.held) d c t fit shown of_it)
