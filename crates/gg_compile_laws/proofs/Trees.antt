-- The instructions that are selected of a tree can be written, and they use words below 1,024 alone.
use Rattle.std.proofs.Common.{◌≡◌, ℕ, ◌≤◌, List, length, Some, true}
use Rattle.std.specs.Prelude.{slice_get}
use Rattle.std.specs.List.{AllByRecursion as All}
use Rattle.tree_core.specs.declared.tree.Leaf.{Leaf}
use Rattle.tree_core.specs.declared.program.TreeItem.TheVariants as tree_item
use Rattle.tree_core.specs.declared.program.TreeFn.{TreeFn}
use Rattle.tree_core.specs.declared.program.TreeProgram.{TreeProgram}
use Rattle.tree_core.specs.Valid.{IsValid, ItemStands, ItemsStand}
use Rattle.md_reader.specs.State.{Content}
use Rattle.sel_parse_written.specs.sel_parse_desk.specs.Selected.{tree_of, Selected}
use Rattle.sel_parse_written.specs.sel_parse_effect.specs.Claims.{IsFit}
use Rattle.sel_parse_written.specs.sel_parse_law.specs.Claims.{IsReady}
use Rattle.sel_parse_written.proofs.Law.{selections_use_low_words}
use Rattle.vax_core.specs.declared.code.Instr.{Instr}
use Rattle.vax_core.specs.Valid.{is_instr}
use Rattle.gg_compile_keeps.specs.vax_target_meaning.specs.Fitting.{CanWrite}
use Rattle.gg_compile_keeps.specs.vax_target_meaning.specs.Vax.{vax}
use Rattle.gg_compile_keeps.specs.vax_target_laws.proofs.Law.{vax_is_lawful}
use Rattle.gg_compile_counts.specs.gg_compile_law.proofs.Validity.{IsIn, all_at}
use Rattle.gg_compile_keeps.proofs.Lines as lines
use Rattle.gg_compile_laws.specs.Keeping.{IsWithinLimits}

module _ (q : TreeProgram) (valid : IsValid q) (limits : IsWithinLimits q) (can : CanWrite q) (d : Content) (fit : IsFit vax d) (n : ℕ) (g : TreeFn)
    (there : slice_get q.functions n ≡ Some g) (w : List Leaf) (at : IsIn (tree_item.Root w) g.items) where
  stands : ItemStands q.functions (length q.objects) g (tree_item.Root w)
  stands =
      all_at (ItemStands q.functions (length q.objects) g) g.items at.0 (tree_item.Root w) (all_at (ItemsStand q.functions (length q.objects)) q.functions n g valid.roots there) at.1

  ready : IsReady vax q d g.locals (tree_of w)
  ready = lines.ready q d g w can fit (limits.locals n g there) stands (limits.longwords n at.0 g w there at.1)

  module _ (instrs : List Instr) (most : ℕ) (s : Selected vax q d g.locals (tree_of w) instrs most) where
    pub instrs_valid : All (λ (i : Instr). is_instr i ≡ true) instrs
    instrs_valid = lines.instrs_valid q d g w can fit (limits.locals n g there) stands (limits.longwords n at.0 g w there at.1) instrs most s

    pub words_low : most ≤ 1024
    words_low = selections_use_low_words vax vax_is_lawful q d g.locals (tree_of w) instrs most ready (limits.locals n g there) s
