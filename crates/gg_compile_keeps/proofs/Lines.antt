-- The instructions that are selected of a tree can be written.
use Rattle.std.proofs.Common.{◌≡◌, ℕ, ◌≤◌, List, length, true, sym, subst}
use Rattle.std.specs.List.{AllByRecursion as All}
use Rattle.tree_core.specs.declared.token.Sort.TheVariants as sort
use Rattle.tree_core.specs.declared.tree.Leaf.{Leaf}
use Rattle.tree_core.specs.declared.program.TreeItem.TheVariants as tree_item
use Rattle.tree_core.specs.declared.program.TreeFn.{TreeFn}
use Rattle.tree_core.specs.declared.program.TreeProgram.{TreeProgram}
use Rattle.tree_core.specs.Trees.{IsTyped}
use Rattle.tree_core.specs.Valid.{ItemStands}
use Rattle.md_reader.specs.State.{Content}
use Rattle.sel_parse_joined.specs.sel_target.specs.Spelled.{IsSpelled}
use Rattle.sel_parse_written.specs.sel_parse_desk.specs.Selected.{tree_of, Selected}
use Rattle.sel_parse_written.specs.sel_parse_effect.specs.Claims.{IsFit}
use Rattle.sel_parse_written.specs.sel_parse_law.specs.Claims.{IsReady}
use Rattle.sel_parse_written.specs.Claims.{LinesPass}
use Rattle.sel_parse_written.proofs.Law.{selections_pass}
use Rattle.vax_core.specs.declared.code.Instr.{Instr}
use Rattle.vax_core.specs.Valid.{is_instr}
use Rattle.gg_compile_effect.specs.vax_target_laws.proofs.Law.{vax_is_lawful}
use Rattle.gg_compile_effect.specs.vax_target_writing.proofs.Spilling.{lines_are_written, spills_are_written}
use Rattle.gg_compile_names.specs.vax_target_meaning.specs.Fitting.{CanWrite}
use Rattle.gg_compile_names.specs.vax_target_meaning.specs.Vax.{vax}
use Rattle.gg_compile_keeps.proofs.Leaves.{root_is, tree_own}

-- each line of the VAX is a valid instruction, as it is written
lines_pass : (q : TreeProgram) (d : Content) → CanWrite q → LinesPass vax q d is_instr
lines_pass q d can = record {
  rules = λ rule e hs result is_rule taken fits restricted spelled is. lines_are_written q d.classes rule e hs result can is_rule taken fits spelled is;
  values = λ size l a w saves is low. spills_are_written.value q size l a w can saves is low;
  places = λ size l o w saves fits low. spills_are_written.place q size l o w can saves fits low;
  addresses = λ l o w saves fits low. spills_are_written.address q l o w can saves fits low;
  reloads = λ l w r reloads few low. spills_are_written.reload q l w r can reloads few low;
}

module _ (q : TreeProgram) (d : Content) (g : TreeFn) (w : List Leaf) (can : CanWrite q) (fit : IsFit vax d) (few : g.locals ≤ 1024)
    (stands : ItemStands q.functions (length q.objects) g (tree_item.Root w)) (spelled : All (λ (l : Leaf). IsSpelled q l.att) w) where
  pub ready : IsReady vax q d g.locals (tree_of w)
  ready = record {
    spelled = can;
    fit = fit;
    typed = subst (λ (x : List Leaf). IsTyped x sort.Stmt) (sym (root_is w stands.0)) stands.0;
    own = tree_own q g few w stands.0 stands.1 spelled;
  }

  pub instrs_valid : (instrs : List Instr) (most : ℕ) → Selected vax q d g.locals (tree_of w) instrs most → All (λ (i : Instr). is_instr i ≡ true) instrs
  instrs_valid instrs most s = selections_pass vax vax_is_lawful q d g.locals (tree_of w) instrs most is_instr ready (lines_pass q d can) s
