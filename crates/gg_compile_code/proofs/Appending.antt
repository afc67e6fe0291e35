-- Code that is selected of items, and of others behind them.
use Rattle.std.proofs.Common.{ℕ, max, List, ◌∷◌, ◌++◌, sym, subst, append_assoc}
use Rattle.tree_core.specs.declared.program.TreeItem.{TreeItem}
use Rattle.tree_core.specs.declared.program.TreeItem.TheVariants as tree_item
use Rattle.tree_core.specs.declared.program.TreeFn.{TreeFn}
use Rattle.tree_core.specs.declared.program.TreeProgram.{TreeProgram}
use Rattle.md_reader.specs.State.{Content}
use Rattle.vax_target.specs.sel_target.specs.Meaning.{Meaning}
use Rattle.vax_core.specs.declared.operand.Operand.{Operand}
use Rattle.vax_core.specs.declared.code.Instr.{Instr}
use Rattle.vax_core.specs.declared.code.CodeItem.{CodeItem}
use Rattle.vax_frames.specs.Frames.{code_items}
use Rattle.gg_compile_code.specs.Selecting.{AreSelected, nothing, label, tree, AreSelectedFunctions, none, more}

module _ {S F : Type 0} (of : Meaning Operand Instr S F) (d : Content) (p : TreeProgram) where
  pub selected_append : (locals a b e : ℕ) (is js : List TreeItem) (c k : List CodeItem) → AreSelected of d p locals a is c b
      → AreSelected of d p locals b js k e → AreSelected of d p locals a (is ++ js) (c ++ k) e
  selected_append locals a b e is js c k (nothing u) h = h
  selected_append locals a b e is js c k (label u m l ks code s) h = label u e l (ks ++ js) (code ++ k) (selected_append locals u b e ks js code k s h)
  selected_append locals a b e is js c k (tree u n m w ks instrs code one s) h =
      subst (λ (x : List CodeItem). AreSelected of d p locals u (tree_item.Root w ∷ (ks ++ js)) x e) (sym (append_assoc (code_items instrs) code k))
      (tree u n e w (ks ++ js) instrs (code ++ k) one (selected_append locals (max u n) b e ks js code k s h))

  pub functions_append : (fs gs : List TreeFn) (c k : List CodeItem) → AreSelectedFunctions of d p fs c → AreSelectedFunctions of d p gs k
      → AreSelectedFunctions of d p (fs ++ gs) (c ++ k)
  functions_append fs gs c k none h = h
  functions_append fs gs c k (more f rest part code one s) h =
      subst (λ (x : List CodeItem). AreSelectedFunctions of d p (f ∷ (rest ++ gs)) x) (sym (append_assoc part code k))
      (more f (rest ++ gs) part (code ++ k) one (functions_append rest gs code k s h))
