-- The code of one item more.
use Rattle.std.proofs.Common.{◌≡◌, ℕ, ◌+◌, max, List, [], ◌∷◌, ◌++◌, take, get_or, slice_get, zero, suc, length, Some, ◌<◌, refl, sym, ap, ◌∙◌, subst, append-nil, arith}
use Rattle.std.proofs.Math.Seq.{take-suc}
use Rattle.tree_core.specs.declared.tree.Leaf.{Leaf}
use Rattle.tree_core.specs.declared.program.TreeItem.{TreeItem}
use Rattle.tree_core.specs.declared.program.TreeItem.TheVariants as tree_item
use Rattle.tree_core.specs.declared.program.TreeFn.{TreeFn}
use Rattle.tree_core.specs.declared.program.TreeProgram.{TreeProgram}
use Rattle.tree_core.specs.Names.{label_name}
use Rattle.md_reader.specs.State.{Content}
use Rattle.sel_regs.specs.Slots.{Frame}
use Rattle.vax_target.specs.sel_target.specs.Meaning.{Meaning}
use Rattle.sel_parse.specs.sel_parse_desk.specs.Selected.{HasCode}
use Rattle.vax_core.specs.declared.operand.Operand.{Operand}
use Rattle.vax_core.specs.declared.code.Instr.{Instr}
use Rattle.vax_core.specs.declared.code.AreaItem.{AreaItem}
use Rattle.vax_core.specs.declared.code.CodeItem.{CodeItem}
use Rattle.vax_core.specs.declared.code.CodeItem.TheVariants as item_kind
use Rattle.vax_frames.specs.Frames.{code_items, IsFrameCode}
use Rattle.vax_homes.specs.Homing.{homed}
use Rattle.gg_compile_area.specs.gg_compile_law.specs.Spelling.{area_of}
use Rattle.gg_compile_code.specs.Selecting.{AreSelected, nothing, label, tree, PutsItem, IsBody, IsSelectedFunction, AreSelectedFunctions, none, more, SelectedAll}
use Rattle.gg_compile_code.proofs.Appending.{selected_append, functions_append}

front : {A : Type 0} (xs : List A) (i : ℕ) (x : A) → i < length xs → get_or xs i x ≡ x → take (i + 1) xs ≡ take i xs ++ x ∷ []
front xs i x lt at =
    let next : i + 1 ≡ suc i = omega arith in
    ap (λ (k : ℕ). take k xs) next ∙ take-suc xs i x lt ∙ ap (λ y. take i xs ++ y ∷ []) at

-- an element that a loop is at
pub at_index : {A : Type 0} (xs : List A) (i : ℕ) (x : A) → i < length xs → get_or xs i x ≡ x → slice_get xs i ≡ Some x
at_index [] i x lt e = absurd (omega (arith, lt))
at_index (y ∷ xs) zero x lt e = ap Some e
at_index (y ∷ xs) (suc i) x lt e = at_index xs i x (omega (arith, lt)) e

module _ {S F : Type 0} (of : Meaning Operand Instr S F) (d : Content) (q : TreeProgram) where
  pub puts_label : (slots : Frame) (l : ℕ) (old new : List CodeItem) → new ≡ old ++ item_kind.Label (label_name l) ∷ []
      → PutsItem of d q slots slots (tree_item.Label l) old new
  puts_label slots l old new e = record {
    code = item_kind.Label (label_name l) ∷ [];
    put = e;
    selected = label slots.used slots.used l [] [] (nothing slots.used);
    first = refl;
  }

  pub puts_tree : (before behind : Frame) (w : List Leaf) (instrs : List Instr) (old new : List CodeItem) → HasCode of q d before behind w instrs
      → behind.first ≡ before.first → new ≡ old ++ code_items instrs → PutsItem of d q before behind (tree_item.Root w) old new
  puts_tree before behind w instrs old new h first e = record {
    code = code_items instrs ++ [];
    put = e ∙ ap (λ (l : List CodeItem). old ++ l) (sym (append-nil (code_items instrs)));
    selected =
        subst (λ (n : ℕ). AreSelected of d q before.first before.used (tree_item.Root w ∷ []) (code_items instrs ++ []) n) (sym h.used)
        (tree before.used h.most (max before.used h.most) w [] instrs [] h.selected (nothing (max before.used h.most)));
    first = first;
  }

  -- no item has no code, and no word is used but for the locals
  pub begins : (locals used : ℕ) (code : List CodeItem) → code ≡ [] → used ≡ locals → AreSelected of d q locals locals [] code used
  begins locals used code e f =
      subst (λ (c : List CodeItem). AreSelected of d q locals locals [] c used) (sym e)
      (subst (λ (n : ℕ). AreSelected of d q locals locals [] [] n) (sym f) (nothing locals))

  pub functions_begin : (code : List CodeItem) → code ≡ [] → AreSelectedFunctions of d q [] code
  functions_begin code e = subst (λ (c : List CodeItem). AreSelectedFunctions of d q [] c) (sym e) none

  pub all_selected : (p : TreeProgram) (xs items : List CodeItem) (area : List AreaItem) → q ≡ p → AreSelectedFunctions of d q q.functions xs → items ≡ xs
      → area ≡ area_of q.objects → SelectedAll of d p (record { area = area; items = items })
  all_selected p xs items area is h e f =
      subst (λ (r : TreeProgram). SelectedAll of d r (record { area = area; items = items })) is
      (record { functions = subst (λ (l : List CodeItem). AreSelectedFunctions of d q q.functions l) (sym e) h; area = f })

  -- the code of the items so far, and of one more
  pub more_selected : (is : List TreeItem) (i locals used : ℕ) (x : TreeItem) (before behind : Frame) (old new : List CodeItem) → i < length is
      → get_or is i x ≡ x → before.first ≡ locals → AreSelected of d q locals used (take i is) old before.used → PutsItem of d q before behind x old new
      → AreSelected of d q locals used (take (i + 1) is) new behind.used
  more_selected is i locals used x before behind old new lt at first h put =
      let here = subst (λ (l : ℕ). AreSelected of d q l before.used (x ∷ []) put.code behind.used) first put.selected in
      let both = selected_append of d q locals used before.used behind.used (take i is) (x ∷ []) old put.code h here in
      subst (λ (l : List TreeItem). AreSelected of d q locals used l new behind.used) (sym (front is i x lt at))
      (subst (λ (c : List CodeItem). AreSelected of d q locals used (take i is ++ x ∷ []) c behind.used) (sym put.put) both)

  -- the code of the functions so far, and of one more
  pub more_functions : (fs : List TreeFn) (i : ℕ) (f : TreeFn) (old part new : List CodeItem) → i < length fs → get_or fs i f ≡ f
      → AreSelectedFunctions of d q (take i fs) old → IsSelectedFunction of d q f part → new ≡ old ++ part
      → AreSelectedFunctions of d q (take (i + 1) fs) new
  more_functions fs i f old part new lt at h one e =
      let last = subst (λ (c : List CodeItem). AreSelectedFunctions of d q (f ∷ []) c) (append-nil part) (more f [] part [] one none) in
      let both = functions_append of d q (take i fs) (f ∷ []) old part h last in
      subst (λ (l : List TreeFn). AreSelectedFunctions of d q l new) (sym (front fs i f lt at))
      (subst (λ (c : List CodeItem). AreSelectedFunctions of d q (take i fs ++ f ∷ []) c) (sym e) both)

  -- the frame round a body with homes
  pub framed_so : (f : TreeFn) (words : ℕ) (body with_homes code : List CodeItem) → IsBody of d q f body words → with_homes ≡ homed f.wanted body
      → IsFrameCode f.name words with_homes code → IsSelectedFunction of d q f code
  framed_so f words body with_homes code selected same framed = record {
    words = words;
    body = body;
    selected = selected;
    framed = subst (λ (x : List CodeItem). IsFrameCode f.name words x code) same framed;
  }
