-- A tree, a function and a program have one code each: a parse ends in one way, and a frame is determined by its words and its body.
use Rattle.std.proofs.Common.{◌≡◌, ℕ, max, List, [], ◌∷◌, ◌++◌, Some, refl, sym, ap, ◌∙◌, subst}
use Rattle.std.specs.Prelude.{◌&&◌}
use Rattle.std.proofs.lemmas.Nat.Bits.{same_from_bits}
use Rattle.gg_base.specs.Numbers.{truth}
use Rattle.tree_core.specs.declared.tree.Leaf.{Leaf}
use Rattle.tree_core.specs.declared.program.TreeItem.{TreeItem}
use Rattle.tree_core.specs.declared.program.TreeFn.{TreeFn}
use Rattle.tree_core.specs.declared.program.TreeProgram.{TreeProgram}
use Rattle.tree_core.specs.Names.{label_name, function_label}
use Rattle.md_reader.specs.State.{Content}
use Rattle.lr_tables.specs.Statements.{stmt_of}
use Rattle.gg_compile_code.specs.lr_check_parse.specs.Moves.{Ending, Accepts}
use Rattle.gg_compile_code.specs.lr_check_parse.specs.Attributes.{by_attributes}
use Rattle.gg_compile_code.specs.lr_check_parse.proofs.OneWay.{parse_one_way}
use Rattle.gg_compile_code.specs.sel_parse_desk.specs.Selected.{tree_of, Kept, selecting, start, Selected}
use Rattle.vax_core.specs.declared.operand.Operand.{Operand}
use Rattle.vax_core.specs.declared.code.Instr.{Instr}
use Rattle.vax_core.specs.declared.code.CodeItem.{CodeItem}
use Rattle.vax_core.specs.declared.code.CodeItem.TheVariants as item_kind
use Rattle.vax_core.specs.declared.code.Code.{Code}
use Rattle.vax_frames.specs.Frames.{code_items, frame_items, is_kept, body_names}
use Rattle.gg_compile_law.specs.vax_homes_items.specs.vax_homes_law.specs.vax_homes.specs.Homing.{homed}
use Rattle.gg_compile_code.specs.vax_target_meaning.specs.Vax.{vax}
use Rattle.gg_compile_code.specs.Selecting.{AreSelected, nothing, label, tree, IsSelectedFunction, AreSelectedFunctions, none, more, SelectedAll}
use Rattle.gg_compile_codes.specs.OneCode.{SelectedCodesAreOne}

-- the code with which a parse was accepted, and the words that it used
abbrev code_in : Ending (Kept Operand Instr) → List Instr
code_in (Accepts (Some x)) = x.code
code_in _ = []

abbrev words_in : Ending (Kept Operand Instr) → ℕ
words_in (Accepts (Some x)) = x.most
words_in _ = 0

module _ (q : TreeProgram) (d : Content) where
  tree_one : (first : ℕ) (w : List Leaf) (code other : List Instr) (most words : ℕ) → Selected vax q d first w code most → Selected vax q d first w other words
      → (code ≡ other) × (most ≡ words)
  tree_one first w code other most words s t =
      let same = (parse_one_way (by_attributes (selecting vax q d first)) d.rules (stmt_of d.classes) 0 [] w [] (start vax q d first) s.log t.log
      (Accepts (Some (record { entries = s.entries; code = code; most = most }))) (Accepts (Some (record { entries = t.entries; code = other; most = words })))
      s.parsed t.parsed).1 in
      (ap code_in same, ap words_in same)

  module _ (locals : ℕ) where
    items_one : (used most words : ℕ) (is : List TreeItem) (code other : List CodeItem) → AreSelected vax d q locals used is code most
        → AreSelected vax d q locals used is other words → (code ≡ other) × (most ≡ words)
    items_one used most words is code other (nothing u) (nothing v) = (refl, refl)
    items_one used most words is code other (label u m l js rest h) (label v n k ks tail t) =
        let s = items_one u m n js rest tail h t in
        (ap (λ (r : List CodeItem). item_kind.Label (label_name l) ∷ r) s.0, s.1)
    items_one used most words is code other (tree u k m w js instrs rest one h) (tree v j n x ks given tail two t) =
        let a = tree_one locals (tree_of w) instrs given k j one two in
        let s = items_one (max u k) m n js rest tail h (subst (λ (z : ℕ). AreSelected vax d q locals (max u z) js tail n) (sym a.1) t) in
        ((λ i. code_items (a.0 i) ++ s.0 i), s.1)

  function_one : (f : TreeFn) (code other : List CodeItem) → IsSelectedFunction vax d q f code → IsSelectedFunction vax d q f other → code ≡ other
  function_one f code other s t =
      let b = items_one f.locals f.locals s.words t.words f.items s.body t.body s.selected t.selected in
      let mask : s.framed.mask ≡ t.framed.mask =
      same_from_bits s.framed.mask t.framed.mask
      (λ r. s.framed.is_mask r ∙ ap (λ (body : List CodeItem). truth (is_kept r && body_names (homed f.wanted body) r)) b.0 ∙ sym (t.framed.is_mask r)) in
      s.framed.code_is ∙ (λ i. frame_items (function_label f.name) (mask i) (b.1 i) (homed f.wanted (b.0 i))) ∙ sym t.framed.code_is

  functions_one : (fs : List TreeFn) (code other : List CodeItem) → AreSelectedFunctions vax d q fs code → AreSelectedFunctions vax d q fs other → code ≡ other
  functions_one fs code other none none = refl
  functions_one fs code other (more f gs part rest one h) (more g hs piece behind two t) =
      let a = function_one f part piece one two in
      let s = functions_one gs rest behind h t in
      λ i. a i ++ s i

pub selected_codes_are_one : SelectedCodesAreOne
selected_codes_are_one q d c e s t =
    let area : c.area ≡ e.area = s.area ∙ sym t.area in
    let items : c.items ≡ e.items = functions_one q d q.functions c.items e.items s.functions t.functions in
    λ i. record { area = area i; items = items i }
