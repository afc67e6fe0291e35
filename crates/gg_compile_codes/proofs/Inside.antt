-- Where instructions go that don't call: to labels of a code in which the labels of their tree's tokens stand.
use Rattle.std.proofs.Common.{◌≡◌, ℕ, List, [], ◌∷◌, Option, Some, None, Bool, true, refl, sym, ap, ◌∙◌, subst}
use Rattle.std.specs.List.{AllByRecursion as All}
use Rattle.std.specs.Option.{option_map, option_or}
use Rattle.std.proofs.lemmas.Option.{same_Some}
use Rattle.tree_core.specs.declared.tree.Leaf.{Leaf}
use Rattle.tree_core.specs.declared.program.TreeProgram.{TreeProgram}
use Rattle.tree_core.specs.Names.{label_name}
use Rattle.md_reader.specs.State.{Content}
use Rattle.sel_target.specs.declared.attr.Attr.{Attr}
use Rattle.sel_target.specs.declared.attr.Attr.TheVariants as attr
use Rattle.gg_compile_laws.specs.sel_parse_lines.specs.Claims.{Lasts, IsFilled}
use Rattle.gg_compile_laws.specs.sel_parse_selected.specs.Selected.{Selected}
use Rattle.gg_compile_laws.specs.sel_parse_lines.proofs.Filling.{selections_are_filled}
use Rattle.vax_core.specs.declared.op.Op.{Op}
use Rattle.vax_core.specs.declared.op.Op.TheVariants as ops
use Rattle.vax_core.specs.declared.operand.Operand.{Operand}
use Rattle.vax_core.specs.declared.code.CodeItem.{CodeItem}
use Rattle.vax_core.specs.declared.code.Instr.{Instr}
use Rattle.vax_machine.specs.declared.function.Action.TheVariants.{Call}
use Rattle.vax_machine.specs.Functions.{action_of}
use Rattle.vax_machine.specs.Labels.{has_label}
use Rattle.vax_templates.specs.Instructions.{Instruction, Relation, Jump, Calls, Ret, Operates, instruction_of}
use Rattle.vax_templates.specs.Filled.{attr_at}
use Rattle.vax_templates.specs.FilledLines.{op_in, label_of_att, label_in, label_among, branch_to, callee_among, call_of, filled_instruction}
use Rattle.vax_target_meaning.specs.Vax.{vax}
use Rattle.gg_compile_laws.specs.gg_compile_names.specs.Claims.{GoesInside}

module _ (q : TreeProgram) (code : List CodeItem) where
  -- the label to which a token goes stands in the code
  abbrev stands : Option ℕ → Bool
  stands None = true
  stands (Some n) = has_label code (label_name n)

  abbrev good : Attr Operand → Bool
  good (attr.Token l) = stands (label_of_att l.att)
  good _ = true

  abbrev Good : Attr Operand → Type 0
  Good a = good a ≡ true

  labels_last : Lasts vax q good
  labels_last = record {
    register = λ r. refl;
    in_slot = λ w. refl;
    number = λ n. refl;
    nothing = refl;
    slot_value = λ w. refl;
    slot_place = λ w. refl;
    deferred_place = λ w. refl;
    deferred_address = λ w. refl;
    shape_value = λ l hs h. refl;
    shape_place = λ l hs h. refl;
    shape_address = λ l hs h. refl;
  }

  -- an instruction that doesn't call goes to a label of the code, if it goes to one
  abbrev pub Inside : Instr → Type 0
  Inside i = (label : List ℕ) → i.target ≡ Some label → (action_of i.op ≡ Call → ⊥) → has_label code label ≡ true

  label_stands : (o : Option ℕ) → stands o ≡ true → (n : ℕ) → o ≡ Some n → has_label code (label_name n) ≡ true
  label_stands None h n e = absurd (cc)
  label_stands (Some k) h n e = subst (λ (m : ℕ). has_label code (label_name m) ≡ true) (same_Some k n e) h

  in_hole : (a : Attr Operand) → Good a → (n : ℕ) → label_in a ≡ Some n → has_label code (label_name n) ≡ true
  in_hole (attr.Token l) h n e = label_stands (label_of_att l.att) h n e
  in_hole _ h n e = absurd (cc)

  among : (holes : List (Attr Operand)) → All Good holes → (n : ℕ) → label_among holes ≡ Some n → has_label code (label_name n) ≡ true
  among [] h n e = absurd (cc)
  among (a ∷ holes) h n e = by (label_in a) refl e (λ f. among holes h.1 n f)
    where
      by : (o : Option ℕ) → label_in a ≡ o → option_or o (label_among holes) ≡ Some n → (label_among holes ≡ Some n → has_label code (label_name n) ≡ true)
          → has_label code (label_name n) ≡ true
      by None is f more = more f
      by (Some k) is f more = in_hole a h.0 n (is ∙ f)

  branch_inside : (op : Op) (holes : List (Attr Operand)) → All Good holes → Inside (branch_to op holes)
  branch_inside op holes h label e never = by (label_among holes) (λ n f. among holes h n f) e
    where
      by : (o : Option ℕ) → ((n : ℕ) → o ≡ Some n → has_label code (label_name n) ≡ true) → option_map label_name o ≡ Some label → has_label code label ≡ true
      by None k f = absurd (cc)
      by (Some n) k f = subst (λ (x : List ℕ). has_label code x ≡ true) (same_Some (label_name n) label f) (k n refl)

  call_inside : (c : Option (ℕ × ℕ)) → Inside (call_of q c)
  call_inside None label e never = absurd (cc)
  call_inside (Some c) label e never = absurd (never refl)

  instruction_inside : (holes : List (Attr Operand)) (z : Attr Operand) → All Good holes → (i : Option Instruction) → Inside (filled_instruction q holes z i)
  instruction_inside holes z h None label e never = absurd (cc)
  instruction_inside holes z h (Some (Relation i)) label e never = branch_inside (op_in (attr_at holes z i)) holes h label e never
  instruction_inside holes z h (Some Jump) label e never = branch_inside ops.Jbr holes h label e never
  instruction_inside holes z h (Some Calls) label e never = call_inside (callee_among holes) label e never
  instruction_inside holes z h (Some Ret) label e never = absurd (cc)
  instruction_inside holes z h (Some (Operates op fs)) label e never = absurd (cc)

  filled_inside : (is : List Instr) → All (IsFilled vax q good) is → All Inside is
  filled_inside [] h = tt
  filled_inside (i ∷ is) h =
      (subst Inside (sym h.0.is) (instruction_inside h.0.holes h.0.result h.0.holes_pass (instruction_of h.0.line.pieces)), filled_inside is h.1)

  token_good : (l : Leaf) → GoesInside code l → Good (attr.Token l)
  token_good l h = by (label_of_att l.att) h
    where
      by : (o : Option ℕ) → ((n : ℕ) → o ≡ Some n → has_label code (label_name n) ≡ true) → stands o ≡ true
      by None k = refl
      by (Some n) k = k n refl

  tokens_good : (w : List Leaf) → All (GoesInside code) w → All (λ (l : Leaf). Good (attr.Token l)) w
  tokens_good [] h = tt
  tokens_good (l ∷ w) h = (token_good l h.0, tokens_good w h.1)

  -- the instructions that are selected of a tree
  pub selected_inside : (d : Content) (first : ℕ) (w : List Leaf) (instrs : List Instr) (most : ℕ) → All (GoesInside code) w → Selected vax q d first w instrs most → All Inside instrs
  selected_inside d first w instrs most inside s =
      filled_inside instrs (selections_are_filled vax q d first w instrs most good labels_last (tokens_good w inside) s)
