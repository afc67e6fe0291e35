-- The names in lines of templates with their holes filled are there.
use Rattle.std.proofs.Common.{◌≡◌, ℕ, ◌-◌, ◌==◌, List, [], ◌∷◌, ◌++◌, length, map, Option, Some, None, Bool, true, false, cond, refl, sym, ap, ◌∙◌, subst, take}
use Rattle.std.specs.Prelude.{◌||◌, ◌&&◌, slice_get, codes}
use Rattle.std.specs.Option.{option_map, option_or}
use Rattle.std.specs.List.{AllByRecursion as All}
use Rattle.std.proofs.lemmas.Option.{same_Some}
use Rattle.gg_base.proofs.Facts.{or_true}
use Rattle.tree_core.specs.declared.tree.Leaf.{Leaf}
use Rattle.tree_core.specs.declared.program.TreeFn.{TreeFn}
use Rattle.tree_core.specs.declared.program.TreeProgram.{TreeProgram}
use Rattle.tree_core.specs.Names.{label_name}
use Rattle.vax_target_meaning.specs.sel_target.specs.declared.attr.Attr.{Attr}
use Rattle.vax_target_meaning.specs.sel_target.specs.declared.attr.Attr.TheVariants as attr
use Rattle.vax_core.specs.declared.op.Op.{Op}
use Rattle.vax_core.specs.declared.op.Op.TheVariants as ops
use Rattle.vax_core.specs.declared.operand.Operand.{Operand}
use Rattle.vax_core.specs.declared.code.AreaItem.{AreaItem}
use Rattle.vax_core.specs.declared.code.CodeItem.{CodeItem}
use Rattle.vax_core.specs.declared.code.Instr.{Instr}
use Rattle.vax_machine.specs.Functions.{action_of}
use Rattle.vax_machine.specs.Labels.{is_service, is_call, has_label, undefined_operand, undefined_target, undefined_in}
use Rattle.vax_target_meaning.specs.vax_templates.specs.declared.form.Form.{Form}
use Rattle.vax_target_meaning.specs.vax_templates.specs.Instructions.{Instruction, Relation, Jump, Calls, Ret, Operates, instruction_of}
use Rattle.vax_target_meaning.specs.vax_templates.specs.Filled.{attr_at, filled}
use Rattle.vax_target_meaning.specs.vax_templates.specs.FilledLines.{op_in, label_of_att, label_in, label_among, branch_to, callee_among, function_name, call_of, filled_instruction}
use Rattle.vax_target_meaning.specs.Vax.{vax}
use Rattle.sel_parse_lines.specs.Claims.{IsFilled}
use Rattle.sel_parse_lines.proofs.Filling.{selections_are_filled}
use Rattle.gg_compile_names.specs.Claims.{HasNames, GoesInside, SelectedNamesAreThere}
use Rattle.gg_compile_names.proofs.Operands.{stands, good, Good, filled_named, names_last}

module _ (q : TreeProgram) (area : List AreaItem) (code : List CodeItem) (there : HasNames q area code) where
  abbrev Fine : Instr → Type 0
  Fine i = undefined_in area code i ≡ None

  -- ---- targets

  target_there : (call : Bool) (name : List ℕ) → has_label code name ≡ true → undefined_target code call (Some name) ≡ None
  target_there call name h = ap (λ (b : Bool). cond ((call && is_service name) || b) None (Some name)) h ∙ ap (λ (b : Bool). cond b None (Some name)) (or_true (call && is_service name))

  label_stands : (o : Option ℕ) → stands q area code o ≡ true → (n : ℕ) → o ≡ Some n → has_label code (label_name n) ≡ true
  label_stands None h n e = absurd (cc)
  label_stands (Some k) h n e = subst (λ (m : ℕ). has_label code (label_name m) ≡ true) (same_Some k n e) h

  in_hole : (a : Attr Operand) → Good q area code a → (n : ℕ) → label_in a ≡ Some n → has_label code (label_name n) ≡ true
  in_hole (attr.Token l) h n e = label_stands (label_of_att l.att) h n e
  in_hole _ h n e = absurd (cc)

  among : (holes : List (Attr Operand)) → All (Good q area code) holes → (n : ℕ) → label_among holes ≡ Some n → has_label code (label_name n) ≡ true
  among [] h n e = absurd (cc)
  among (a ∷ holes) h n e = by (label_in a) refl e (λ f. among holes h.1 n f)
    where
      by : (o : Option ℕ) → label_in a ≡ o → option_or o (label_among holes) ≡ Some n → (label_among holes ≡ Some n → has_label code (label_name n) ≡ true)
          → has_label code (label_name n) ≡ true
      by None is f more = more f
      by (Some k) is f more = in_hole a h.0 n (is ∙ f)

  branch_fine : (op : Op) (holes : List (Attr Operand)) → All (Good q area code) holes → Fine (branch_to op holes)
  branch_fine op holes h = by (label_among holes) (λ n e. among holes h n e)
    where
      by : (o : Option ℕ) → ((n : ℕ) → o ≡ Some n → has_label code (label_name n) ≡ true)
          → undefined_target code (is_call (action_of op)) (option_map label_name o) ≡ None
      by None k = refl
      by (Some n) k = target_there (is_call (action_of op)) (label_name n) (k n refl)

  -- ---- calls

  service_fine : (b : Bool) → undefined_target code true (Some (cond b (codes "_putchar") (codes "_getchar"))) ≡ None
  service_fine true = refl
  service_fine false = refl

  function_fine : (n service : ℕ) (f : Option TreeFn) → slice_get q.functions n ≡ f → undefined_target code true (Some (function_name f service)) ≡ None
  function_fine n service None e = service_fine (service == 0)
  function_fine n service (Some f) e = target_there true (codes "_" ++ f.name) (there.functions n f e)

  call_fine : (c : Option (ℕ × ℕ)) → Fine (call_of q c)
  call_fine None = refl
  call_fine (Some c) = function_fine c.0 (c.0 - length q.functions) (slice_get q.functions c.0) refl

  -- ---- operands

  operands_fine : (holes : List (Attr Operand)) (z : Attr Operand) → All (Good q area code) holes → Good q area code z → (fs : List Form)
      → undefined_operand area (map (filled q holes z) fs) ≡ None
  operands_fine holes z h k [] = refl
  operands_fine holes z h k (f ∷ fs) =
      ap (λ (o : Option (List ℕ)). option_or o (undefined_operand area (map (filled q holes z) fs))) (filled_named q area code there.objects holes z f h k)
      ∙ operands_fine holes z h k fs

  instruction_fine : (holes : List (Attr Operand)) (z : Attr Operand) → All (Good q area code) holes → Good q area code z → (i : Option Instruction)
      → Fine (filled_instruction q holes z i)
  instruction_fine holes z h k None = refl
  instruction_fine holes z h k (Some (Relation i)) = branch_fine (op_in (attr_at holes z i)) holes h
  instruction_fine holes z h k (Some Jump) = branch_fine ops.Jbr holes h
  instruction_fine holes z h k (Some Calls) = call_fine (callee_among holes)
  instruction_fine holes z h k (Some Ret) = refl
  instruction_fine holes z h k (Some (Operates op fs)) =
      ap (λ (o : Option (List ℕ)). option_or o None) (operands_fine holes z h k (take 3 fs))

  filled_fine : (is : List Instr) → All (IsFilled vax q (good q area code)) is → All Fine is
  filled_fine [] h = tt
  filled_fine (i ∷ is) h = (
    subst Fine (sym h.0.is) (instruction_fine h.0.holes h.0.result h.0.holes_pass h.0.result_passes (instruction_of h.0.line.pieces)),
    filled_fine is h.1,
  )

  token_good : (l : Leaf) → GoesInside code l → Good q area code (attr.Token l)
  token_good l h = by (label_of_att l.att) h
    where
      by : (o : Option ℕ) → ((n : ℕ) → o ≡ Some n → has_label code (label_name n) ≡ true) → stands q area code o ≡ true
      by None k = refl
      by (Some n) k = k n refl

  tokens_good : (w : List Leaf) → All (GoesInside code) w → All (λ (l : Leaf). Good q area code (attr.Token l)) w
  tokens_good [] h = tt
  tokens_good (l ∷ w) h = (token_good l h.0, tokens_good w h.1)

pub selected_names_are_there : SelectedNamesAreThere
selected_names_are_there q d first w instrs most area code there inside s =
    filled_fine q area code there instrs
    (selections_are_filled vax q d first w instrs most (good q area code) (names_last q area code there.objects) (tokens_good q area code there w inside) s)
