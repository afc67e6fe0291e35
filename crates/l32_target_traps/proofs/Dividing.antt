-- A line that divides by zero traps.
use Rattle.std.proofs.Common.{◌≡◌, ℕ, Bool, true, false, cond, Option, Some, None, Ok, Err, List, [], ◌∷◌, refl, sym, ap, subst, ◌∙◌}
use Rattle.gg_base.proofs.Facts.{err_ok, ok_same}
use Rattle.l32_target_rules.specs.judging_laws.specs.md_reader_pieces.specs.declared.piece.Piece.{Piece}
use Rattle.l32_target_rules.specs.judging_laws.specs.term_core.specs.Shape.{Shape}
use Rattle.l32_target_rules.specs.judging_laws.specs.sel_terms.specs.Effects as act
use Rattle.l32_target_rules.specs.judging_laws.specs.sel_terms.specs.Effects.{ActShape}
use Rattle.l32_target_rules.specs.judging_laws.specs.sel_target.specs.declared.fault.TemplateKind.TheVariants.{NotInstr}
use Rattle.l32_target_rules.specs.judging_laws.specs.sel_target.specs.Courses.{traps}
use Rattle.l32_target_rules.specs.judging_laws.specs.vax_templates.specs.declared.setting.Own.{Own}
use Rattle.l32_target_rules.specs.judging_laws.specs.vax_templates.specs.declared.setting.Own.TheVariants as own
use Rattle.l32_target_rules.specs.judging_laws.specs.vax_templates.specs.declared.setting.Opening.{Opening}
use Rattle.l32_target_rules.specs.judging_laws.specs.vax_templates.specs.declared.setting.Opening.TheVariants as opening
use Rattle.l32_target_rules.specs.judging_laws.specs.vax_templates.specs.declared.setting.Setting.{Setting}
use Rattle.l32_target_rules.specs.judging_laws.specs.vax_templates.specs.Settings.{hole_at}
use Rattle.l32_target_rules.specs.judging_laws.specs.vax_templates.specs.Standing.{Where, OwnRegister, RegisterZero, ◌>>=◌}
use Rattle.l32_target_rules.specs.judging_laws.specs.vax_templates.specs.Targets.{Target, ToOwn, ToZero, zero_target}
use Rattle.l32_target_rules.specs.judging_laws.specs.vax_templates.specs.Taking.{Taken, Arguments, written}
use Rattle.l32_target_rules.specs.judging_laws.specs.vax_templates.specs.Giving.{Given, Computes, Divides, Compares, Tests}
use Rattle.l32_target_rules.specs.judging_laws.specs.vax_templates.specs.Deeds as deeds
use Rattle.l32_target_rules.specs.judging_laws.specs.vax_templates.specs.Deeds.{Deed, Plain, Ended, leaves, ends_statement, divided, is_relation}
use Rattle.l32_target_rules.specs.judging_laws.specs.vax_templates.specs.Judging.{with_reads}
use Rattle.l32_target_rules.specs.judging_laws.specs.Each.{Each}
use Rattle.l32_target_rules.specs.judging_laws.proofs.Binds.{chained}
use Rattle.l32_target_rules.specs.judging_laws.proofs.Parts.{of_ok}
use Rattle.l32_target_rules.specs.l32_templates.specs.l32_core.specs.declared.op.Op32.{Op32}
use Rattle.l32_target_rules.specs.l32_templates.specs.l32_core.specs.declared.op.Op32.TheVariants as ops
use Rattle.l32_target_rules.specs.l32_templates.specs.l32_core.specs.declared.op.Role.TheVariants as roles
use Rattle.l32_target_rules.specs.l32_templates.specs.l32_core.specs.declared.op.Part.TheVariants as parts
use Rattle.l32_target_rules.specs.l32_templates.specs.l32_core.specs.Ops.{shape}
use Rattle.l32_target_rules.specs.l32_templates.specs.l32_core.proofs.ShapeLaws.{few_parts}
use Rattle.l32_target_rules.specs.l32_templates.specs.l32_machine.specs.declared.function.Action.{Action}
use Rattle.l32_target_rules.specs.l32_templates.specs.l32_machine.specs.declared.function.Action.TheVariants as action
use Rattle.l32_target_rules.specs.l32_templates.specs.l32_machine.specs.declared.function.Function.{Function}
use Rattle.l32_target_rules.specs.l32_templates.specs.l32_machine.specs.declared.function.Function.TheVariants as functions
use Rattle.l32_target_rules.specs.l32_templates.specs.l32_machine.specs.State.{State}
use Rattle.l32_target_rules.specs.l32_templates.specs.l32_machine.specs.Functions.{action_of, applied}
use Rattle.l32_target_rules.specs.l32_templates.specs.l32_machine.specs.Step.{finished}
use Rattle.l32_target_rules.specs.l32_templates.specs.declared.form.Form.{Form}
use Rattle.l32_target_rules.specs.l32_templates.specs.Standing.{form_where}
use Rattle.l32_target_rules.specs.l32_templates.specs.Instructions.{Instruction, Relation, Calls, Operates, instruction_of}
use Rattle.l32_target_rules.specs.l32_templates.specs.Taking.{own_register, register_target, taken, evaluated, all_evaluated, put_in_front}
use Rattle.l32_target_rules.specs.l32_templates.specs.Giving.{given}
use Rattle.l32_target_rules.specs.l32_templates.specs.Deeds.{put, computed, acted}
use Rattle.l32_target_rules.specs.l32_templates.specs.Judging as judging
use Rattle.l32_target_rules.specs.l32_templates.specs.Judging.{spells_symbol, is_disordered, checked, operated, branches, instruction_did, did_behind, line_did}
use Rattle.l32_target_rules.specs.l32_templates.specs.FilledLines.{with_operands, filled_instruction, filled_line}
use Rattle.l32_target_rules.specs.l32_target_meaning.specs.Running.{course_of, performed}
use Rattle.l32_target_rules.specs.l32_target_operands.specs.Scenes.{Scene, worth, Sees}
use Rattle.l32_target_rules.specs.l32_target_operands.proofs.Short.{AreShort, IsShortLine, line_short}
use Rattle.l32_target_rules.specs.l32_target_lines.specs.Takings.{AreRead, CanAim}
use Rattle.l32_target_rules.specs.l32_target_lines.specs.Lines.{IsSettled}
use Rattle.l32_target_rules.specs.l32_target_lines.proofs.Taken.{written_is}
use Rattle.l32_target_rules.specs.l32_target_lines.proofs.All.{front_is, all_clean, all_taken}
use Rattle.l32_target_rules.specs.l32_target_lines.proofs.Table.{written_once}
use Rattle.l32_target_rules.specs.l32_target_lines.proofs.Performing.{in_order_ok, statement_of, read_is, spelled, performed_is}
use Rattle.l32_target_order.proofs.Dividing.{put_none}

-- it divides by this alone
abbrev pub DividesBy : Shape → Deed → Type 0
DividesBy w d = d.divisors ≡ w ∷ []

none_by : (w : Shape) (d : Deed) → d.divisors ≡ [] → DividesBy w d → ⊥
none_by w d none e = let x : [] ≡ w ∷ [] = sym none ∙ e in cc

statement_none : (b : Bool) (deed : ActShape) (d : Deed) (w : Shape) → cond b (deeds.ends deed) (Err NotInstr) ≡ Ok d → DividesBy w d → ⊥
statement_none b deed d w e by =
    let s = statement_of b deed d e in
    none_by w d (ap (λ (x : Deed). x.divisors) (sym (ok_same (leaves (Ended deed)) d s.1))) by

-- only a division divides
put_by : (op : Op32) (to : Option Target) (t w : Shape) (d : Deed) → put op to t ≡ Ok d → DividesBy w d → ⊥
put_by op to t w d e by = none_by w d (of_ok (λ (x : Deed). x.divisors ≡ []) (put op to t) d e (put_none op to t)) by

given_by : (op : Op32) (to : Option Target) (g : Given) (w : Shape) (d : Deed) → computed op to g ≡ Ok d → DividesBy w d → (t : Shape) × (g ≡ Divides t w)
given_by op to (Computes t) w d e by = absurd (put_by op to t w d e by)
given_by op to (Divides t u) w d e by =
    let x = chained (put op to t) (divided u) d e in
    let same : u ∷ [] ≡ w ∷ [] = ap (λ (y : Deed). y.divisors) (ok_same (record x.first { divisors = u ∷ [] }) d x.then_so) ∙ by in
    (t, ap (Divides t) (head_same u w same))
  where
    head_same : (a b : Shape) → a ∷ [] ≡ b ∷ [] → a ≡ b
    head_same a b e' = cc
given_by op to (Compares a b) w d e by = absurd (err_ok _ d e)
given_by op to (Tests t) w d e by = absurd (err_ok _ d e)

function_by : (f : Function) (a b t w : Shape) → given f a b ≡ Divides t w → (f ≡ functions.Divide) × (b ≡ w)
function_by functions.Divide a b t w e = (refl, (let y : b ≡ w = cc in y))
function_by _ a b t w e = absurd cc

acted_by : (s : Setting) (a : Action) (op : Op32) (x : Arguments) (w : Shape) (d : Deed) → acted s a op x ≡ Ok d → DividesBy w d → (a ≡ action.Compute functions.Divide) × (x.second ≡ w)
acted_by s (action.Compute f) op x w d e by =
    let g = given_by op x.target (given f x.first x.second) w d e by in
    let y = function_by f x.first x.second g.0 w g.1 in
    (ap action.Compute y.0, y.1)
acted_by s action.Push op x w d e by = absurd (statement_none s.is_statement (act.Push x.first) d w e by)
acted_by s action.Jump op x w d e by = absurd (statement_none s.is_statement act.Jump d w e by)
acted_by s _ op x w d e by = absurd (err_ok _ d e)

op_by : (op : Op32) → action_of op ≡ action.Compute functions.Divide → op ≡ ops.Div
op_by ops.Div e = refl
op_by _ e = absurd cc

module _ (c : Scene) (m : State) (h : Sees c None m) (settled : IsSettled c) where
  -- a register is written, and what is read is none of memory
  aims : (s : Setting) (w : Where) (x : Target × Bool) → register_target s w ≡ Ok x → CanAim c (Some x.0)
  aims s OwnRegister x e = by s.own e where
    by : (o : Own) → own_register o ≡ Ok x → CanAim c (Some x.0)
    by own.Register e = subst (λ (y : Target × Bool). CanAim c (Some y.0)) (ok_same (ToOwn, false) x e) tt
    by _ e = absurd (err_ok _ x e)
  aims s RegisterZero x e = by s.is_statement s.opening e where
    by : (b : Bool) (o : Opening) → cond b (zero_target o) (Err NotInstr) ≡ Ok x → CanAim c (Some x.0)
    by true opening.Return e = subst (λ (y : Target × Bool). CanAim c (Some y.0)) (ok_same (ToZero, false) x e) tt
    by true _ e = absurd (err_ok _ x e)
    by false o e = absurd (err_ok _ x e)
  aims s _ x e = absurd (err_ok _ x e)

  bare : (fs : List Form) (x : Arguments) → all_evaluated c.setting c.roles None (shape ops.Div).parts fs ≡ Ok x → (x.reads ≡ []) × CanAim c x.target
  unfolding evaluated taken
  bare [] x e = absurd (err_ok _ x e)
  bare (f ∷ fs) x e =
      let rest = parts.Operand roles.Register ∷ parts.Operand roles.Register ∷ [] in
      let d = chained (evaluated c.setting c.roles None roles.Destination f) (λ (t : Taken). all_evaluated c.setting c.roles None rest fs >>= put_in_front t) x e in
      let w = chained (form_where c.setting c.roles None f) (taken c.setting None roles.Destination) d.first d.is in
      let r = chained (all_evaluated c.setting c.roles None rest fs) (put_in_front d.first) x d.then_so in
      let to = chained (register_target c.setting w.first) written d.first w.then_so in
      let front = (front_is d.first r.first x r.then_so).written to.first.0 (written_is to.first d.first to.then_so).0 in
      (front.3 ∙ (all_clean c None m h rest fs r.first refl r.is).1, subst (CanAim c) (sym front.2) (aims c.setting w.first to.first to.is))

  divides_zero : (x y : ℕ) → y ≡ 0 → applied functions.Divide x y ≡ None
  divides_zero x y e = ap (applied functions.Divide x) e

  div_traps : (fs : List Form) (d : Deed) (w : Shape) → AreShort fs → operated c.setting c.roles true None ops.Div fs ≡ Ok d → DividesBy w d → worth c w ≡ 0
      → performed (with_operands c.program c.holes c.own ops.Div fs) m ≡ traps
  unfolding operated
  div_traps fs d w short e by none =
      let x = chained (all_evaluated c.setting c.roles None (shape ops.Div).parts fs) (λ (x : Arguments). acted c.setting (action_of ops.Div) ops.Div x >>= checked c.setting c.roles true None fs x) d e in
      let u = chained (acted c.setting (action_of ops.Div) ops.Div x.first) (checked c.setting c.roles true None fs x.first) d x.then_so in
      let o = in_order_ok (is_disordered c.setting c.roles true None fs u.first) (with_reads x.first u.first) d u.then_so in
      let a = acted_by c.setting (action_of ops.Div) ops.Div x.first w u.first u.is (ap (λ (y : Deed). y.divisors) o.2 ∙ by) in
      let b = bare fs x.first x.is in
      let t = all_taken c None m h 3 (shape ops.Div).parts fs x.first (written_once ops.Div) (few_parts ops.Div)
      (spelled c None m h settled fs short (λ lost. absurd (let z : false ≡ true = lost in cc))) x.is o.0 (subst (AreRead c) (sym b.0) tt) b.1 in
      let zero_is : t.numbers.second ≡ 0 = t.so.second ∙ ap (worth c) a.1 ∙ none in
      performed_is c None m h settled ops.Div fs x.first t
      ∙ ap (λ (v : Option ℕ). course_of (finished m t.numbers.destination v)) (divides_zero t.numbers.first t.numbers.second zero_is)

  op_is : (op : Op32) (fs : List Form) (d : Deed) (w : Shape) → operated c.setting c.roles true None op fs ≡ Ok d → DividesBy w d → op ≡ ops.Div
  unfolding operated
  op_is op fs d w e by =
      let x = chained (all_evaluated c.setting c.roles None (shape op).parts fs) (λ (x : Arguments). acted c.setting (action_of op) op x >>= checked c.setting c.roles true None fs x) d e in
      let u = chained (acted c.setting (action_of op) op x.first) (checked c.setting c.roles true None fs x.first) d x.then_so in
      let o = in_order_ok (is_disordered c.setting c.roles true None fs u.first) (with_reads x.first u.first) d u.then_so in
      op_by op (acted_by c.setting (action_of op) op x.first w u.first u.is (ap (λ (y : Deed). y.divisors) o.2 ∙ by)).0

  operated_traps : (op : Op32) (fs : List Form) (d : Deed) (w : Shape) → AreShort fs → operated c.setting c.roles true None op fs ≡ Ok d → DividesBy w d → worth c w ≡ 0
      → performed (with_operands c.program c.holes c.own op fs) m ≡ traps
  operated_traps op fs d w short e by none =
      let is = op_is op fs d w e by in
      ap (λ (o : Op32). performed (with_operands c.program c.holes c.own o fs) m) is
      ∙ div_traps fs d w short (subst (λ (o : Op32). operated c.setting c.roles true None o fs ≡ Ok d) is e) by none

  -- a branch divides by nothing
  branch_none : (b : Bool) (i : ℕ) (fs : List Form) (d : Deed) (w : Shape) → cond b (branches c.setting c.roles None i fs) (Err NotInstr) ≡ Ok d → DividesBy w d → ⊥
  unfolding branches
  branch_none true i fs d w e by =
      let x = chained (all_evaluated c.setting c.roles None (shape ops.Beq).parts fs) (λ (x : Arguments). ends_statement c.setting (act.Branch i x.first x.second)) d e in
      statement_none c.setting.is_statement (act.Branch i x.first.first x.first.second) d w x.then_so by
  branch_none false i fs d w e by = absurd (err_ok _ d e)

  instruction_traps : (i : Instruction) (d : Deed) (w : Shape) → IsShortLine i → instruction_did c.setting c.roles true None i ≡ Ok d → DividesBy w d → worth c w ≡ 0
      → performed (filled_instruction c.program c.holes c.own (Some i)) m ≡ traps
  instruction_traps (Relation i fs) d w short e by none = absurd (branch_none (is_relation (hole_at c.roles i)) i fs d w e by)
  instruction_traps Calls d w short e by none = absurd (statement_none c.setting.is_statement act.Call d w e by)
  instruction_traps (Operates op fs) d w short e by none = operated_traps op fs d w short e by none

  pub line_traps : (ps : List Piece) (d : Deed) (w : Shape) → line_did c.setting c.roles true None Plain ps ≡ Ok d → DividesBy w d → worth c w ≡ 0
      → performed (filled_line c.program ps c.holes c.own) m ≡ traps
  unfolding line_did
  line_traps ps d w e by none =
      let i = chained (judging.read (instruction_of ps)) (did_behind c.setting c.roles true None Plain) d e in
      let is = read_is (instruction_of ps) i.first i.is in
      subst (λ o. performed (filled_instruction c.program c.holes c.own o) m ≡ traps) (sym is)
      (instruction_traps i.first d w (subst (Each IsShortLine) is (line_short ps)) i.then_so by none)
