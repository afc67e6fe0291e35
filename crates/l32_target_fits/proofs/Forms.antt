-- What a form is with its holes filled.
use Rattle.std.proofs.Common.{◌≡◌, ℕ, zero, suc, ◌^◌, ◌<◌, Bool, true, cond, Option, None, Ok, List, refl, sym, ap, subst, ◌∙◌}
use Rattle.std.proofs.lemmas.Bool.{lt-ltb, and_from}
use Rattle.gg_base.specs.Arithmetic.{neg32}
use Rattle.gg_base.proofs.Facts.{err_ok, ok_same, not_zero}
use Rattle.l32_target_operands.specs.vax_target_meaning.specs.tree_core.specs.declared.program.TreeProgram.{TreeProgram}
use Rattle.l32_target_operands.specs.judging_laws.specs.term_core.specs.Shape.{Shape, Symbol}
use Rattle.l32_target_operands.specs.judging_laws.specs.sel_target.specs.declared.attr.Attr.{Attr}
use Rattle.l32_target_operands.specs.judging_laws.specs.vax_templates.specs.declared.form.Number.{Number}
use Rattle.l32_target_operands.specs.judging_laws.specs.vax_templates.specs.declared.form.Number.TheVariants as number
use Rattle.l32_target_operands.specs.judging_laws.specs.vax_templates.specs.declared.setting.Hole.{Hole}
use Rattle.l32_target_operands.specs.judging_laws.specs.vax_templates.specs.declared.setting.Hole.TheVariants as hole_kind
use Rattle.l32_target_operands.specs.judging_laws.specs.vax_templates.specs.declared.setting.Own.TheVariants as own
use Rattle.l32_target_operands.specs.judging_laws.specs.vax_templates.specs.declared.setting.Opening.{Opening}
use Rattle.l32_target_operands.specs.judging_laws.specs.vax_templates.specs.declared.setting.Opening.TheVariants as opening
use Rattle.l32_target_operands.specs.judging_laws.specs.vax_templates.specs.declared.setting.Setting.{Setting}
use Rattle.l32_target_operands.specs.judging_laws.specs.vax_templates.specs.Settings.{hole_at}
use Rattle.l32_target_operands.specs.judging_laws.specs.vax_templates.specs.HoleTerms.{constant_of, absolute_term, own_value, register_of, register_term}
use Rattle.l32_target_operands.specs.judging_laws.specs.vax_templates.specs.Standing.{Where, Immediate, Register, OwnRegister, RegisterZero, Value, Place, Local, SavedPlace, Saved, At, itself, negated, at, pointed, through, displaced, where_own, where_hole, where_zero}
use Rattle.l32_target_operands.specs.judging_laws.specs.Numbers.{IsShort}
use Rattle.l32_target_operands.specs.judging_laws.proofs.Binds.{chained}
use Rattle.l32_target_operands.specs.l32_templates.specs.l32_core.specs.declared.operand.Base32.TheVariants.{A}
use Rattle.l32_target_operands.specs.l32_templates.specs.l32_core.specs.declared.operand.Operand32.{Operand32}
use Rattle.l32_target_operands.specs.l32_templates.specs.l32_core.specs.declared.operand.Operand32.TheVariants as operands
use Rattle.l32_target_operands.specs.l32_templates.specs.l32_core.specs.Valid.{is_reg, is_register, is_memory}
use Rattle.l32_target_operands.specs.l32_templates.specs.declared.form.Form.{Form}
use Rattle.l32_target_operands.specs.l32_templates.specs.declared.form.Form.TheVariants as form
use Rattle.l32_target_operands.specs.l32_templates.specs.Standing.{where_deferred, form_where}
use Rattle.l32_target_operands.specs.l32_templates.specs.Filled.{attr_at, register_in, number_in, number_filled, operand_in, deferred_in, filled}
use Rattle.l32_target_operands.specs.judging_laws.specs.vax_templates.specs.vax_core.specs.Valid.{is_long}
use Rattle.l32_target_operands.specs.l32_target_meaning.specs.Fitting.{is_source}
use Rattle.l32_target_operands.specs.Places.{FormIsShort}
use Rattle.l32_target_operands.proofs.Forms.{displaced_is}
use Rattle.l32_target_fits.proofs.Holes.{Spells}

-- what stands there can be spelled: a number, a register or memory
abbrev pub Stands : Where → Operand32 → Type 0
Stands (Immediate t) o = Unit {0}
Stands (Register t) o = is_register o ≡ true
Stands OwnRegister o = Unit {0}
Stands RegisterZero o = is_register o ≡ true
Stands (Value z i) o = is_source o ≡ true
Stands (Place z i) o = is_memory o ≡ true
Stands (Local i) o = is_memory o ≡ true
Stands (SavedPlace z i) o = is_memory o ≡ true
Stands (Saved i) o = is_memory o ≡ true
Stands (At a p) o = is_memory o ≡ true

register_is : (q : TreeProgram) (h : Attr Operand32) → Spells q hole_kind.Register h → is_register (operand_in q h) ≡ true
register_is q h s = ap (λ a. is_register (operand_in q a)) s.1 ∙ s.2

-- a rule that gives a shape has no `%0`
module _ (q : TreeProgram) (s : Setting) (roles : List Hole) (hs : List (Attr Operand32)) (res : Attr Operand32) (none : s.own ≡ own.Nothing)
    (spells : (j : ℕ) → Spells q (hole_at roles (suc j)) (attr_at hs res (suc j))) where
  hole_stands : (r : Hole) (i : ℕ) (h : Attr Operand32) (w : Where) → Spells q r h → where_hole r i ≡ Ok w → Stands w (operand_in q h)
  hole_stands hole_kind.Register i h w k e = subst (λ x. Stands x (operand_in q h)) (ok_same (Register (Symbol i)) w e) (register_is q h k)
  hole_stands (hole_kind.Value z) i h w k e = subst (λ x. Stands x (operand_in q h)) (ok_same (Value z i) w e) k
  hole_stands (hole_kind.Place z) i h w k e = subst (λ x. Stands x (operand_in q h)) (ok_same (Place z i) w e) k
  hole_stands hole_kind.Local i h w k e = subst (λ x. Stands x (operand_in q h)) (ok_same (Local i) w e) k.0
  hole_stands (hole_kind.SavedPlace z) i h w k e = subst (λ x. Stands x (operand_in q h)) (ok_same (SavedPlace z i) w e) k
  hole_stands hole_kind.Address i h w k e = subst (λ x. Stands x (operand_in q h)) (ok_same (At (Symbol i) None) w e) k
  hole_stands hole_kind.Object i h w k e = subst (λ x. Stands x (operand_in q h)) (ok_same (At (Symbol i) None) w e) k
  hole_stands hole_kind.Saved i h w k e = subst (λ x. Stands x (operand_in q h)) (ok_same (Saved i) w e) k
  hole_stands _ i h w k e = absurd (err_ok _ w e)

  zero_stands : (o : Opening) (w : Where) → where_zero o ≡ Ok w → Stands w (operands.Reg 0)
  zero_stands opening.Return w e = subst (λ x. Stands x (operands.Reg 0)) (ok_same RegisterZero w e) refl
  zero_stands opening.Save w e = subst (λ x. Stands x (operands.Reg 0)) (ok_same RegisterZero w e) refl
  zero_stands opening.Other w e = absurd (err_ok _ w e)

  itself_stands : (t : Shape) (w : Where) (o : Operand32) → itself t ≡ Ok w → Stands w o
  itself_stands t w o e = subst (λ x. Stands x o) (ok_same (Immediate t) w e) tt

  -- numbers of displacements
  constant_low : (r : Hole) (i : ℕ) (h : Attr Operand32) (t : Shape) → Spells q r h → constant_of r i ≡ Ok t → number_in h < 2 ^ 32
  constant_low hole_kind.Constant i h t k e = k
  constant_low (hole_kind.Literal n) i h t k e = k
  constant_low _ i h t k e = absurd (err_ok _ t e)

  no_zero : (t : Shape) → constant_of (hole_at roles 0) 0 ≡ Ok t → ⊥
  no_zero t e = err_ok _ t e

  number_low : (x : Number) (t : Shape) → IsShort x → absolute_term roles x ≡ Ok t → number_filled hs res x < 2 ^ 32
  number_low (number.Itself n) t short e = short
  number_low (number.Symbol zero) t short e = absurd (no_zero t e)
  number_low (number.Symbol (suc j)) t short e = constant_low (hole_at roles (suc j)) (suc j) (attr_at hs res (suc j)) t (spells j) e

  no_own : (zero' : Option Shape) (b : Shape) → own_value s.own zero' ≡ Ok b → ⊥
  no_own zero' b e = err_ok _ b (ap (λ o. own_value o zero') (sym none) ∙ e)

  register_low : (i : ℕ) (b : Shape) → register_term s roles None i ≡ Ok b → is_reg (register_in (attr_at hs res i)) ≡ true
  register_low zero b e = absurd (no_own None b e)
  register_low (suc j) b e =
      by (hole_at roles (suc j)) (spells j)
      (subst (λ (z : Bool). cond z (own_value s.own None) (register_of (hole_at roles (suc j)) (suc j)) ≡ Ok b) (not_zero j) e)
    where
      by : (r : Hole) → Spells q r (attr_at hs res (suc j)) → register_of r (suc j) ≡ Ok b → is_reg (register_in (attr_at hs res (suc j))) ≡ true
      by hole_kind.Register k e = ap (λ a. is_reg (register_in a)) k.1 ∙ k.2
      by _ k e = absurd (err_ok _ b e)

  based : (x : Number) (i : ℕ) (a b : Shape) → IsShort x → absolute_term roles x ≡ Ok a → register_term s roles None i ≡ Ok b
      → is_memory (operands.At (number_filled hs res x) (A (register_in (attr_at hs res i)))) ≡ true
  based x i a b short ea eb = and_from (is_long (number_filled hs res x)) (is_reg (register_in (attr_at hs res i))) (lt-ltb (number_filled hs res x) (2 ^ 32) (number_low x a short ea)) (register_low i b eb)

  deferred_stands : (r : Hole) (i : ℕ) (h : Attr Operand32) (w : Where) → Spells q r h → where_deferred r i ≡ Ok w → Stands w (deferred_in h)
  deferred_stands hole_kind.Local i h w k e = subst (λ x. Stands x (deferred_in h)) (ok_same (At (Symbol i) None) w e) k.1
  deferred_stands _ i h w k e = absurd (err_ok _ w e)

  pub form_stands : (f : Form) (w : Where) → FormIsShort f → form_where s roles None f ≡ Ok w → Stands w (filled q hs res f)
  unfolding form_where filled
  form_stands form.RegisterZero w short e = zero_stands s.opening w e
  form_stands (form.Hole zero) w short e = absurd (err_ok _ w (ap where_own (sym none) ∙ e))
  form_stands (form.Hole (suc j)) w short e =
      hole_stands (hole_at roles (suc j)) (suc j) (attr_at hs res (suc j)) w (spells j)
      (subst (λ (b : Bool). cond b (where_own s.own) (where_hole (hole_at roles (suc j)) (suc j)) ≡ Ok w) (not_zero j) e)
  form_stands (form.Immediate x) w short e = let d = chained (absolute_term roles x) itself w e in itself_stands d.first w (operands.Num (number_filled hs res x)) d.then_so
  form_stands (form.Negative i) w short e =
      let d = chained (constant_of (hole_at roles i) i) negated w e in
      subst (λ y. Stands y (operands.Num (neg32 (number_in (attr_at hs res i))))) (ok_same _ w d.then_so) tt
  form_stands (form.Displacement x i) w short e =
      let d = chained (displaced (absolute_term roles x) (register_term s roles None i)) at w e in
      let p = displaced_is (absolute_term roles x) (register_term s roles None i) d.first d.is in
      subst (λ y. Stands y (operands.At (number_filled hs res x) (A (register_in (attr_at hs res i))))) (ok_same (At d.first None) w d.then_so) (based x i p.0 p.1 short p.2 p.3)
  form_stands (form.DisplacementDeferred x i) w short e =
      let d = chained (displaced (absolute_term roles x) (register_term s roles None i)) pointed w e in
      let p = displaced_is (absolute_term roles x) (register_term s roles None i) d.first d.is in
      subst (λ y. Stands y (operands.Deferred (number_filled hs res x) (A (register_in (attr_at hs res i))))) (ok_same (through d.first) w d.then_so) (based x i p.0 p.1 short p.2 p.3)
  form_stands (form.Deferred zero) w short e = absurd (err_ok _ w e)
  form_stands (form.Deferred (suc j)) w short e = deferred_stands (hole_at roles (suc j)) (suc j) (attr_at hs res (suc j)) w (spells j) e
