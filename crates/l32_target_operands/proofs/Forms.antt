-- An operand with its holes filled stands where its template says.
use Rattle.std.proofs.Common.{◌≡◌, ℕ, inl, inr, Option, Some, None, Result, Ok, refl, ap, subst, ◌∙◌}
use Rattle.gg_base.specs.Arithmetic.{add32, neg32}
use Rattle.gg_base.proofs.Facts.{err_ok, ok_same}
use Rattle.gg_base.proofs.Words.{add_turned}
use Rattle.gg_base.specs.declared.size.Size.TheVariants.{Long}
use Rattle.judging_laws.specs.term_core.specs.Shape.{Shape, Symbol}
use Rattle.judging_laws.specs.sel_target.specs.declared.fault.TemplateKind.{TemplateKind}
use Rattle.judging_laws.specs.vax_templates.specs.declared.setting.Hole.{Hole}
use Rattle.judging_laws.specs.vax_templates.specs.declared.setting.Hole.TheVariants as hole_kind
use Rattle.judging_laws.specs.vax_templates.specs.declared.setting.Opening.{Opening}
use Rattle.judging_laws.specs.vax_templates.specs.declared.setting.Opening.TheVariants as opening
use Rattle.judging_laws.specs.vax_templates.specs.Standing.{Where, Immediate, RegisterZero, At, where_zero, at, sum, displaced, through, pointed, negated, itself}
use Rattle.judging_laws.specs.vax_templates.specs.HoleTerms.{constant_of, absolute_term, register_term}
use Rattle.judging_laws.proofs.Binds.{chained}
use Rattle.l32_target_meaning.specs.l32_templates.specs.l32_core.specs.declared.operand.Base32.TheVariants.{A}
use Rattle.l32_target_meaning.specs.l32_templates.specs.l32_core.specs.declared.operand.Operand32.TheVariants as operands
use Rattle.l32_target_meaning.specs.l32_templates.specs.l32_machine.specs.State.{State, reg}
use Rattle.l32_target_meaning.specs.l32_templates.specs.declared.form.Form.{Form}
use Rattle.l32_target_meaning.specs.l32_templates.specs.declared.form.Form.TheVariants as form
use Rattle.l32_target_meaning.specs.l32_templates.specs.Standing.{where_deferred, form_where}
use Rattle.l32_target_meaning.specs.l32_templates.specs.Filled.{register_in, number_in, number_filled, deferred_in, filled}
use Rattle.l32_target_operands.specs.Scenes.{Scene, worth, role_at, filling_at, Means, Sees}
use Rattle.l32_target_operands.specs.Places.{Stands, FormIsShort, MayBeRead, OperandsStand}
use Rattle.l32_target_operands.proofs.Holes.{constant_known, memory_there, number_means, number_is, register_is, alone_stands}

-- a displaced address is a sum
pub displaced_is : (x y : Result Shape TemplateKind) (t : Shape) → displaced x y ≡ Ok t → (a : Shape) × (b : Shape) × (x ≡ Ok a) × (y ≡ Ok b) × (sum a b ≡ t)
displaced_is x y t e =
    let d = chained x _ t e in
    let r = chained y _ t d.then_so in
    (d.first, r.first, d.is, r.is, ok_same (sum d.first r.first) t r.then_so)

module _ (c : Scene) (zero : Option Shape) (m : State) (h : Sees c zero m) where
  zero_stands : (o : Opening) (w : Where) → where_zero o ≡ Ok w → Stands c m (operands.Reg 0) w
  zero_stands opening.Return w e = subst (Stands c m (operands.Reg 0)) (ok_same RegisterZero w e) refl
  zero_stands opening.Save w e = subst (Stands c m (operands.Reg 0)) (ok_same RegisterZero w e) refl
  zero_stands opening.Other w e = absurd (err_ok _ w e)

  number_stands : (n : ℕ) (t : Shape) (w : Where) → n ≡ worth c t → itself t ≡ Ok w → Stands c m (operands.Num n) w
  number_stands n t w is e = subst (Stands c m (operands.Num n)) (ok_same (Immediate t) w e) (ap operands.Num is)

  -- the address of a displacement from a register
  address_is : (k r : ℕ) (a b t : Shape) → k ≡ worth c a → reg m r ≡ worth c b → sum a b ≡ t → add32 (reg m r) k ≡ worth c t
  address_is k r a b t k_is r_is same = add_turned (reg m r) k ∙ ap (λ (x : ℕ). add32 x (reg m r)) k_is ∙ ap (λ (x : ℕ). add32 (worth c a) x) r_is ∙ ap (worth c) same

  deferred_stands : (r : Hole) (i : ℕ) (w : Where) → Means c m r i (filling_at c i) → where_deferred r i ≡ Ok w → Stands c m (deferred_in (filling_at c i)) w
  deferred_stands hole_kind.Local i w k e =
      subst (Stands c m (deferred_in (filling_at c i))) (ok_same (At (Symbol i) None) w e) (record { named_so = λ u. k.deferred; pointer = inl refl })
  deferred_stands _ i w k e = absurd (err_ok _ w e)

  form_stands : (f : Form) (w : Where) → FormIsShort f → MayBeRead c zero f → form_where c.setting c.roles zero f ≡ Ok w → Stands c m (filled c.program c.holes c.own f) w
  unfolding form_where filled
  form_stands form.RegisterZero w short may e = zero_stands c.setting.opening w e
  form_stands (form.Hole i) w short may e = alone_stands c zero m h i w may e
  form_stands (form.Immediate n) w short may e =
      let d = chained (absolute_term c.roles n) itself w e in number_stands (number_filled c.holes c.own n) d.first w (number_is c zero m h n d.first short d.is) d.then_so
  form_stands (form.Negative i) w short may e =
      let d = chained (constant_of (role_at c i) i) negated w e in
      subst (Stands c m (operands.Num (neg32 (number_in (filling_at c i))))) (ok_same _ w d.then_so)
      (ap (λ (n : ℕ). operands.Num (neg32 n)) (constant_known c m (role_at c i) i d.first (filling_at c i) (number_means c zero m h i d.first d.is) d.is).is)
  form_stands (form.Displacement n i) w short may e =
      let d = chained (displaced (absolute_term c.roles n) (register_term c.setting c.roles zero i)) at w e in
      let s = displaced_is (absolute_term c.roles n) (register_term c.setting c.roles zero i) d.first d.is in
      let is = address_is (number_filled c.holes c.own n) (register_in (filling_at c i)) s.0 s.1 d.first (number_is c zero m h n s.0 short s.2) (register_is c zero m h i s.1 may s.3) s.4 in
      subst (Stands c m (operands.At (number_filled c.holes c.own n) (A (register_in (filling_at c i))))) (ok_same (At d.first None) w d.then_so)
      (record { named_so = λ u. ap (λ (x : ℕ). Some x) is; pointer = inl refl })
  form_stands (form.DisplacementDeferred n i) w short may e =
      let d = chained (displaced (absolute_term c.roles n) (register_term c.setting c.roles zero i)) pointed w e in
      let s = displaced_is (absolute_term c.roles n) (register_term c.setting c.roles zero i) d.first d.is in
      let is = address_is (number_filled c.holes c.own n) (register_in (filling_at c i)) s.0 s.1 d.first (number_is c zero m h n s.0 short s.2) (register_is c zero m h i s.1 may s.3) s.4 in
      subst (Stands c m (operands.Deferred (number_filled c.holes c.own n) (A (register_in (filling_at c i))))) (ok_same (through d.first) w d.then_so)
      (record { named_so = λ safe. memory_there c zero m h Long d.first (add32 (reg m (register_in (filling_at c i))) (number_filled c.holes c.own n)) is safe; pointer = inr refl })
  form_stands (form.Deferred i) w short may e = deferred_stands (role_at c i) i w (h.means i may) e

pub operands_stand : OperandsStand
operands_stand c zero m f w h short may e = form_stands c zero m h f w short may e
