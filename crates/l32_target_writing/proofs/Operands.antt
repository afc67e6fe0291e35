-- An operand with its holes filled can be spelled, and suits what its instruction does with it.
use Rattle.std.proofs.Common.{◌≡◌, ℕ, zero, suc, ◌^◌, ◌<◌, Bool, true, false, cond, Option, None, Ok, Err, List, refl, ap, subst, ◌∙◌, arith}
use Rattle.std.proofs.lemmas.Bool.{lt-ltb, le-leb, and_from, or_left, or_right}
use Rattle.gg_base.specs.Arithmetic.{neg32}
use Rattle.gg_base.specs.declared.size.Size.{Size}
use Rattle.gg_base.specs.declared.size.Size.TheVariants.{Long}
use Rattle.gg_base.proofs.Facts.{err_ok, ok_same, not_zero}
use Rattle.gg_base.proofs.Words.{neg_small}
use Rattle.l32_target_fits.specs.l32_target_operands.specs.vax_target_meaning.specs.tree_core.specs.declared.program.TreeProgram.{TreeProgram}
use Rattle.l32_target_fits.specs.l32_target_operands.specs.judging_laws.specs.term_core.specs.Shape.{Shape, Symbol}
use Rattle.l32_target_fits.specs.l32_target_operands.specs.judging_laws.specs.sel_target.specs.declared.attr.Attr.{Attr}
use Rattle.l32_target_fits.specs.l32_target_operands.specs.judging_laws.specs.sel_target.specs.declared.attr.Attr.TheVariants as attr
use Rattle.l32_target_fits.specs.l32_target_operands.specs.judging_laws.specs.sel_target.specs.declared.fault.TemplateKind.TheVariants.{NotInstr}
use Rattle.l32_target_fits.specs.l32_target_operands.specs.judging_laws.specs.vax_templates.specs.declared.form.Number.{Number}
use Rattle.l32_target_fits.specs.l32_target_operands.specs.judging_laws.specs.vax_templates.specs.declared.form.Number.TheVariants as number
use Rattle.l32_target_fits.specs.l32_target_operands.specs.judging_laws.specs.vax_templates.specs.declared.setting.Hole.{Hole}
use Rattle.l32_target_fits.specs.l32_target_operands.specs.judging_laws.specs.vax_templates.specs.declared.setting.Hole.TheVariants as hole_kind
use Rattle.l32_target_fits.specs.l32_target_operands.specs.judging_laws.specs.vax_templates.specs.declared.setting.Own.{Own}
use Rattle.l32_target_fits.specs.l32_target_operands.specs.judging_laws.specs.vax_templates.specs.declared.setting.Own.TheVariants as own
use Rattle.l32_target_fits.specs.l32_target_operands.specs.judging_laws.specs.vax_templates.specs.declared.setting.Opening.{Opening}
use Rattle.l32_target_fits.specs.l32_target_operands.specs.judging_laws.specs.vax_templates.specs.declared.setting.Opening.TheVariants as opening
use Rattle.l32_target_fits.specs.l32_target_operands.specs.judging_laws.specs.vax_templates.specs.declared.setting.Setting.{Setting}
use Rattle.l32_target_fits.specs.l32_target_operands.specs.judging_laws.specs.vax_templates.specs.Settings.{hole_at}
use Rattle.l32_target_fits.specs.l32_target_operands.specs.judging_laws.specs.vax_templates.specs.HoleTerms.{constant_of, absolute_term, own_value, register_of, register_term}
use Rattle.l32_target_fits.specs.l32_target_operands.specs.judging_laws.specs.vax_templates.specs.Standing.{Where, Immediate, Register, OwnRegister, RegisterZero, Value, Place, Local, SavedPlace, Saved, At, itself, negated, at, pointed, through, displaced, where_own, where_hole, where_zero, ◌>>=◌}
use Rattle.l32_target_fits.specs.l32_target_operands.specs.judging_laws.specs.vax_templates.specs.Taking.{Taken, cut_term, fetched, written}
use Rattle.l32_target_fits.specs.l32_target_operands.specs.judging_laws.specs.vax_templates.specs.Targets.{Target}
use Rattle.l32_target_fits.specs.l32_target_operands.specs.judging_laws.specs.vax_templates.specs.vax_core.specs.Valid.{is_long}
use Rattle.l32_target_fits.specs.l32_target_operands.specs.judging_laws.specs.Numbers.{IsShort}
use Rattle.l32_target_fits.specs.l32_target_operands.specs.judging_laws.proofs.Binds.{chained}
use Rattle.l32_target_fits.specs.l32_target_operands.specs.l32_templates.specs.l32_core.specs.declared.op.Role.{Role}
use Rattle.l32_target_fits.specs.l32_target_operands.specs.l32_templates.specs.l32_core.specs.declared.op.Role.TheVariants as roles'
use Rattle.l32_target_fits.specs.l32_target_operands.specs.l32_templates.specs.l32_core.specs.declared.operand.Base32.TheVariants.{A}
use Rattle.l32_target_fits.specs.l32_target_operands.specs.l32_templates.specs.l32_core.specs.declared.operand.Operand32.{Operand32}
use Rattle.l32_target_fits.specs.l32_target_operands.specs.l32_templates.specs.l32_core.specs.declared.operand.Operand32.TheVariants as operands
use Rattle.l32_target_fits.specs.l32_target_operands.specs.l32_templates.specs.l32_core.specs.Valid.{is_reg, is_register, is_memory, is_number, suits}
use Rattle.l32_target_fits.specs.l32_target_operands.specs.l32_templates.specs.declared.form.Form.{Form}
use Rattle.l32_target_fits.specs.l32_target_operands.specs.l32_templates.specs.declared.form.Form.TheVariants as form
use Rattle.l32_target_fits.specs.l32_target_operands.specs.l32_templates.specs.Standing.{where_deferred, form_where}
use Rattle.l32_target_fits.specs.l32_target_operands.specs.l32_templates.specs.Taking.{numbered, registered, sourced, addressed, register_target, own_register, slot_target, statement_store, store_target, taken}
use Rattle.l32_target_fits.specs.l32_target_operands.specs.l32_templates.specs.Filled.{attr_at, register_in, number_in, number_filled, operand_in, deferred_in, filled}
use Rattle.l32_target_fits.specs.l32_target_operands.specs.l32_target_meaning.specs.Fitting.{is_source}
use Rattle.l32_target_fits.specs.l32_target_operands.specs.Places.{FormIsShort}
use Rattle.l32_target_fits.specs.l32_target_operands.proofs.Forms.{displaced_is}
use Rattle.l32_target_fits.proofs.Holes.{Spells}

-- what fills `%0` can be spelled
abbrev pub OwnSpells : TreeProgram → Own → Attr Operand32 → Type 0
OwnSpells q own.Nothing h = Unit {0}
OwnSpells q own.Register h = (n : ℕ) × (h ≡ attr.Reg n) × (is_reg n ≡ true)
OwnSpells q (own.Slot z) h = is_memory (operand_in q h) ≡ true

spelled_number : (n : ℕ) → n < 2 ^ 32 → is_number 4294967295 (operands.Num n) ≡ true
spelled_number n lt = le-leb n 4294967295 (omega (arith, lt))

register_is : (q : TreeProgram) (h : Attr Operand32) → (n : ℕ) × (h ≡ attr.Reg n) × (is_reg n ≡ true) → is_register (operand_in q h) ≡ true
register_is q h s = ap (λ a. is_register (operand_in q a)) s.1 ∙ s.2

-- what the filled holes and `%0` of a template are
module _ (q : TreeProgram) (s : Setting) (roles : List Hole) (hs : List (Attr Operand32)) (res : Attr Operand32) (spells : (j : ℕ) → Spells q (hole_at roles (suc j)) (attr_at hs res (suc j)))
    (owns : OwnSpells q s.own res) (held : Option Shape) where
  -- what stands there can be spelled: a number, a register or memory
  abbrev Spelled : Where → Operand32 → Type 0
  Spelled (Immediate t) o = is_number 4294967295 o ≡ true
  Spelled (Register t) o = is_register o ≡ true
  Spelled OwnRegister o = o ≡ operand_in q res
  Spelled RegisterZero o = is_register o ≡ true
  Spelled (Value z i) o = is_source o ≡ true
  Spelled (Place z i) o = is_memory o ≡ true
  Spelled (Local i) o = is_memory o ≡ true
  Spelled (SavedPlace z i) o = is_memory o ≡ true
  Spelled (Saved i) o = is_memory o ≡ true
  Spelled (At a p) o = is_memory o ≡ true

  -- ---- holes

  hole_spelled : (r : Hole) (i : ℕ) (h : Attr Operand32) (w : Where) → Spells q r h → where_hole r i ≡ Ok w → Spelled w (operand_in q h)
  hole_spelled hole_kind.Register i h w k e = subst (λ x. Spelled x (operand_in q h)) (ok_same (Register (Symbol i)) w e) (register_is q h k)
  hole_spelled (hole_kind.Value z) i h w k e = subst (λ x. Spelled x (operand_in q h)) (ok_same (Value z i) w e) k
  hole_spelled (hole_kind.Place z) i h w k e = subst (λ x. Spelled x (operand_in q h)) (ok_same (Place z i) w e) k
  hole_spelled hole_kind.Local i h w k e = subst (λ x. Spelled x (operand_in q h)) (ok_same (Local i) w e) k.0
  hole_spelled (hole_kind.SavedPlace z) i h w k e = subst (λ x. Spelled x (operand_in q h)) (ok_same (SavedPlace z i) w e) k
  hole_spelled hole_kind.Address i h w k e = subst (λ x. Spelled x (operand_in q h)) (ok_same (At (Symbol i) None) w e) k
  hole_spelled hole_kind.Object i h w k e = subst (λ x. Spelled x (operand_in q h)) (ok_same (At (Symbol i) None) w e) k
  hole_spelled hole_kind.Saved i h w k e = subst (λ x. Spelled x (operand_in q h)) (ok_same (Saved i) w e) k
  hole_spelled _ i h w k e = absurd (err_ok _ w e)

  own_spelled : (o : Own) (w : Where) → where_own o ≡ Ok w → Spelled w (operand_in q res)
  own_spelled own.Nothing w e = absurd (err_ok _ w e)
  own_spelled own.Register w e = subst (λ x. Spelled x (operand_in q res)) (ok_same OwnRegister w e) refl
  own_spelled (own.Slot z) w e = subst (λ x. Spelled x (operand_in q res)) (ok_same OwnRegister w e) refl

  zero_spelled : (o : Opening) (w : Where) → where_zero o ≡ Ok w → Spelled w (operands.Reg 0)
  zero_spelled opening.Return w e = subst (λ x. Spelled x (operands.Reg 0)) (ok_same RegisterZero w e) refl
  zero_spelled opening.Save w e = subst (λ x. Spelled x (operands.Reg 0)) (ok_same RegisterZero w e) refl
  zero_spelled opening.Other w e = absurd (err_ok _ w e)

  deferred_spelled : (r : Hole) (i : ℕ) (h : Attr Operand32) (w : Where) → Spells q r h → where_deferred r i ≡ Ok w → Spelled w (deferred_in h)
  deferred_spelled hole_kind.Local i h w k e = subst (λ x. Spelled x (deferred_in h)) (ok_same (At (Symbol i) None) w e) k.1
  deferred_spelled _ i h w k e = absurd (err_ok _ w e)

  -- ---- numbers and registers

  constant_low : (r : Hole) (i : ℕ) (h : Attr Operand32) (t : Shape) → Spells q r h → constant_of r i ≡ Ok t → number_in h < 2 ^ 32
  constant_low hole_kind.Constant i h t k e = k
  constant_low (hole_kind.Literal n) i h t k e = k
  constant_low _ i h t k e = absurd (err_ok _ t e)

  constant_at : (i : ℕ) (t : Shape) → constant_of (hole_at roles i) i ≡ Ok t → number_in (attr_at hs res i) < 2 ^ 32
  constant_at zero t e = absurd (err_ok _ t e)
  constant_at (suc j) t e = constant_low (hole_at roles (suc j)) (suc j) (attr_at hs res (suc j)) t (spells j) e

  number_low : (x : Number) (t : Shape) → IsShort x → absolute_term roles x ≡ Ok t → number_filled hs res x < 2 ^ 32
  number_low (number.Itself n) t short e = short
  number_low (number.Symbol i) t short e = constant_at i t e

  -- `%0` where it is a register with a value
  own_register_so : (o : Own) (z : Option Shape) (b : Shape) → OwnSpells q o res → own_value o z ≡ Ok b → (n : ℕ) × (res ≡ attr.Reg n) × (is_reg n ≡ true)
  own_register_so own.Register z b k e = k
  own_register_so own.Nothing z b k e = absurd (err_ok _ b e)
  own_register_so (own.Slot y) z b k e = absurd (err_ok _ b e)

  role_low : (r : Hole) (i : ℕ) (h : Attr Operand32) (b : Shape) → Spells q r h → register_of r i ≡ Ok b → is_reg (register_in h) ≡ true
  role_low hole_kind.Register i h b k e = ap (λ a. is_reg (register_in a)) k.1 ∙ k.2
  role_low _ i h b k e = absurd (err_ok _ b e)

  register_low : (i : ℕ) (b : Shape) → register_term s roles held i ≡ Ok b → is_reg (register_in (attr_at hs res i)) ≡ true
  register_low zero b e = let k = own_register_so s.own held b owns e in ap (λ a. is_reg (register_in a)) k.1 ∙ k.2
  register_low (suc j) b e =
      role_low (hole_at roles (suc j)) (suc j) (attr_at hs res (suc j)) b (spells j)
      (subst (λ (y : Bool). cond y (own_value s.own held) (register_of (hole_at roles (suc j)) (suc j)) ≡ Ok b) (not_zero j) e)

  based : (x : Number) (i : ℕ) (a b : Shape) → IsShort x → absolute_term roles x ≡ Ok a → register_term s roles held i ≡ Ok b
      → is_memory (operands.At (number_filled hs res x) (A (register_in (attr_at hs res i)))) ≡ true
  based x i a b short ea eb =
      and_from (is_long (number_filled hs res x)) (is_reg (register_in (attr_at hs res i))) (lt-ltb (number_filled hs res x) (2 ^ 32) (number_low x a short ea)) (register_low i b eb)

  -- ---- a form with its holes filled

  form_spelled : (f : Form) (w : Where) → FormIsShort f → form_where s roles held f ≡ Ok w → Spelled w (filled q hs res f)
  unfolding form_where filled
  form_spelled form.RegisterZero w short e = zero_spelled s.opening w e
  form_spelled (form.Hole zero) w short e = own_spelled s.own w e
  form_spelled (form.Hole (suc j)) w short e =
      hole_spelled (hole_at roles (suc j)) (suc j) (attr_at hs res (suc j)) w (spells j)
      (subst (λ (b : Bool). cond b (where_own s.own) (where_hole (hole_at roles (suc j)) (suc j)) ≡ Ok w) (not_zero j) e)
  form_spelled (form.Immediate x) w short e =
      let d = chained (absolute_term roles x) itself w e in
      subst (λ y. Spelled y (operands.Num (number_filled hs res x))) (ok_same (Immediate d.first) w d.then_so) (spelled_number (number_filled hs res x) (number_low x d.first short d.is))
  form_spelled (form.Negative i) w short e =
      let d = chained (constant_of (hole_at roles i) i) negated w e in
      subst (λ y. Spelled y (operands.Num (neg32 (number_in (attr_at hs res i))))) (ok_same _ w d.then_so)
      (spelled_number (neg32 (number_in (attr_at hs res i))) (neg_small (number_in (attr_at hs res i))))
  form_spelled (form.Displacement x i) w short e =
      let d = chained (displaced (absolute_term roles x) (register_term s roles held i)) at w e in
      let p = displaced_is (absolute_term roles x) (register_term s roles held i) d.first d.is in
      subst (λ y. Spelled y (operands.At (number_filled hs res x) (A (register_in (attr_at hs res i))))) (ok_same (At d.first None) w d.then_so) (based x i p.0 p.1 short p.2 p.3)
  form_spelled (form.DisplacementDeferred x i) w short e =
      let d = chained (displaced (absolute_term roles x) (register_term s roles held i)) pointed w e in
      let p = displaced_is (absolute_term roles x) (register_term s roles held i) d.first d.is in
      subst (λ y. Spelled y (operands.Deferred (number_filled hs res x) (A (register_in (attr_at hs res i))))) (ok_same (through d.first) w d.then_so) (based x i p.0 p.1 short p.2 p.3)
  form_spelled (form.Deferred zero) w short e = absurd (err_ok _ w e)
  form_spelled (form.Deferred (suc j)) w short e = deferred_spelled (hole_at roles (suc j)) (suc j) (attr_at hs res (suc j)) w (spells j) e

  -- ---- what suits a role

  source_register : (o : Operand32) → is_register o ≡ true → is_source o ≡ true
  source_register o e = or_left (is_register o) (is_memory o) e

  source_memory : (o : Operand32) → is_memory o ≡ true → is_source o ≡ true
  source_memory o e = or_right (is_register o) (is_memory o) e

  own_read : (size : Size) (o : Operand32) (t : Taken) → o ≡ operand_in q res → (own_value s.own held >>= cut_term size) ≡ Ok t → is_register o ≡ true
  own_read size o t k e =
      let d = chained (own_value s.own held) (cut_term size) t e in
      ap is_register k ∙ register_is q res (own_register_so s.own held d.first owns d.is)

  number_suits : (w : Where) (o : Operand32) (t : Taken) → Spelled w o → numbered w ≡ Ok t → is_number 4294967295 o ≡ true
  number_suits (Immediate x) o t k e = k
  number_suits _ o t k e = absurd (err_ok _ t e)

  register_suits : (w : Where) (o : Operand32) (t : Taken) → Spelled w o → registered s held w ≡ Ok t → is_register o ≡ true
  unfolding fetched
  register_suits (Register x) o t k e = k
  register_suits OwnRegister o t k e = own_read Long o t k e
  register_suits RegisterZero o t k e = k
  register_suits _ o t k e = absurd (err_ok _ t e)

  source_suits : (size : Size) (w : Where) (o : Operand32) (t : Taken) → Spelled w o → sourced s held w size ≡ Ok t → is_source o ≡ true
  unfolding fetched
  source_suits size (Immediate x) o t k e = absurd (err_ok _ t e)
  source_suits size (Register x) o t k e = source_register o k
  source_suits size OwnRegister o t k e = source_register o (own_read size o t k e)
  source_suits size RegisterZero o t k e = source_register o k
  source_suits size (Value z i) o t k e = k
  source_suits size (Place z i) o t k e = source_memory o k
  source_suits size (Local i) o t k e = source_memory o k
  source_suits size (SavedPlace z i) o t k e = source_memory o k
  source_suits size (Saved i) o t k e = source_memory o k
  source_suits size (At a p) o t k e = source_memory o k

  own_written : (x : Own) (o : Operand32) (y : Target × Bool) → OwnSpells q x res → o ≡ operand_in q res → own_register x ≡ Ok y → is_register o ≡ true
  own_written own.Register o y k same e = ap is_register same ∙ register_is q res k
  own_written own.Nothing o y k same e = absurd (err_ok _ y e)
  own_written (own.Slot z) o y k same e = absurd (err_ok _ y e)

  destination_suits : (w : Where) (o : Operand32) (y : Target × Bool) → Spelled w o → register_target s w ≡ Ok y → is_register o ≡ true
  destination_suits OwnRegister o y k e = own_written s.own o y owns k e
  destination_suits RegisterZero o y k e = k
  destination_suits _ o y k e = absurd (err_ok _ y e)

  slot_written : (x : Own) (size : Size) (o : Operand32) (y : Target × Bool) → OwnSpells q x res → o ≡ operand_in q res → slot_target x size ≡ Ok y → is_memory o ≡ true
  slot_written (own.Slot z) size o y k same e = ap is_memory same ∙ k
  slot_written own.Nothing size o y k same e = absurd (err_ok _ y e)
  slot_written own.Register size o y k same e = absurd (err_ok _ y e)

  memory_suits : (size : Size) (w : Where) (o : Operand32) (y : Target × Bool) → Spelled w o → statement_store s.own w size ≡ Ok y → is_memory o ≡ true
  memory_suits size OwnRegister o y k e = slot_written s.own size o y owns k e
  memory_suits size (Place z i) o y k e = k
  memory_suits size (Local i) o y k e = k
  memory_suits size (Saved i) o y k e = k
  memory_suits size (At a p) o y k e = k
  memory_suits size _ o y k e = absurd (err_ok _ y e)

  store_suits : (size : Size) (w : Where) (o : Operand32) (y : Target × Bool) → Spelled w o → store_target s w size ≡ Ok y → is_memory o ≡ true
  store_suits size w o y k e = by s.is_statement e where
    by : (b : Bool) → cond b (statement_store s.own w size) (Err NotInstr) ≡ Ok y → is_memory o ≡ true
    by true e = memory_suits size w o y k e
    by false e = absurd (err_ok _ y e)

  address_suits : (w : Where) (o : Operand32) (t : Taken) → Spelled w o → addressed w ≡ Ok t → is_memory o ≡ true
  address_suits (At a p) o t k e = k
  address_suits (SavedPlace z i) o t k e = k
  address_suits _ o t k e = absurd (err_ok _ t e)

  role_suits : (role : Role) (w : Where) (o : Operand32) (t : Taken) → Spelled w o → taken s held role w ≡ Ok t → suits role o ≡ true
  unfolding taken
  role_suits roles'.Number w o t k e = number_suits w o t k e
  role_suits roles'.Words w o t k e = absurd (err_ok _ t e)
  role_suits roles'.Count w o t k e = absurd (err_ok _ t e)
  role_suits roles'.Destination w o t k e = let d = chained (register_target s w) written t e in destination_suits w o d.first k d.is
  role_suits roles'.Register w o t k e = register_suits w o t k e
  role_suits (roles'.Source size) w o t k e = source_suits size w o t k e
  role_suits (roles'.Store size) w o t k e = let d = chained (store_target s w size) written t e in store_suits size w o d.first k d.is
  role_suits roles'.Address w o t k e = address_suits w o t k e

  -- an operand of an instruction suits what is done with it
  pub operand_suits : (role : Role) (f : Form) (w : Where) (t : Taken) → FormIsShort f → form_where s roles held f ≡ Ok w → taken s held role w ≡ Ok t
      → suits role (filled q hs res f) ≡ true
  operand_suits role f w t short is so = role_suits role w (filled q hs res f) t (form_spelled f w short is) so
