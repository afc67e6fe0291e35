-- What a hole means, as a number, a register, or an operand.
use Rattle.std.proofs.Common.{◌≡◌, ℕ, inl, ◌-◌, ◌%◌, ◌^◌, ◌<◌, ◌==◌, Bool, true, false, cond, Option, Some, None, Ok, refl, sym, ap, subst, ◌∙◌, arith}
use Rattle.std.specs.Prelude.{slice_get, unwrap_or}
use Rattle.std.specs.List.{AllByRecursion}
use Rattle.gg_base.specs.declared.size.Size.{Size}
use Rattle.gg_base.proofs.Facts.{err_ok, ok_same}
use Rattle.l32_target_meaning.specs.vax_target_meaning.specs.tree_core.specs.Area as trees
use Rattle.l32_target_meaning.specs.vax_target_meaning.specs.vax_machine_lists.proofs.Longwords.{all_bytes}
use Rattle.judging_laws.specs.term_core.specs.Shape.{Shape, Constant, Symbol, Memory}
use Rattle.judging_laws.specs.sel_target.specs.declared.attr.Attr.{Attr}
use Rattle.judging_laws.specs.sel_target.specs.Values.{IsRead}
use Rattle.judging_laws.specs.sel_target.proofs.AreaBytes.{fetched_is}
use Rattle.judging_laws.specs.vax_templates.specs.declared.form.Number.{Number}
use Rattle.judging_laws.specs.vax_templates.specs.declared.form.Number.TheVariants as number
use Rattle.judging_laws.specs.vax_templates.specs.declared.setting.Hole.{Hole}
use Rattle.judging_laws.specs.vax_templates.specs.declared.setting.Hole.TheVariants as hole_kind
use Rattle.judging_laws.specs.vax_templates.specs.declared.setting.Own.{Own}
use Rattle.judging_laws.specs.vax_templates.specs.declared.setting.Own.TheVariants as own
use Rattle.judging_laws.specs.vax_templates.specs.Settings.{hole_or_other}
use Rattle.judging_laws.specs.vax_templates.specs.Judging.{is_operand}
use Rattle.judging_laws.specs.vax_templates.specs.Standing.{Where, Register, OwnRegister, Value, Place, Local, SavedPlace, Saved, At, where_own, where_hole}
use Rattle.judging_laws.specs.vax_templates.specs.HoleTerms.{constant_of, absolute_term, own_value, register_of, register_term}
use Rattle.l32_target_meaning.specs.l32_templates.specs.l32_core.specs.declared.operand.Operand32.{Operand32}
use Rattle.l32_target_meaning.specs.l32_templates.specs.l32_machine.specs.State.{State, reg}
use Rattle.l32_target_meaning.specs.l32_templates.specs.l32_machine.specs.Memory.{read}
use Rattle.l32_target_meaning.specs.l32_templates.specs.Filled.{register_in, number_filled, operand_in}
use Rattle.judging_laws.specs.Numbers.{IsShort}
use Rattle.l32_target_operands.specs.Scenes.{Scene, worth, role_at, filling_at, is_lost, Means, IsNumber, Holds, Sees}
use Rattle.l32_target_operands.specs.Places.{Stands}
use Rattle.l32_target_operands.proofs.Reading.{number_read}

module _ (c : Scene) (m : State) where
  -- ---- numbers

  pub constant_known : (r : Hole) (i : ℕ) (t : Shape) (a : Attr Operand32) → Means c m r i a → constant_of r i ≡ Ok t → IsNumber a (worth c t)
  constant_known hole_kind.Constant i t a k e = subst (λ s. IsNumber a (worth c s)) (ok_same (Symbol i) t e) k
  constant_known (hole_kind.Literal n) i t a k e =
      subst (λ s. IsNumber a (worth c s)) (ok_same (Constant n) t e)
      (subst (λ x. IsNumber a x) (let small : n ≡ n % 2 ^ 32 = omega (arith, k.low) in small) k)
  constant_known _ i t a k e = absurd (err_ok _ t e)

  -- a number stands in no register
  pub number_no_operand : (r : Hole) (i : ℕ) (t : Shape) → constant_of r i ≡ Ok t → is_operand r ≡ false
  number_no_operand hole_kind.Constant i t e = refl
  number_no_operand (hole_kind.Literal n) i t e = refl
  number_no_operand _ i t e = absurd (err_ok _ t e)

  -- ---- registers

  pub register_known : (r : Hole) (i : ℕ) (t : Shape) (a : Attr Operand32) → Means c m r i a → register_of r i ≡ Ok t → reg m (register_in a) ≡ worth c t
  register_known hole_kind.Register i t a k e = ap (λ x. reg m (register_in x)) k.is ∙ k.holds ∙ ap (worth c) (ok_same (Symbol i) t e)
  register_known _ i t a k e = absurd (err_ok _ t e)

  -- ---- operands that are holes

  pub hole_stands : (r : Hole) (i : ℕ) (w : Where) → Means c m r i (filling_at c i) → where_hole r i ≡ Ok w → Stands c m (operand_in c.program (filling_at c i)) w
  hole_stands hole_kind.Register i w k e =
      subst (Stands c m (operand_in c.program (filling_at c i))) (ok_same (Register (Symbol i)) w e)
      (record { register = k.number; is = ap (operand_in c.program) k.is; holds = k.holds })
  hole_stands (hole_kind.Value z) i w k e = subst (Stands c m (operand_in c.program (filling_at c i))) (ok_same (Value z i) w e) k
  hole_stands (hole_kind.Place z) i w k e = subst (Stands c m (operand_in c.program (filling_at c i))) (ok_same (Place z i) w e) (refl, k)
  hole_stands hole_kind.Local i w k e = subst (Stands c m (operand_in c.program (filling_at c i))) (ok_same (Local i) w e) (refl, k)
  hole_stands (hole_kind.SavedPlace z) i w k e = subst (Stands c m (operand_in c.program (filling_at c i))) (ok_same (SavedPlace z i) w e) k
  hole_stands hole_kind.Address i w k e =
      subst (Stands c m (operand_in c.program (filling_at c i))) (ok_same (At (Symbol i) None) w e) (record { named_so = λ u. k; pointer = inl refl })
  hole_stands hole_kind.Object i w k e =
      subst (Stands c m (operand_in c.program (filling_at c i))) (ok_same (At (Symbol i) None) w e) (record { named_so = λ u. k.named_so; pointer = inl refl })
  hole_stands hole_kind.Saved i w k e = subst (Stands c m (operand_in c.program (filling_at c i))) (ok_same (Saved i) w e) (refl, k)
  hole_stands _ i w k e = absurd (err_ok _ w e)

  -- ---- `%0`

  own_stands : (o : Own) (w : Where) → where_own o ≡ Ok w → Stands c m (operand_in c.program c.own) w
  own_stands own.Nothing w e = absurd (err_ok _ w e)
  own_stands own.Register w e = subst (Stands c m (operand_in c.program c.own)) (ok_same OwnRegister w e) refl
  own_stands (own.Slot z) w e = subst (Stands c m (operand_in c.program c.own)) (ok_same OwnRegister w e) refl

  pub own_held : (o : Own) (z : Option Shape) (t : Shape) → Holds c m z → own_value o z ≡ Ok t → reg m (register_in c.own) ≡ worth c t
  own_held own.Register (Some x) t h e = h ∙ ap (worth c) (ok_same x t e)
  own_held _ _ t h e = absurd (err_ok _ t e)

-- ---- in a state that is seen

module _ (c : Scene) (zero : Option Shape) (m : State) (h : Sees c zero m) where
  pub area_bytes : AllByRecursion (λ b. b < 256) c.view.state.area
  area_bytes = subst (λ l. AllByRecursion (λ b. b < 256) l) h.area (all_bytes m.area h.sound.area_bytes)

  -- memory that may be read lies in the data area, and holds what the term says
  pub memory_there : (size : Size) (a : Shape) (x : ℕ) → x ≡ worth c a → IsRead c.view (Memory size a) → trees.fetched size m.area x ≡ Some (worth c (Memory size a))
  memory_there size a x e safe =
      ap (λ l. trees.fetched size l x) h.area ∙ ap (trees.fetched size c.view.state.area) e ∙ fetched_is c.view size (worth c a) area_bytes (safe.1 refl)

  pub memory_read : (size : Size) (a : Shape) (x : ℕ) → x ≡ worth c a → IsRead c.view (Memory size a) → read m x size ≡ Ok (worth c (Memory size a))
  memory_read size a x e safe = number_read false m x size (worth c (Memory size a)) (memory_there size a x e safe)

  -- a hole that is a number
  pub number_means : (i : ℕ) (t : Shape) → constant_of (role_at c i) i ≡ Ok t → Means c m (role_at c i) i (filling_at c i)
  number_means i t e = h.means i (λ lost. number_no_operand c m (role_at c i) i t e)

  pub number_is : (n : Number) (t : Shape) → IsShort n → absolute_term c.roles n ≡ Ok t → number_filled c.holes c.own n ≡ worth c t
  number_is (number.Itself n) t short e = (let same : n ≡ n % 2 ^ 32 = omega (arith, short) in same) ∙ ap (worth c) (ok_same (Constant n) t e)
  number_is (number.Symbol i) t short e = (constant_known c m (role_at c i) i t (filling_at c i) (number_means i t e) e).is

  -- a register that a hole spells, `%0` too
  pub register_is : (i : ℕ) (t : Shape) → (is_lost c zero ≡ true → is_operand (role_at c i) ≡ false) →
      register_term c.setting c.roles zero i ≡ Ok t → reg m (register_in (filling_at c i)) ≡ worth c t
  register_is i t free e = by (i == 0) (h.means i free) e where
    by : (b : Bool) → Means c m (cond b hole_kind.Other (hole_or_other (slice_get c.roles (i - 1)))) i (cond b c.own (unwrap_or (slice_get c.holes (i - 1)) c.own)) →
        cond b (own_value c.setting.own zero) (register_of (cond b hole_kind.Other (hole_or_other (slice_get c.roles (i - 1)))) i) ≡ Ok t →
        reg m (register_in (cond b c.own (unwrap_or (slice_get c.holes (i - 1)) c.own))) ≡ worth c t
    by true k e = own_held c m c.setting.own zero t h.holds e
    by false k e = register_known c m (hole_or_other (slice_get c.roles (i - 1))) i t (unwrap_or (slice_get c.holes (i - 1)) c.own) k e

  -- a hole alone, `%0` too
  pub alone_stands : (i : ℕ) (w : Where) → (is_lost c zero ≡ true → is_operand (role_at c i) ≡ false) →
      cond (i == 0) (where_own c.setting.own) (where_hole (role_at c i) i) ≡ Ok w → Stands c m (operand_in c.program (filling_at c i)) w
  alone_stands i w free e = by (i == 0) refl e where
    by : (b : Bool) → (i == 0) ≡ b → cond b (where_own c.setting.own) (where_hole (role_at c i) i) ≡ Ok w → Stands c m (operand_in c.program (filling_at c i)) w
    by true zero_is e =
        subst (λ a. Stands c m (operand_in c.program a) w) (sym (ap (λ b. cond b c.own (unwrap_or (slice_get c.holes (i - 1)) c.own)) zero_is))
        (own_stands c m c.setting.own w e)
    by false zero_is e = hole_stands c m (role_at c i) i w (h.means i free) e
