-- What is read, or named, by an operand that stands where its template says.
use Rattle.std.proofs.Common.{◌≡◌, ◌⊎◌, inl, inr, ℕ, Bool, true, false, cond, Option, Some, None, Ok, Err, refl, sym, ap, subst, ◌∙◌}
use Rattle.gg_base.specs.declared.size.Size.{Size}
use Rattle.gg_base.specs.declared.size.Size.TheVariants.{Long}
use Rattle.gg_base.proofs.Facts.{err_ok, ok_same}
use Rattle.l32_target_rules.specs.judging_laws.specs.term_core.specs.Shape.{Shape, Symbol, Memory, LastResult}
use Rattle.l32_target_rules.specs.judging_laws.specs.sel_terms.specs.Same.{same_size}
use Rattle.l32_target_rules.specs.judging_laws.specs.sel_terms.specs.Effects as effects
use Rattle.l32_target_rules.specs.judging_laws.specs.sel_terms.specs.Effects.{ActShape}
use Rattle.l32_target_rules.specs.judging_laws.specs.sel_target.specs.declared.fault.TemplateKind.{TemplateKind}
use Rattle.l32_target_rules.specs.judging_laws.specs.sel_target.specs.declared.fault.TemplateKind.TheVariants.{WrongSize}
use Rattle.l32_target_rules.specs.judging_laws.specs.sel_target.specs.Values.{IsRead}
use Rattle.l32_target_rules.specs.judging_laws.specs.vax_templates.specs.declared.setting.Own.{Own}
use Rattle.l32_target_rules.specs.judging_laws.specs.vax_templates.specs.declared.setting.Own.TheVariants as own
use Rattle.l32_target_rules.specs.judging_laws.specs.vax_templates.specs.declared.setting.Opening.{Opening}
use Rattle.l32_target_rules.specs.judging_laws.specs.vax_templates.specs.declared.setting.Opening.TheVariants as opening
use Rattle.l32_target_rules.specs.judging_laws.specs.vax_templates.specs.HoleTerms.{own_value}
use Rattle.l32_target_rules.specs.judging_laws.specs.vax_templates.specs.Standing.{Where, Immediate, Register, OwnRegister, RegisterZero, Value, Place, Local, SavedPlace, Saved, At, ◌>>=◌}
use Rattle.l32_target_rules.specs.judging_laws.specs.vax_templates.specs.Giving.{truncated}
use Rattle.l32_target_rules.specs.judging_laws.specs.vax_templates.specs.Taking.{Taken, taken_term, taken_read, last_result, cut_term, fetched}
use Rattle.l32_target_rules.specs.judging_laws.specs.vax_templates.specs.GiveLines.{address_given, value_given, home_given, place_given}
use Rattle.l32_target_rules.specs.l32_templates.specs.l32_core.specs.declared.operand.Operand32.{Operand32}
use Rattle.l32_target_rules.specs.l32_templates.specs.l32_core.specs.declared.operand.Operand32.TheVariants as operands
use Rattle.l32_target_rules.specs.l32_templates.specs.l32_machine.specs.State.{State, reg}
use Rattle.l32_target_rules.specs.l32_templates.specs.Taking.{sourced}
use Rattle.l32_target_rules.specs.l32_target_meaning.specs.Reading.{number_of, number_at, is_own_place, named, reads}
use Rattle.l32_target_rules.specs.l32_target_operands.specs.Scenes.{Scene, worth, Sees}
use Rattle.l32_target_rules.specs.l32_target_operands.specs.Places.{IsReadIfAny, Stands}
use Rattle.l32_target_rules.specs.l32_target_operands.proofs.Worths.{cut_is}
use Rattle.l32_target_rules.specs.l32_target_operands.proofs.Holes.{memory_there, memory_read}
use Rattle.l32_target_rules.specs.l32_target_lines.proofs.Taken.{sized_right}
use Rattle.l32_target_reading.proofs.Places.{by_names}

-- a value that is given is of the right size
given_is : (t : Taken) (x : Shape) → value_given t ≡ Ok (effects.Value x) → (t.missized ≡ false) × (t.term ≡ x)
given_is t x e = by t.missized refl e where
  same : (a b : Shape) → effects.Value a ≡ effects.Value b → a ≡ b
  same a b q = cc

  by : (b : Bool) → t.missized ≡ b → cond b (Err WrongSize) (Ok (effects.Value t.term)) ≡ Ok (effects.Value x) → (t.missized ≡ false) × (t.term ≡ x)
  by true is q = absurd (err_ok _ _ q)
  by false is q = (is, same t.term x (ok_same {E = TemplateKind} (effects.Value t.term) (effects.Value x) q))

module _ (c : Scene) (m : State) (h : Sees c None m) where
  pointer_safe : (a : Shape) (p : Option Shape) → (p ≡ None) ⊎ (p ≡ Some a) → IsRead c.view a → IsReadIfAny c p
  pointer_safe a p (inl e) safe = subst (IsReadIfAny c) (sym e) tt
  pointer_safe a p (inr e) safe = subst (IsReadIfAny c) (sym e) safe

  -- memory of the data area
  there : (o : Operand32) (size : Size) (a : Shape) → named m o ≡ Some (worth c a) → IsRead c.view (Memory size a) → reads o size m ≡ Some (worth c (Memory size a))
  there o size a named safe = by_names o size (worth c a) (worth c (Memory size a)) m named (by (is_own_place o)) where
    by : (b : Bool) → number_at b m (worth c a) size ≡ Some (worth c (Memory size a))
    by true = ap number_of (memory_read c None m h size a (worth c a) refl safe)
    by false = memory_there c None m h size a (worth c a) refl safe

  abbrev R : Operand32 → Size → Taken → Type 0
  R o size t = reads o size m ≡ Some (worth c t.term)

  register_read : (o : Operand32) (n : ℕ) (size : Size) (x : Shape) (t : Taken) → o ≡ operands.Reg n → reg m n ≡ worth c x → cut_term size x ≡ Ok t → R o size t
  register_read o n size x t is holds e =
      subst (R o size) (ok_same (taken_term (truncated size x)) t e)
      (ap (λ (y : Operand32). reads y size m) is ∙ ap (λ (k : ℕ). Some k) (cut_is c size x (reg m n) holds))

  no_own : (o : Own) (t : Taken) (size : Size) → (own_value o None >>= cut_term size) ≡ Ok t → ⊥
  no_own own.Nothing t size e = err_ok _ t e
  no_own own.Register t size e = err_ok _ t e
  no_own (own.Slot z) t size e = err_ok _ t e

  zero_read : (o : Operand32) (size : Size) (t : Taken) → o ≡ operands.Reg 0 → last_result c.setting.opening None size ≡ Ok t → R o size t
  zero_read o size t is e = by c.setting.opening refl e where
    by : (p : Opening) → c.setting.opening ≡ p → last_result p None size ≡ Ok t → R o size t
    by opening.Save p e = register_read o 0 size LastResult t is (h.answered p refl) e
    by opening.Return p e = absurd (err_ok _ t e)
    by opening.Other p e = absurd (err_ok _ t e)

  -- what is read
  source_read : (w : Where) (o : Operand32) (size : Size) (t : Taken) → Stands c m o w → sourced c.setting None w size ≡ Ok t → t.missized ≡ false → IsRead c.view t.term → R o size t
  unfolding fetched
  source_read (Immediate x) o size t s e right safe = absurd (err_ok _ t e)
  source_read (Register x) o size t s e right safe = register_read o s.register size x t s.is s.holds e
  source_read OwnRegister o size t s e right safe = absurd (no_own c.setting.own t size e)
  source_read RegisterZero o size t s e right safe = zero_read o size t s e
  source_read (Value z i) o size t s e right safe =
      let r = sized_right z size (taken_term (Symbol i)) t e right in
      subst (R o size) r.1 (subst (λ y. reads o y m ≡ Some (worth c (Symbol i))) r.0 s)
  source_read (Place z i) o size t s e right safe =
      let r = sized_right z size (taken_read (Symbol i)) t e right in
      let some = subst (λ (y : Taken). IsRead c.view y.term) (sym r.1) safe in
      subst (R o size) r.1 (subst (λ y. reads o y m ≡ Some (worth c (Symbol i))) r.0 (ap (λ x. reads x z m) s.0 ∙ s.1.holds some))
  source_read (Local i) o size t s e right safe =
      let r = sized_right Long size (taken_term (Symbol i)) t e right in
      subst (R o size) r.1 (subst (λ y. reads o y m ≡ Some (worth c (Symbol i))) r.0 (ap (λ x. reads x Long m) s.0 ∙ s.1.holds))
  source_read (SavedPlace z i) o size t s e right safe =
      let r = sized_right z size (taken_read (Memory z (Symbol i))) t e right in
      let some = subst (λ (y : Taken). IsRead c.view y.term) (sym r.1) safe in
      subst (R o size) r.1 (subst (λ y. reads o y m ≡ Some (worth c (Memory z (Symbol i)))) r.0 (there o z (Symbol i) s some))
  source_read (Saved i) o size t s e right safe = absurd (err_ok _ t e)
  source_read (At a p) o size t s e right safe =
      let same = ok_same (taken_read (Memory size a)) t e in
      let some = subst (λ (y : Taken). IsRead c.view y.term) (sym same) safe in
      subst (R o size) same (there o size a (s.named_so (pointer_safe a p s.pointer some.0)) some)

  pub value_so : (w : Where) (o : Operand32) (size : Size) (t : Taken) (x : Shape) → Stands c m o w → sourced c.setting None w size ≡ Ok t → value_given t ≡ Ok (effects.Value x) → IsRead c.view x
      → reads o size m ≡ Some (worth c x)
  value_so w o size t x s e given safe =
      let g = given_is t x given in
      source_read w o size t s e g.0 (subst (IsRead c.view) (sym g.1) safe) ∙ ap (λ (y : Shape). Some (worth c y)) g.1

  -- what is named
  home_none : (size has : Size) (i : ℕ) (z : Size) (a : Shape) → home_given size has i ≡ Ok (effects.PlaceAt z a) → ⊥
  home_none size has i z a e = by (same_size has size) e where
    other : effects.PlaceHome size i ≡ effects.PlaceAt z a → ⊥
    other q = cc

    by : (b : Bool) → cond b (Ok (effects.PlaceHome size i)) (Err WrongSize) ≡ Ok (effects.PlaceAt z a) → ⊥
    by true e = other (ok_same {E = TemplateKind} (effects.PlaceHome size i) (effects.PlaceAt z a) e)
    by false e = err_ok _ _ e

  at_so : (o : Operand32) (b a : Shape) (p : Option Shape) → Stands c m o (At b p) → b ≡ a → IsRead c.view a → named m o ≡ Some (worth c a)
  at_so o b a p s same safe =
      s.named_so (pointer_safe b p s.pointer (subst (IsRead c.view) (sym same) safe)) ∙ ap (λ (x : Shape). Some (worth c x)) same

  pub place_so : (w : Where) (o : Operand32) (size : Size) (a : Shape) → Stands c m o w → place_given size w ≡ Ok (effects.PlaceAt size a) → IsRead c.view a → named m o ≡ Some (worth c a)
  place_so (At b p) o size a s e safe = at_so o b a p s (same (ok_same {E = TemplateKind} (effects.PlaceAt size b) (effects.PlaceAt size a) e)) safe where
    same : effects.PlaceAt size b ≡ effects.PlaceAt size a → b ≡ a
    same q = cc
  place_so (Place z i) o size a s e safe = absurd (home_none size z i size a e)
  place_so (Local i) o size a s e safe = absurd (home_none size Long i size a e)
  place_so _ o size a s e safe = absurd (err_ok _ _ e)

  pub address_so : (w : Where) (o : Operand32) (a : Shape) → Stands c m o w → address_given w ≡ Ok (effects.Address a) → IsRead c.view a → named m o ≡ Some (worth c a)
  address_so (At b p) o a s e safe = at_so o b a p s (same (ok_same {E = TemplateKind} (effects.Address b) (effects.Address a) e)) safe where
    same : effects.Address b ≡ effects.Address a → b ≡ a
    same q = cc
  address_so _ o a s e safe = absurd (err_ok _ _ e)
