-- What an instruction takes of one operand on the machine is what its term says.
use Rattle.std.proofs.Common.{◌≡◌, ℕ, inl, inr, ◌<◌, ◌==◌, ◌⊎◌, Bool, true, false, cond, not, Option, Some, None, Result, Ok, Err, List, refl, sym, ap, subst, ◌∙◌}
use Rattle.gg_base.specs.declared.size.Size.{Size}
use Rattle.gg_base.specs.declared.size.Size.TheVariants.{Byte, Word, Long}
use Rattle.gg_base.specs.Sizes.{low}
use Rattle.gg_base.proofs.Facts.{err_ok, ok_same}
use Rattle.l32_target_operands.specs.judging_laws.specs.term_core.specs.Shape.{Shape, Symbol, LastResult, Memory}
use Rattle.l32_target_operands.specs.judging_laws.specs.sel_terms.specs.Same.{same_size}
use Rattle.l32_target_operands.specs.judging_laws.specs.sel_target.specs.declared.attr.Attr.TheVariants as attr
use Rattle.l32_target_operands.specs.judging_laws.specs.sel_target.specs.declared.fault.TemplateKind.{TemplateKind}
use Rattle.l32_target_operands.specs.judging_laws.specs.sel_target.specs.declared.fault.TemplateKind.TheVariants.{NotInstr}
use Rattle.l32_target_operands.specs.judging_laws.specs.vax_templates.specs.declared.setting.Hole.{Hole}
use Rattle.l32_target_operands.specs.judging_laws.specs.vax_templates.specs.declared.setting.Hole.TheVariants as hole_kind
use Rattle.l32_target_operands.specs.judging_laws.specs.vax_templates.specs.declared.setting.Own.{Own}
use Rattle.l32_target_operands.specs.judging_laws.specs.vax_templates.specs.declared.setting.Own.TheVariants as own
use Rattle.l32_target_operands.specs.judging_laws.specs.vax_templates.specs.declared.setting.Opening.{Opening}
use Rattle.l32_target_operands.specs.judging_laws.specs.vax_templates.specs.declared.setting.Opening.TheVariants as opening
use Rattle.l32_target_operands.specs.judging_laws.specs.vax_templates.specs.declared.setting.Setting.{Setting}
use Rattle.l32_target_operands.specs.judging_laws.specs.vax_templates.specs.Standing.{Where, Immediate, Register, OwnRegister, RegisterZero, Value, Place, Local, SavedPlace, Saved, At, ◌>>=◌, where_own, where_hole, where_zero, at, displaced, pointed, negated, itself}
use Rattle.l32_target_operands.specs.judging_laws.specs.sel_target.specs.Values.{IsRead}
use Rattle.l32_target_operands.specs.judging_laws.specs.vax_templates.specs.HoleTerms.{own_value, constant_of, absolute_term, register_term}
use Rattle.l32_target_operands.specs.judging_laws.specs.vax_templates.specs.Targets.{Target, ToOwn, ToSlot, ToHome, ToMemory, ToZero, ToSaved, is_long, memory_target, zero_target}
use Rattle.l32_target_operands.specs.judging_laws.specs.vax_templates.specs.Taking.{Taken, taken_term, taken_read, taken_missized, sized, last_result, cut_term, fetched, pointer_read, written}
use Rattle.l32_target_operands.specs.judging_laws.specs.vax_templates.specs.Giving.{truncated}
use Rattle.l32_target_operands.specs.judging_laws.specs.vax_templates.specs.Settings.{hole_at}
use Rattle.l32_target_operands.specs.judging_laws.specs.Each.{EachOk}
use Rattle.l32_target_operands.specs.judging_laws.proofs.Binds.{chained}
use Rattle.l32_target_operands.specs.judging_laws.proofs.Parts.{if_ok, of_ok}
use Rattle.l32_target_operands.specs.l32_templates.specs.l32_core.specs.declared.op.Role.{Role}
use Rattle.l32_target_operands.specs.l32_templates.specs.l32_core.specs.declared.op.Role.TheVariants as roles
use Rattle.l32_target_operands.specs.l32_templates.specs.l32_core.specs.declared.operand.Operand32.{Operand32}
use Rattle.l32_target_operands.specs.l32_templates.specs.l32_core.specs.declared.operand.Operand32.TheVariants as operands
use Rattle.l32_target_operands.specs.l32_templates.specs.l32_machine.specs.declared.turn.Stop32.{Stop32}
use Rattle.l32_target_operands.specs.l32_templates.specs.l32_machine.specs.declared.operands.Destination.{Destination}
use Rattle.l32_target_operands.specs.l32_templates.specs.l32_machine.specs.declared.operands.Destination.TheVariants as destinations
use Rattle.l32_target_operands.specs.l32_templates.specs.l32_machine.specs.declared.operands.Evaluated.TheVariants as evaluations
use Rattle.l32_target_operands.specs.l32_templates.specs.l32_machine.specs.State.{State, reg}
use Rattle.l32_target_operands.specs.l32_templates.specs.l32_machine.specs.State as state
use Rattle.l32_target_operands.specs.l32_templates.specs.l32_machine.specs.Operands.{register_of, as_number}
use Rattle.l32_target_operands.specs.l32_templates.specs.l32_machine.specs.Operands as machine
use Rattle.l32_target_operands.specs.l32_templates.specs.declared.form.Form.{Form}
use Rattle.l32_target_operands.specs.l32_templates.specs.declared.form.Form.TheVariants as form
use Rattle.l32_target_operands.specs.l32_templates.specs.Standing.{where_deferred, form_where}
use Rattle.l32_target_operands.specs.l32_templates.specs.Taking.{numbered, registered, sourced, addressed, own_register, register_target, statement_store, store_target, taken}
use Rattle.l32_target_operands.specs.l32_templates.specs.Homes.{home}
use Rattle.l32_target_operands.specs.l32_templates.specs.Filled.{register_in, operand_in}
use Rattle.l32_target_operands.specs.l32_target_meaning.specs.Reading.{named, reads}
use Rattle.l32_target_operands.specs.Scenes.{Scene, worth, filling_at, OwnIs, IsOwnRegister, IsOwnSlot, Sees}
use Rattle.l32_target_operands.specs.Places.{Stands, IsReadIfAny}
use Rattle.l32_target_operands.proofs.Worths.{cut_is}
use Rattle.l32_target_operands.proofs.Reading.{address_is, fetched_there, fetched_is_so, register_fetched, number_fetched}
use Rattle.l32_target_operands.proofs.Holes.{own_held, memory_read}
use Rattle.l32_target_lines.specs.Takings.{IsTarget, AreRead, CanAim, Evaluates, is_aimed}

-- ---- parts of a judgement

size_same : (a b : Size) → same_size a b ≡ true → a ≡ b
size_same Byte Byte e = refl
size_same Word Word e = refl
size_same Long Long e = refl
size_same _ _ e = absurd cc

-- an operand of the wrong size is told so
pub sized_right : (has wanted : Size) (x t : Taken) → ◌≡◌ {A = Result Taken TemplateKind} (Ok (sized has wanted x)) (Ok t) → t.missized ≡ false → (has ≡ wanted) × (x ≡ t)
sized_right has wanted x t e right = by (same_size has wanted) refl (ok_same (sized has wanted x) t e) where
  by : (b : Bool) → same_size has wanted ≡ b → cond b x taken_missized ≡ t → (has ≡ wanted) × (x ≡ t)
  by true is e = (size_same has wanted is, e)
  by false is e = absurd (let r : true ≡ false = ap (λ (y : Taken). y.missized) e ∙ right in cc)

not_false : (b : Bool) → not b ≡ false → b ≡ true
not_false true e = refl
not_false false e = absurd cc

long_is : (size : Size) → is_long size ≡ true → Long ≡ size
long_is Long e = refl
long_is _ e = absurd cc

-- what is written gives no term, and reads nothing
pub written_is : (x : Target × Bool) (t : Taken) → written x ≡ Ok t → (t.target ≡ Some x.0) × (t.missized ≡ x.1)
written_is x t e =
    let same = ok_same _ t e in
    (ap (λ (y : Taken). y.target) (sym same), ap (λ (y : Taken). y.missized) (sym same))

-- ---- what is read has no target

ok_plain : (x t : Taken) → x.target ≡ None → ◌≡◌ {A = Result Taken TemplateKind} (Ok x) (Ok t) → t.target ≡ None
ok_plain x t none e = ap (λ (y : Taken). y.target) (sym (ok_same x t e)) ∙ none

sized_plain : (has wanted : Size) (x t : Taken) → x.target ≡ None → ◌≡◌ {A = Result Taken TemplateKind} (Ok (sized has wanted x)) (Ok t) → t.target ≡ None
sized_plain has wanted x t none e = by (same_size has wanted) e where
  by : (b : Bool) → ◌≡◌ {A = Result Taken TemplateKind} (Ok (cond b x taken_missized)) (Ok t) → t.target ≡ None
  by true e = ok_plain x t none e
  by false e = ok_plain taken_missized t refl e

last_plain : (p : Opening) (z : Option Shape) (size : Size) (t : Taken) → last_result p z size ≡ Ok t → t.target ≡ None
last_plain opening.Save None size t e = ok_plain _ t refl e
last_plain _ _ size t e = absurd (err_ok _ t e)

cut_plain : (r : Result Shape TemplateKind) (size : Size) (t : Taken) → (r >>= cut_term size) ≡ Ok t → t.target ≡ None
cut_plain (Ok x) size t e = ok_plain _ t refl e
cut_plain (Err k) size t e = absurd (err_ok _ t e)

addressed_plain : (w : Where) (t : Taken) → addressed w ≡ Ok t → t.target ≡ None
addressed_plain (SavedPlace z i) t e = ok_plain _ t refl e
addressed_plain (At a p) t e = ok_plain _ t refl e
addressed_plain _ t e = absurd (err_ok _ t e)

number_plain : (w : Where) (t : Taken) → numbered w ≡ Ok t → t.target ≡ None
number_plain (Immediate x) t e = ok_plain _ t refl e
number_plain _ t e = absurd (err_ok _ t e)

-- what is taken of a register
registered_cut : (r : Result Shape TemplateKind) (t : Taken) → (r >>= cut_term Long) ≡ Ok t → (y : Shape) × (taken_term y ≡ t)
registered_cut (Ok x) t e = (x, ok_same (taken_term x) t e)
registered_cut (Err k) t e = absurd (err_ok _ t e)

registered_last : (p : Opening) (z : Option Shape) (t : Taken) → last_result p z Long ≡ Ok t → (y : Shape) × (taken_term y ≡ t)
registered_last opening.Save None t e = (LastResult, ok_same (taken_term LastResult) t e)
registered_last _ _ t e = absurd (err_ok _ t e)

pub registered_term : (s : Setting) (z : Option Shape) (w : Where) (t : Taken) → registered s z w ≡ Ok t → (y : Shape) × (taken_term y ≡ t)
unfolding fetched
registered_term s z (Register x) t e = (x, ok_same (taken_term x) t e)
registered_term s z OwnRegister t e = registered_cut (own_value s.own z) t e
registered_term s z RegisterZero t e = registered_last s.opening z t e
registered_term s z _ t e = absurd (err_ok _ t e)

module _ (s : Setting) (zero : Option Shape) where
  registered_is : (w : Where) (t : Taken) → registered s zero w ≡ Ok t → fetched s zero w Long ≡ Ok t
  registered_is (Register x) t e = e
  registered_is OwnRegister t e = e
  registered_is RegisterZero t e = e
  registered_is _ t e = absurd (err_ok _ t e)

  sourced_is : (w : Where) (size : Size) (t : Taken) → sourced s zero w size ≡ Ok t → fetched s zero w size ≡ Ok t
  sourced_is (Immediate x) size t e = absurd (err_ok _ t e)
  sourced_is _ size t e = e

  -- only what is written has a target
  fetched_plain : (w : Where) (size : Size) (t : Taken) → fetched s zero w size ≡ Ok t → t.target ≡ None
  unfolding fetched
  fetched_plain (Immediate x) size t e = ok_plain _ t refl e
  fetched_plain (Register x) size t e = ok_plain _ t refl e
  fetched_plain OwnRegister size t e = cut_plain (own_value s.own zero) size t e
  fetched_plain RegisterZero size t e = last_plain s.opening zero size t e
  fetched_plain (Value z i) size t e = sized_plain z size _ t refl e
  fetched_plain (Place z i) size t e = sized_plain z size _ t refl e
  fetched_plain (Local i) size t e = sized_plain Long size _ t refl e
  fetched_plain (SavedPlace z i) size t e = sized_plain z size _ t refl e
  fetched_plain (Saved i) size t e = absurd (err_ok _ t e)
  fetched_plain (At a p) size t e = ok_plain _ t refl e

  -- what is only read has no target
  pub plain_taken : (role : Role) (w : Where) (t : Taken) → is_aimed role ≡ false → taken s zero role w ≡ Ok t → t.target ≡ None
  unfolding taken
  plain_taken roles.Number w t p e = number_plain w t e
  plain_taken roles.Words w t p e = absurd (err_ok _ t e)
  plain_taken roles.Count w t p e = absurd (err_ok _ t e)
  plain_taken roles.Destination w t p e = absurd cc
  plain_taken roles.Register w t p e = fetched_plain w Long t (registered_is w t e)
  plain_taken (roles.Source size) w t p e = fetched_plain w size t (sourced_is w size t e)
  plain_taken (roles.Store size) w t p e = absurd cc
  plain_taken roles.Address w t p e = addressed_plain w t e

-- ---- what the hole stands for of an operand that stands at a symbol's own place

abbrev pub IsOfRole : List Hole → Where → Type 0
IsOfRole hs (Place z i) = hole_at hs i ≡ hole_kind.Place z
IsOfRole hs (Local i) = hole_at hs i ≡ hole_kind.Local
IsOfRole hs (Saved i) = hole_at hs i ≡ hole_kind.Saved
IsOfRole hs w = Unit {0}

module _ (s : Setting) (hs : List Hole) (zero : Option Shape) where
  hole_role : (r : Hole) (i : ℕ) → hole_at hs i ≡ r → EachOk (IsOfRole hs) (where_hole r i)
  hole_role (hole_kind.Place z) i is = is
  hole_role hole_kind.Local i is = is
  hole_role hole_kind.Saved i is = is
  hole_role r i is = tt

  own_role : (o : Own) → EachOk (IsOfRole hs) (where_own o)
  own_role own.Nothing = tt
  own_role o = tt

  zero_role : (o : Opening) → EachOk (IsOfRole hs) (where_zero o)
  zero_role opening.Other = tt
  zero_role o = tt

  deferred_role : (r : Hole) (i : ℕ) → EachOk (IsOfRole hs) (where_deferred r i)
  deferred_role hole_kind.Local i = tt
  deferred_role r i = tt

  term_role : (r : Result Shape TemplateKind) (g : Shape → Result Where TemplateKind) → ((t : Shape) → EachOk (IsOfRole hs) (g t)) → EachOk (IsOfRole hs) (r >>= g)
  term_role (Ok t) g h = h t
  term_role (Err k) g h = tt

  form_role : (f : Form) → EachOk (IsOfRole hs) (form_where s hs zero f)
  unfolding form_where
  form_role form.RegisterZero = zero_role s.opening
  form_role (form.Hole i) =
      if_ok (IsOfRole hs) (i == 0) (where_own s.own) (where_hole (hole_at hs i) i) (λ e. own_role s.own) (λ e. hole_role (hole_at hs i) i refl)
  form_role (form.Immediate n) = term_role (absolute_term hs n) itself (λ t. tt)
  form_role (form.Negative i) = term_role (constant_of (hole_at hs i) i) negated (λ t. tt)
  form_role (form.Displacement n i) = term_role (displaced (absolute_term hs n) (register_term s hs zero i)) at (λ t. tt)
  form_role (form.DisplacementDeferred n i) = term_role (displaced (absolute_term hs n) (register_term s hs zero i)) pointed (λ t. tt)
  form_role (form.Deferred i) = deferred_role (hole_at hs i) i

  pub role_so : (f : Form) (w : Where) → form_where s hs zero f ≡ Ok w → IsOfRole hs w
  role_so f w e = of_ok (IsOfRole hs) (form_where s hs zero f) w e (form_role f)

-- a pointer is read with what it points to
pointer_safe_of : (c : Scene) (a : Shape) (q : Option Shape) → (q ≡ None) ⊎ (q ≡ Some a) → IsRead c.view a → IsReadIfAny c q
pointer_safe_of c a q (inl e) safe = subst (IsReadIfAny c) (sym e) tt
pointer_safe_of c a q (inr e) safe = subst (IsReadIfAny c) (sym e) safe

module _ (c : Scene) (zero : Option Shape) (m : State) (h : Sees c zero m) where
  pointer_safe : (a : Shape) (q : Option Shape) → (q ≡ None) ⊎ (q ≡ Some a) → IsRead c.view a → IsReadIfAny c q
  pointer_safe a q is safe = pointer_safe_of c a q is safe

  -- a number that the machine reads
  gives_number : (role : Role) (o : Operand32) (t u : Taken) (v : ℕ) → machine.evaluated m role o ≡ Ok (evaluations.Number v) → u.target ≡ None → v ≡ worth c u.term → u ≡ t
      → Evaluates c m role o t
  gives_number role o t u v is none same e =
      subst (Evaluates c m role o) e (record { given = evaluations.Number v; is = is; so = (none, same) })

  -- an operand that is read at a size
  abbrev Reads : Operand32 → Size → Taken → Type 0
  Reads o size t = (v : ℕ) × (machine.fetched m size o ≡ Ok v) × (t.target ≡ None) × (v ≡ worth c t.term)

  own_operand_is : c.setting.own ≡ own.Register → (n : ℕ) × (c.own ≡ attr.Reg n) × (n < 12)
  own_operand_is is = let o : IsOwnRegister c = subst (OwnIs c) is h.own_is in (o.number, o.is, o.low)

  value_own : (o : Own) (z : Option Shape) (t : Shape) → own_value o z ≡ Ok t → o ≡ own.Register
  value_own own.Register (Some x) t e = refl
  value_own _ _ t e = absurd (err_ok _ t e)

  register_read : (size : Size) (o : Operand32) (n : ℕ) (x : Shape) (t : Taken) → o ≡ operands.Reg n → reg m n ≡ worth c x → cut_term size x ≡ Ok t → Reads o size t
  register_read size o n x t is holds e =
      subst (Reads o size) (ok_same (taken_term (truncated size x)) t e)
      (low size (reg m n), ap (machine.fetched m size) is ∙ register_fetched m n size, refl, cut_is c size x (reg m n) holds)

  own_read : (size : Size) (o : Operand32) (t : Taken) → o ≡ operand_in c.program c.own → (own_value c.setting.own zero >>= cut_term size) ≡ Ok t → Reads o size t
  own_read size o t is e =
      let d = chained (own_value c.setting.own zero) (cut_term size) t e in
      let own_so = own_operand_is (value_own c.setting.own zero d.first d.is) in
      let held = own_held c m c.setting.own zero d.first h.holds d.is in
      register_read size o own_so.0 d.first t (is ∙ ap (operand_in c.program) own_so.1) (ap (λ a. reg m (register_in a)) (sym own_so.1) ∙ held) d.then_so

  zero_read : (size : Size) (o : Operand32) (t : Taken) → o ≡ operands.Reg 0 → last_result c.setting.opening zero size ≡ Ok t → Reads o size t
  zero_read size o t is e = by c.setting.opening zero refl refl e where
    by : (p : Opening) (z : Option Shape) → c.setting.opening ≡ p → zero ≡ z → last_result p z size ≡ Ok t → Reads o size t
    by opening.Save None p z e = register_read size o 0 LastResult t is (h.answered p z) e
    by _ _ p z e = absurd (err_ok _ t e)

  local_read : (o : Operand32) (size : Size) (i : ℕ) (t : Taken) → reads o Long m ≡ Some (worth c (Symbol i)) → Long ≡ size → taken_term (Symbol i) ≡ t → Reads o size t
  local_read o size i t holds same e =
      subst (Reads o size) e (worth c (Symbol i), fetched_is_so m o size (worth c (Symbol i)) (subst (λ z. reads o z m ≡ Some (worth c (Symbol i))) same holds), refl, refl)

  -- what is read
  read_so : (w : Where) (o : Operand32) (size : Size) (t : Taken) → Stands c m o w → fetched c.setting zero w size ≡ Ok t → t.missized ≡ false → AreRead c t.reads
      → Reads o size t
  unfolding fetched
  read_so (Immediate x) o size t s e right calm =
      subst (Reads o size) (ok_same (taken_term (truncated size x)) t e)
      (low size (worth c x), ap (machine.fetched m size) s ∙ number_fetched m (worth c x) size, refl, cut_is c size x (worth c x) refl)
  read_so (Register x) o size t s e right calm = register_read size o s.register x t s.is s.holds e
  read_so OwnRegister o size t s e right calm = own_read size o t s e
  read_so RegisterZero o size t s e right calm = zero_read size o t s e
  read_so (Value z i) o size t s e right calm =
      let r = sized_right z size (taken_term (Symbol i)) t e right in
      subst (Reads o size) r.1 (worth c (Symbol i), fetched_is_so m o size (worth c (Symbol i)) (subst (λ y. reads o y m ≡ Some (worth c (Symbol i))) r.0 s), refl, refl)
  read_so (Place z i) o size t s e right calm =
      let r = sized_right z size (taken_read (Symbol i)) t e right in
      let some = (subst (λ (y : Taken). AreRead c y.reads) (sym r.1) calm).0 in
      let there = ap (λ x. reads x z m) s.0 ∙ s.1.holds some in
      subst (Reads o size) r.1 (worth c (Symbol i), fetched_is_so m o size (worth c (Symbol i)) (subst (λ y. reads o y m ≡ Some (worth c (Symbol i))) r.0 there), refl, refl)
  read_so (Local i) o size t s e right calm =
      let r = sized_right Long size (taken_term (Symbol i)) t e right in
      local_read o size i t (ap (λ x. reads x Long m) s.0 ∙ s.1.holds) r.0 r.1
  read_so (SavedPlace z i) o size t s e right calm =
      let r = sized_right z size (taken_read (Memory z (Symbol i))) t e right in
      let safe = (subst (λ (y : Taken). AreRead c y.reads) (sym r.1) calm).0 in
      subst (Reads o size) r.1
      (subst (λ y. Reads o y (taken_read (Memory z (Symbol i)))) r.0
      (worth c (Memory z (Symbol i)), fetched_there m o z (worth c (Symbol i)) s ∙ memory_read c zero m h z (Symbol i) (worth c (Symbol i)) refl safe, refl, refl))
  read_so (Saved i) o size t s e right calm = absurd (err_ok _ t e)
  read_so (At a p) o size t s e right calm =
      let same = ok_same (taken_read (Memory size a)) t e in
      let safe = (subst (λ (y : Taken). AreRead c y.reads) (sym same) calm).0 in
      let there = s.named_so (pointer_safe a p s.pointer safe.0) in
      subst (Reads o size) same (worth c (Memory size a), fetched_there m o size (worth c a) there ∙ memory_read c zero m h size a (worth c a) refl safe, refl, refl)

  -- ---- what is written

  goes : (role : Role) (o : Operand32) (t : Taken) (to : Target) (d : Destination) → machine.evaluated m role o ≡ Ok (evaluations.Goes d) → t.target ≡ Some to → IsTarget c m to d
      → Evaluates c m role o t
  goes role o t to d is target so = record { given = evaluations.Goes d; is = is; so = (to, target, so) }

  destination_taken : (w : Where) (o : Operand32) (t : Taken) → Stands c m o w → (register_target c.setting w >>= written) ≡ Ok t → Evaluates c m roles.Destination o t
  unfolding machine.evaluated
  destination_taken OwnRegister o t s e =
      let d = chained (own_register c.setting.own) written t e in by c.setting.own refl d.first d.is (written_is d.first t d.then_so).0
    where
      by : (p : Own) → c.setting.own ≡ p → (x : Target × Bool) → own_register p ≡ Ok x → t.target ≡ Some x.0 → Evaluates c m roles.Destination o t
      by own.Register p x is target =
          let n = own_operand_is p in
          goes roles.Destination o t ToOwn (destinations.Register n.0) (ap register_of (s ∙ ap (operand_in c.program) n.1))
          (target ∙ ap (λ (y : Target × Bool). Some y.0) (sym (ok_same (ToOwn, false) x is))) (n.1, n.2, p)
      by _ p x is target = absurd (err_ok _ x is)
  destination_taken RegisterZero o t s e =
      let d = chained (cond c.setting.is_statement (zero_target c.setting.opening) (Err NotInstr)) written t e in
      by c.setting.is_statement refl c.setting.opening d.first d.is (written_is d.first t d.then_so).0
    where
      by : (b : Bool) → c.setting.is_statement ≡ b → (p : Opening) → (x : Target × Bool) → cond b (zero_target p) (Err NotInstr) ≡ Ok x → t.target ≡ Some x.0
          → Evaluates c m roles.Destination o t
      by true b opening.Return x is target =
          goes roles.Destination o t ToZero (destinations.Register 0) (ap register_of s) (target ∙ ap (λ (y : Target × Bool). Some y.0) (sym (ok_same (ToZero, false) x is))) (refl, b)
      by true b _ x is target = absurd (err_ok _ x is)
      by false b p x is target = absurd (err_ok _ x is)
  destination_taken _ o t s e = absurd (err_ok _ t e)

  -- memory at an address that is named
  stores : (size : Size) (o : Operand32) (t : Taken) (to : Target) (a : ℕ) → named m o ≡ Some a → t.target ≡ Some to → IsTarget c m to (destinations.Memory a size)
      → Evaluates c m (roles.Store size) o t
  unfolding machine.evaluated
  stores size o t to a is target so =
      goes (roles.Store size) o t to (destinations.Memory a size)
      (ap (λ (r : Result ℕ Stop32). state.◌>>=◌ r (λ (x : ℕ). Ok (evaluations.Goes (destinations.Memory x size)))) (address_is m o a is)) target so

  -- a home's address can always be named
  home_named : (o : Operand32) (k : ℕ) → o ≡ home k → (a : ℕ) × (named m o ≡ Some a)
  home_named o k is = (_, ap (named m) is)

  statement_taken : (p : Own) → c.setting.own ≡ p → c.setting.is_statement ≡ true → (w : Where) (o : Operand32) (size : Size) (x : Target × Bool) (t : Taken) → Stands c m o w → IsOfRole c.roles w
      → statement_store p w size ≡ Ok x → written x ≡ Ok t → t.missized ≡ false → CanAim c t.target → Evaluates c m (roles.Store size) o t
  statement_taken (own.Slot z) p st OwnRegister o size x t s u e wr right aim =
      let slot : IsOwnSlot c = subst (OwnIs c) p h.own_is in
      let is : operand_in c.program c.own ≡ home slot.word = ap (operand_in c.program) slot.is in
      let there = home_named (operand_in c.program c.own) slot.word is in
      stores size o t (ToSlot size) there.0 (ap (named m) s ∙ there.1) ((written_is x t wr).0 ∙ ap (λ (y : Target × Bool). Some y.0) (sym (ok_same _ x e)))
      (refl, there.1, (z, p))
  statement_taken p is st (Place z i) o size x t s u e wr right aim =
      stores size o t (ToHome size i) s.1.address (ap (named m) s.0 ∙ s.1.named_so) ((written_is x t wr).0 ∙ ap (λ (y : Target × Bool). Some y.0) (sym (ok_same _ x e)))
      (refl, s.1.named_so, st)
  statement_taken p is st (Local i) o size x t s u e wr right aim =
      stores size o t (ToHome size i) s.1.address (ap (named m) s.0 ∙ s.1.named_so) ((written_is x t wr).0 ∙ ap (λ (y : Target × Bool). Some y.0) (sym (ok_same _ x e)))
      (refl, s.1.named_so, st)
  statement_taken p is st (Saved i) o size x t s u e wr right aim =
      let there = home_named (operand_in c.program (filling_at c i)) s.1.local s.1.is in
      stores size o t (ToSaved i) there.0 (ap (named m) s.0 ∙ there.1) ((written_is x t wr).0 ∙ ap (λ (y : Target × Bool). Some y.0) (sym (ok_same _ x e)))
      (there.1, st, u)
  statement_taken p is st (At a q) o size x t s u e wr right aim =
      let to = (written_is x t wr).0 ∙ ap (λ (y : Target × Bool). Some y.0) (sym (memory_is p a size x e)) in
      let safe : IsRead c.view a = subst (CanAim c) to aim st in
      stores size o t (ToMemory size a) (worth c a) (s.named_so (pointer_safe a q s.pointer safe)) to (refl, refl, st)
    where
      memory_is : (p : Own) (a : Shape) (size : Size) (x : Target × Bool) → memory_target p a size ≡ Ok x → (ToMemory size a, false) ≡ x
      memory_is (own.Slot z) a size x e = absurd (err_ok _ x e)
      memory_is own.Nothing a size x e = ok_same (ToMemory size a, false) x e
      memory_is own.Register a size x e = ok_same (ToMemory size a, false) x e
  statement_taken p is st w o size x t s u e wr right aim = absurd (err_ok _ x e)

  store_taken : (w : Where) (o : Operand32) (size : Size) (t : Taken) → Stands c m o w → IsOfRole c.roles w → (store_target c.setting w size >>= written) ≡ Ok t → t.missized ≡ false
      → CanAim c t.target → Evaluates c m (roles.Store size) o t
  store_taken w o size t s u e right aim =
      let d = chained (store_target c.setting w size) written t e in
      by c.setting.is_statement refl d.first d.is d.then_so
    where
      by : (b : Bool) → c.setting.is_statement ≡ b → (x : Target × Bool) → cond b (statement_store c.setting.own w size) (Err NotInstr) ≡ Ok x → written x ≡ Ok t
          → Evaluates c m (roles.Store size) o t
      by true b x is wr = statement_taken c.setting.own refl b w o size x t s u is wr right aim
      by false b x is wr = absurd (err_ok _ x is)

  -- ---- one operand

  number_taken : (w : Where) (o : Operand32) (t : Taken) → Stands c m o w → numbered w ≡ Ok t → Evaluates c m roles.Number o t
  unfolding machine.evaluated
  number_taken (Immediate x) o t s e =
      gives_number roles.Number o t (taken_term x) (worth c x) (ap as_number (ap (machine.fetched m Long) s ∙ number_fetched m (worth c x) Long)) refl refl (ok_same (taken_term x) t e)
  number_taken _ o t s e = absurd (err_ok _ t e)

  register_taken : (o : Operand32) (t : Taken) → Reads o Long t → Evaluates c m roles.Register o t
  unfolding machine.evaluated
  register_taken o t r = gives_number roles.Register o t t r.0 (ap as_number r.1) r.2 r.3 refl

  source_taken : (o : Operand32) (size : Size) (t : Taken) → Reads o size t → Evaluates c m (roles.Source size) o t
  unfolding machine.evaluated
  source_taken o size t r = gives_number (roles.Source size) o t t r.0 (ap as_number r.1) r.2 r.3 refl

  address_taken : (w : Where) (o : Operand32) (t : Taken) → Stands c m o w → addressed w ≡ Ok t → AreRead c t.reads → Evaluates c m roles.Address o t
  unfolding machine.evaluated
  address_taken (At a p) o t s e calm =
      let same = ok_same _ t e in
      let there = s.named_so (read_if p (subst (λ (y : Taken). AreRead c y.reads) (sym same) calm)) in
      gives_number roles.Address o t (record { term = a; reads = pointer_read p; target = None; missized = false }) (worth c a) (ap as_number (address_is m o (worth c a) there)) refl refl same
    where
      read_if : (p : Option Shape) → AreRead c (pointer_read p) → IsReadIfAny c p
      read_if None calm = tt
      read_if (Some q) calm = calm.0
  address_taken (SavedPlace z i) o t s e calm =
      gives_number roles.Address o t (taken_term (Symbol i)) (worth c (Symbol i)) (ap as_number (address_is m o (worth c (Symbol i)) s)) refl refl (ok_same _ t e)
  address_taken _ o t s e calm = absurd (err_ok _ t e)

  pub one_taken : (role : Role) (w : Where) (o : Operand32) (t : Taken) → Stands c m o w → IsOfRole c.roles w → taken c.setting zero role w ≡ Ok t → t.missized ≡ false
      → (t.target ≡ None → AreRead c t.reads) → CanAim c t.target → Evaluates c m role o t
  unfolding taken
  one_taken roles.Number w o t s u e right calm aim = number_taken w o t s e
  one_taken roles.Words w o t s u e right calm aim = absurd (err_ok _ t e)
  one_taken roles.Count w o t s u e right calm aim = absurd (err_ok _ t e)
  one_taken roles.Destination w o t s u e right calm aim = destination_taken w o t s e
  one_taken roles.Register w o t s u e right calm aim =
      register_taken o t (read_so w o Long t s (registered_is c.setting zero w t e) right (calm (fetched_plain c.setting zero w Long t (registered_is c.setting zero w t e))))
  one_taken (roles.Source size) w o t s u e right calm aim =
      source_taken o size t (read_so w o size t s (sourced_is c.setting zero w size t e) right (calm (fetched_plain c.setting zero w size t (sourced_is c.setting zero w size t e))))
  one_taken (roles.Store size) w o t s u e right calm aim = store_taken w o size t s u e right aim
  one_taken roles.Address w o t s u e right calm aim = address_taken w o t s e (calm (addressed_plain w t e))
