-- An operand that stands at an address names it.
use Rattle.std.proofs.Common.{◌≡◌, ℕ, ◌^◌, ◌<◌, ◌==◌, Bool, true, false, cond, Option, Some, None, Result, Ok, refl, sym, ap, subst, ◌∙◌, option_map}
use Rattle.std.proofs.lemmas.Bool.{lt-ltb}
use Rattle.gg_base.specs.declared.size.Size.{Size}
use Rattle.gg_base.specs.declared.size.Size.TheVariants.{Long}
use Rattle.gg_base.specs.Arithmetic.{add32}
use Rattle.gg_base.proofs.Facts.{err_ok, ok_same}
use Rattle.tree_core.specs.Area as trees
use Rattle.term_core.specs.Shape.{Shape, Symbol, Memory}
use Rattle.term_core.proofs.Values.{small}
use Rattle.vax_templates.specs.sel_target.specs.declared.fault.TemplateKind.{TemplateKind}
use Rattle.vax_templates.specs.sel_target.specs.Values.{term_state, IsRead}
use Rattle.vax_templates.specs.sel_target.proofs.AreaBytes.{fetched_is}
use Rattle.vax_core.specs.declared.register.Reg.{Reg}
use Rattle.vax_core.specs.declared.operand.Addr.{Addr}
use Rattle.vax_core.specs.declared.operand.Base.TheVariants as bases
use Rattle.vax_core.specs.declared.operand.Operand.{Operand}
use Rattle.vax_target_reading.specs.vax_machine.specs.State.{State, reg}
use Rattle.vax_target_reading.specs.vax_machine.specs.Area.{resolved}
use Rattle.vax_templates.specs.declared.form.Base.{Base}
use Rattle.vax_templates.specs.declared.form.Base.TheVariants as base
use Rattle.vax_templates.specs.declared.form.Form.{Form}
use Rattle.vax_templates.specs.declared.setting.Hole.{Hole}
use Rattle.vax_templates.specs.declared.setting.Hole.TheVariants as hole_kind
use Rattle.vax_templates.specs.declared.setting.Own.{Own}
use Rattle.vax_templates.specs.declared.setting.Own.TheVariants as own
use Rattle.vax_templates.specs.declared.setting.Opening.{Opening}
use Rattle.vax_templates.specs.declared.setting.Opening.TheVariants as opening
use Rattle.vax_templates.specs.Standing.{Where, Immediate, Register, OwnRegister, RegisterZero, Value, Place, Local}
use Rattle.vax_templates.specs.Standing.{SavedPlace, Saved, At, sum, scaled, through, at, pointed, itself, negated}
use Rattle.vax_templates.specs.Standing.{displaced, where_own, where_hole, where_zero, where_deferred, where_base}
use Rattle.vax_templates.specs.Standing.{moved, where_indexed, form_where, ◌>>=◌}
use Rattle.vax_templates.specs.HoleTerms.{constant_of, number_term, absolute_term, register_term}
use Rattle.vax_templates.specs.Judging.{is_operand}
use Rattle.vax_templates.specs.Filled.{register_in, addr_in, number_addr, operand_in, deferred_in, filled_base, with_index, filled}
use Rattle.vax_target_operands.specs.vax_target_meaning.specs.Reading as reading
use Rattle.vax_target_operands.specs.vax_target_meaning.specs.Reading.{longword, displaced as displaced_by, is_own, named, names}
use Rattle.vax_target_operands.specs.Scenes.{Scene, worth, role_at, filling_at, Means, Sees}
use Rattle.vax_target_operands.specs.Places.{BaseIsShort}
use Rattle.vax_target_operands.proofs.Binds.{chained}
use Rattle.vax_target_operands.proofs.Holes.{area_bytes, memory_read, number_is, absolute_is, register_is}
use Rattle.vax_target_operands.proofs.Forms.{displaced_is}
use Rattle.vax_target_operands.proofs.Worths.{scaled_is}

pub is_longword : (n : ℕ) → n < 2 ^ 32 → longword n ≡ Some n
is_longword n lt = ap (λ b. cond b (Some n) None) (lt-ltb n (2 ^ 32) lt)

module _ (c : Scene) (m : State) (h : Sees c None m) where
  abbrev F : Base → Operand
  F b = filled_base c.program c.holes c.own b

  -- an operand without index that names an address
  pub record IsAt (o : Operand) (a : Shape) : Type 0 where
    pub plain : o.index ≡ None
    pub named_so : named m o.base ≡ Some (worth c a)

  -- where an operand stands at an address whose pointer can be read, it names the address; and the pointer is the address itself
  abbrev pub Names : Where → Operand → Type 0
  Names (At a None) o = IsAt o a
  Names (At a (Some p)) o = (p ≡ a) × (IsRead c.view p → IsAt o a)
  Names w o = Unit {0}

  -- memory of the data area
  pub in_area : (size : Size) (a : Shape) (x : ℕ) → x ≡ worth c a → IsRead c.view (Memory size a) → trees.fetched size m.area x ≡ Some (worth c (Memory size a))
  in_area size a x e safe =
      ap (λ l. trees.fetched size l x) h.area ∙ ap (trees.fetched size c.view.state.area) e ∙ fetched_is c.view size (worth c a) (area_bytes c None m h) (safe.1 refl)

  at_names : (o : Operand) (t : Shape) (w : Where) → at t ≡ Ok w → IsAt o t → Names w o
  at_names o t w e k = subst (λ x. Names x o) (ok_same (At t None) w e) k

  through_names : (o : Operand) (t : Shape) (w : Where) → pointed t ≡ Ok w → (IsRead c.view (Memory Long t) → IsAt o (Memory Long t)) → Names w o
  through_names o t w e k = subst (λ x. Names x o) (ok_same (through t) w e) (refl, k)

  own_names : (x : Own) (o : Operand) (w : Where) → where_own x ≡ Ok w → Names w o
  own_names own.Nothing o w e = absurd (err_ok _ w e)
  own_names own.Register o w e = subst (λ x. Names x o) (ok_same OwnRegister w e) tt
  own_names (own.Slot z) o w e = subst (λ x. Names x o) (ok_same OwnRegister w e) tt

  zero_names : (x : Opening) (o : Operand) (w : Where) → where_zero x ≡ Ok w → Names w o
  zero_names opening.Return o w e = subst (λ x. Names x o) (ok_same RegisterZero w e) tt
  zero_names opening.Save o w e = subst (λ x. Names x o) (ok_same RegisterZero w e) tt
  zero_names opening.Other o w e = absurd (err_ok _ w e)

  object_is : (a : Addr) (t : Shape) → resolved m.layout a ≡ worth c t → named m (bases.Rel a) ≡ Some (worth c t)
  object_is a t e = ap longword e ∙ is_longword (worth c t) (small (term_state c.view) t)

  hole_names : (r : Hole) (i : ℕ) (w : Where) → Means c m r i (filling_at c i) → where_hole r i ≡ Ok w → Names w (operand_in c.program (filling_at c i))
  hole_names hole_kind.Register i w k e = subst (λ x. Names x (operand_in c.program (filling_at c i))) (ok_same (Register (Symbol i)) w e) tt
  hole_names (hole_kind.Value z) i w k e = subst (λ x. Names x (operand_in c.program (filling_at c i))) (ok_same (Value z i) w e) tt
  hole_names (hole_kind.Place z) i w k e = subst (λ x. Names x (operand_in c.program (filling_at c i))) (ok_same (Place z i) w e) tt
  hole_names hole_kind.Local i w k e = subst (λ x. Names x (operand_in c.program (filling_at c i))) (ok_same (Local i) w e) tt
  hole_names (hole_kind.SavedPlace z) i w k e = subst (λ x. Names x (operand_in c.program (filling_at c i))) (ok_same (SavedPlace z i) w e) tt
  hole_names hole_kind.Address i w k e =
      subst (λ x. Names x (operand_in c.program (filling_at c i))) (ok_same (At (Symbol i) None) w e) (record { plain = k.plain; named_so = k.named_so })
  hole_names hole_kind.Object i w k e =
      subst (λ x. Names x (operand_in c.program (filling_at c i))) (ok_same (At (Symbol i) None) w e)
      (subst (λ o. IsAt o (Symbol i)) (sym k.operand_is) (record { plain = refl; named_so = object_is (addr_in c.program (filling_at c i)) (Symbol i) k.address }))
  hole_names hole_kind.Saved i w k e = subst (λ x. Names x (operand_in c.program (filling_at c i))) (ok_same (Saved i) w e) tt
  hole_names _ i w k e = absurd (err_ok _ w e)

  deferred_names : (r : Hole) (i : ℕ) (w : Where) → Means c m r i (filling_at c i) → where_deferred r i ≡ Ok w → Names w (deferred_in c.program (filling_at c i))
  deferred_names hole_kind.Local i w k e =
      subst (λ x. Names x (deferred_in c.program (filling_at c i))) (ok_same (At (Symbol i) None) w e) (record { plain = k.plain; named_so = k.deferred })
  deferred_names hole_kind.Object i w k e =
      through_names (deferred_in c.program (filling_at c i)) (Symbol i) w e
      (λ safe. subst (λ o. IsAt o (Memory Long (Symbol i))) (sym k.deferred_is)
      (record { plain = refl; named_so = in_area Long (Symbol i) (resolved m.layout (addr_in c.program (filling_at c i))) k.address safe }))
  deferred_names _ i w k e = absurd (err_ok _ w e)

  -- `%0` isn't written yet, so each hole means what it stands for
  pub all_mean : (i : ℕ) → Means c m (role_at c i) i (filling_at c i)
  all_mean i = h.means i (λ lost. absurd (cc))

  alone_names : (i : ℕ) (w : Where) → cond (i == 0) (where_own c.setting.own) (where_hole (role_at c i) i) ≡ Ok w → Names w (operand_in c.program (filling_at c i))
  alone_names i w e = by (i == 0) e where
    by : (b : Bool) → cond b (where_own c.setting.own) (where_hole (role_at c i) i) ≡ Ok w → Names w (operand_in c.program (filling_at c i))
    by true e = own_names c.setting.own (operand_in c.program (filling_at c i)) w e
    by false e = hole_names (role_at c i) i w (all_mean i) e

  no_at : (o : Operand) (t : Shape) (w : Where) → ◌≡◌ {A = Result Where TemplateKind} (Ok (Immediate t)) (Ok w) → Names w o
  no_at o t w e = subst (λ x. Names x o) (ok_same (Immediate t) w e) tt

  may : (i : ℕ) → false ≡ true → is_operand (role_at c i) ≡ false
  may i lost = absurd (cc)

  pointer_at : (r : Reg) (a : Addr) (t : Shape) → displaced_by m r a ≡ worth c t → IsRead c.view (Memory Long t) →
      reading.number_at (is_own r a) m (displaced_by m r a) Long ≡ Some (worth c (Memory Long t))
  pointer_at r a t e safe = by (is_own r a) where
    by : (b : Bool) → reading.number_at b m (displaced_by m r a) Long ≡ Some (worth c (Memory Long t))
    by true = ap reading.number_of (memory_read c None m h Long t (displaced_by m r a) e safe)
    by false = in_area Long t (displaced_by m r a) e safe

  base_names : (b : Base) (w : Where) → BaseIsShort b → where_base c.setting c.roles None b ≡ Ok w → Names w (F b)
  unfolding where_base filled_base
  base_names base.RegisterZero w short e = zero_names c.setting.opening _ w e
  base_names (base.Hole i) w short e = alone_names i w e
  base_names (base.Immediate n) w short e = let d = chained (number_term c.roles n) itself w e in no_at (F (base.Immediate n)) d.first w d.then_so
  base_names (base.Negative i) w short e = let d = chained (constant_of (role_at c i) i) negated w e in no_at (F (base.Negative i)) _ w d.then_so
  base_names (base.RegisterDeferred i) w short e =
      let d = chained (register_term c.setting c.roles None i) at w e in
      at_names (F (base.RegisterDeferred i)) d.first w d.then_so (record { plain = refl; named_so = ap Some (register_is c None m h i d.first (may i) d.is) })
  base_names (base.Displacement n i) w short e =
      let d = chained (displaced (number_term c.roles n) (register_term c.setting c.roles None i)) at w e in
      let s = displaced_is (number_term c.roles n) (register_term c.setting c.roles None i) d.first d.is in
      at_names (F (base.Displacement n i)) d.first w d.then_so
      (record {
        plain = refl;
        named_so = ap (λ (x : ℕ). Some (add32 x (reg m (register_in (filling_at c i))))) (number_is c None m h n s.0 short s.2)
            ∙ ap (λ (x : ℕ). Some (add32 (worth c s.0) x)) (register_is c None m h i s.1 (may i) s.3) ∙ ap (λ (x : Shape). Some (worth c x)) s.4;
      })
  base_names (base.DisplacementDeferred n i) w short e =
      let d = chained (displaced (number_term c.roles n) (register_term c.setting c.roles None i)) pointed w e in
      let s = displaced_is (number_term c.roles n) (register_term c.setting c.roles None i) d.first d.is in
      let same = ap (λ (x : ℕ). add32 x (reg m (register_in (filling_at c i)))) (number_is c None m h n s.0 short s.2)
      ∙ ap (λ (x : ℕ). add32 (worth c s.0) x) (register_is c None m h i s.1 (may i) s.3) ∙ ap (λ (x : Shape). worth c x) s.4 in
      through_names (F (base.DisplacementDeferred n i)) d.first w d.then_so
      (λ safe. record { plain = refl; named_so = pointer_at (register_in (filling_at c i)) (number_addr c.program c.holes c.own n) d.first same safe })
  base_names (base.Absolute n) w short e =
      let d = chained (absolute_term c.roles n) at w e in
      at_names (F (base.Absolute n)) d.first w d.then_so
      (record {
        plain = refl;
        named_so = ap longword (absolute_is c None m h n d.first short d.is) ∙ is_longword (worth c d.first) (small (term_state c.view) d.first);
      })
  base_names (base.Deferred i) w short e = deferred_names (role_at c i) i w (all_mean i) e

  -- ---- with an index

  moved_none : (o : Operand) (size : Size) (a : Shape) → IsAt o a → names o size m ≡ Some (worth c a)
  moved_none o size a k =
      ap (λ i. option_map (reading.moved m i size) (named m o.base)) k.plain ∙ ap (option_map (reading.moved m None size)) k.named_so

  moved_some : (o : Operand) (r : Reg) (size : Size) (a t : Shape) → IsAt o a → reg m r ≡ worth c t → names (record o { index = Some r }) size m ≡ Some (worth c (sum a (scaled size t)))
  moved_some o r size a t k e =
      ap (option_map (reading.moved m (Some r) size)) k.named_so ∙ ap (λ (x : ℕ). Some (add32 (worth c a) x)) (scaled_is c size t (reg m r) e)

  -- where an operand stands at an address that can be read, it names it
  abbrev pub NamesAt : Where → Operand → Size → Type 0
  NamesAt (At a p) o size = IsRead c.view a → names o size m ≡ Some (worth c a)
  NamesAt w o size = Unit {0}

  plainly : (w : Where) (o : Operand) (size : Size) → Names w o → NamesAt w o size
  plainly (At a None) o size k = λ safe. moved_none o size a k
  plainly (At a (Some p)) o size k = λ safe. moved_none o size a (k.1 (subst (IsRead c.view) (sym k.0) safe))
  plainly (Immediate t) o size k = tt
  plainly (Register t) o size k = tt
  plainly OwnRegister o size k = tt
  plainly RegisterZero o size k = tt
  plainly (Value z i) o size k = tt
  plainly (Place z i) o size k = tt
  plainly (Local i) o size k = tt
  plainly (SavedPlace z i) o size k = tt
  plainly (Saved i) o size k = tt

  at_some : (o : Operand) (r : Reg) (size : Size) (a t : Shape) (p : Option Shape) → Names (At a p) o → reg m r ≡ worth c t → IsRead c.view (sum a (scaled size t)) →
      names (record o { index = Some r }) size m ≡ Some (worth c (sum a (scaled size t)))
  at_some o r size a t None k e safe = moved_some o r size a t k e
  at_some o r size a t (Some p) k e safe = moved_some o r size a t (k.1 (subst (IsRead c.view) (sym k.0) safe.0)) e

  by_index : (u w : Where) (o : Operand) (r : Reg) (t : Shape) (size : Size) → Names u o → reg m r ≡ worth c t → moved size u t ≡ Ok w → NamesAt w (record o { index = Some r }) size
  by_index (At a p) w o r t size k e is =
      subst (λ x. NamesAt x (record o { index = Some r }) size) (ok_same (At (sum a (scaled size t)) p) w is) (λ safe. at_some o r size a t p k e safe)
  by_index _ w o r t size k e is = absurd (err_ok _ w is)

  names_by : (b : Base) (index : Option ℕ) (w : Where) (size : Size) → BaseIsShort b →
      (where_base c.setting c.roles None b >>= where_indexed c.setting c.roles None index size) ≡ Ok w → NamesAt w (with_index c.holes c.own index (F b)) size
  names_by b None w size short e =
      let d = chained (where_base c.setting c.roles None b) (where_indexed c.setting c.roles None None size) w e in
      plainly w (F b) size (base_names b w short (d.is ∙ d.then_so))
  names_by b (Some i) w size short e =
      let d = chained (where_base c.setting c.roles None b) (where_indexed c.setting c.roles None (Some i) size) w e in
      let x = chained (register_term c.setting c.roles None i) (moved size d.first) w d.then_so in
      by_index d.first w (F b) (register_in (filling_at c i)) x.first size (base_names b d.first short d.is) (register_is c None m h i x.first (may i) x.is) x.then_so

  pub form_names : (f : Form) (w : Where) (size : Size) → BaseIsShort f.base → form_where c.setting c.roles None f size ≡ Ok w →
      NamesAt w (filled c.program c.holes c.own f) size
  unfolding form_where
  form_names f w size short e = names_by f.base f.index w size short e

  -- a base alone names its address at every size
  pub plain_names : (b : Base) (w : Where) (size : Size) (y : Size) → BaseIsShort b → form_where c.setting c.roles None (record { base = b; index = None }) y ≡ Ok w →
      NamesAt w (F b) size
  unfolding form_where
  plain_names b w size y short e =
      let d = chained (where_base c.setting c.roles None b) (where_indexed c.setting c.roles None None y) w e in
      plainly w (F b) size (base_names b w short (d.is ∙ d.then_so))
