-- An operand that stands for a value reads it.
use Rattle.std.proofs.Common.{◌≡◌, ℕ, ◌==◌, Bool, true, false, cond, Option, Some, None, Ok, Err, refl, sym, ap, subst, ◌∙◌, option_map}
use Rattle.std.specs.Prelude.{IsSome}
use Rattle.std.proofs.lemmas.Bool.{true≢false}
use Rattle.gg_base.specs.declared.size.Size.{Size}
use Rattle.gg_base.specs.declared.size.Size.TheVariants.{Long}
use Rattle.gg_base.specs.Arithmetic.{neg32}
use Rattle.gg_base.proofs.Facts.{err_ok, ok_same}
use Rattle.gg_base.specs.Sizes.{low}
use Rattle.term_core.specs.declared.operator.UnaryOp.TheVariants as unary_op
use Rattle.term_core.specs.Shape.{Shape, Symbol, LastResult, Memory, Unary}
use Rattle.term_core.proofs.Values.{small}
use Rattle.vax_templates.specs.sel_terms.specs.Effects as effects
use Rattle.vax_templates.specs.sel_terms.specs.Same.{same_size}
use Rattle.vax_templates.specs.sel_terms.proofs.Alike.{equal_sizes}
use Rattle.vax_templates.specs.sel_target.specs.declared.fault.TemplateKind.{TemplateKind}
use Rattle.vax_templates.specs.sel_target.specs.declared.fault.TemplateKind.TheVariants.{WrongSize}
use Rattle.vax_templates.specs.sel_target.specs.Values.{term_state, IsRead}
use Rattle.vax_core.specs.declared.register.Reg.TheVariants.{R0}
use Rattle.vax_core.specs.declared.operand.Addr.{Addr}
use Rattle.vax_core.specs.declared.operand.Base.TheVariants as bases
use Rattle.vax_core.specs.declared.operand.Operand.{Operand}
use Rattle.vax_target_reading.specs.vax_machine.specs.State.{State, reg}
use Rattle.vax_target_reading.specs.vax_machine.specs.Area.{resolved}
use Rattle.vax_templates.specs.declared.form.Base.{Base}
use Rattle.vax_templates.specs.declared.form.Base.TheVariants as base
use Rattle.vax_templates.specs.declared.form.Form.{Form}
use Rattle.vax_templates.specs.declared.setting.Hole.{Hole}
use Rattle.vax_templates.specs.declared.setting.Hole.TheVariants as hole_kind
use Rattle.vax_templates.specs.declared.setting.Own.{Own}
use Rattle.vax_templates.specs.declared.setting.Own.TheVariants as own
use Rattle.vax_templates.specs.declared.setting.Opening.{Opening}
use Rattle.vax_templates.specs.declared.setting.Opening.TheVariants as opening
use Rattle.vax_templates.specs.Standing.{Where, Immediate, Register, OwnRegister, RegisterZero, Value, Place, Local}
use Rattle.vax_templates.specs.Standing.{SavedPlace, Saved, At, at, pointed, itself, negated, displaced, where_own}
use Rattle.vax_templates.specs.Standing.{where_hole, where_zero, where_deferred, where_base, moved, where_indexed}
use Rattle.vax_templates.specs.Standing.{form_where, ◌>>=◌}
use Rattle.vax_templates.specs.HoleTerms.{own_value, constant_of, number_term, absolute_term, register_term}
use Rattle.vax_templates.specs.Taking.{Taken, taken_term, taken_read, taken_missized, cut_term, sized}
use Rattle.vax_templates.specs.Taking.{last_result, fetched}
use Rattle.vax_templates.specs.GiveLines.{value_given}
use Rattle.vax_templates.specs.Filled.{alone, numbered, addr_in, addr_number, number_addr, operand_in, filled_base, with_index, filled}
use Rattle.vax_templates.specs.Giving.{truncated}
use Rattle.vax_target_operands.specs.vax_target_meaning.specs.Reading as reading
use Rattle.vax_target_operands.specs.vax_target_meaning.specs.Reading.{longword, is_own_place, number_at, names, reads}
use Rattle.vax_target_operands.specs.vax_target_confined.proofs.Reading.{register_reads}
use Rattle.vax_target_operands.specs.Scenes.{Scene, worth, role_at, filling_at, Means, Sees}
use Rattle.vax_target_operands.specs.Places.{BaseIsShort}
use Rattle.vax_target_operands.proofs.Binds.{chained}
use Rattle.vax_target_operands.proofs.Holes.{memory_read, number_is, constant_known, number_means, constant_address}
use Rattle.vax_target_operands.proofs.Worths.{cut_is}
use Rattle.vax_target_reading.proofs.Places.{by_names}
use Rattle.vax_target_shapes.proofs.Naming.{is_longword, in_area, all_mean, NamesAt, form_names}

module _ (c : Scene) (m : State) (h : Sees c None m) where
  abbrev F : Base → Operand
  F b = filled_base c.program c.holes c.own b

  -- what an operand that is no memory at an address reads
  abbrev Reads : Where → Operand → Size → Type 0
  Reads (Immediate t) o size = reads o size m ≡ Some (worth c (truncated size t))
  Reads (Register t) o size = reads o size m ≡ Some (worth c (truncated size t))
  Reads OwnRegister o size = Unit {0}
  Reads RegisterZero o size = c.setting.opening ≡ opening.Save → reads o size m ≡ Some (worth c (truncated size LastResult))
  Reads (Value z i) o size = z ≡ size → reads o size m ≡ Some (worth c (Symbol i))
  Reads (Place z i) o size = z ≡ size → IsSome (c.view.symbol i) → reads o size m ≡ Some (worth c (Symbol i))
  Reads (Local i) o size = Long ≡ size → reads o size m ≡ Some (worth c (Symbol i))
  Reads (SavedPlace z i) o size = z ≡ size → names o size m ≡ Some (worth c (Symbol i))
  Reads (Saved i) o size = Unit {0}
  Reads (At a p) o size = Unit {0}

  own_reads : (x : Own) (o : Operand) (size : Size) (w : Where) → where_own x ≡ Ok w → Reads w o size
  own_reads own.Nothing o size w e = absurd (err_ok _ w e)
  own_reads own.Register o size w e = subst (λ y. Reads y o size) (ok_same OwnRegister w e) tt
  own_reads (own.Slot z) o size w e = subst (λ y. Reads y o size) (ok_same OwnRegister w e) tt

  zero_so : (size : Size) → c.setting.opening ≡ opening.Save → reads (alone (bases.Reg R0)) size m ≡ Some (worth c (truncated size LastResult))
  zero_so size save = ap Some (cut_is c size LastResult (reg m R0) (h.answered save refl))

  zero_reads : (x : Opening) (size : Size) (w : Where) → where_zero x ≡ Ok w → Reads w (alone (bases.Reg R0)) size
  zero_reads opening.Return size w e = subst (λ y. Reads y (alone (bases.Reg R0)) size) (ok_same RegisterZero w e) (zero_so size)
  zero_reads opening.Save size w e = subst (λ y. Reads y (alone (bases.Reg R0)) size) (ok_same RegisterZero w e) (zero_so size)
  zero_reads opening.Other size w e = absurd (err_ok _ w e)

  hole_reads : (r : Hole) (i : ℕ) (size : Size) (w : Where) → Means c m r i (filling_at c i) → where_hole r i ≡ Ok w → Reads w (operand_in c.program (filling_at c i)) size
  hole_reads hole_kind.Register i size w k e =
      subst (λ y. Reads y (operand_in c.program (filling_at c i)) size) (ok_same (Register (Symbol i)) w e)
      (subst (λ a. reads (operand_in c.program a) size m ≡ Some (worth c (truncated size (Symbol i)))) (sym k.is)
      (register_reads k.number k.low size m ∙ ap Some (cut_is c size (Symbol i) (reg m (numbered k.number)) k.holds)))
  hole_reads (hole_kind.Value z) i size w k e =
      subst (λ y. Reads y (operand_in c.program (filling_at c i)) size) (ok_same (Value z i) w e)
      (λ same. subst (λ y. reads (operand_in c.program (filling_at c i)) y m ≡ Some (worth c (Symbol i))) same k)
  hole_reads (hole_kind.Place z) i size w k e =
      subst (λ y. Reads y (operand_in c.program (filling_at c i)) size) (ok_same (Place z i) w e)
      (λ same some. subst (λ y. reads (operand_in c.program (filling_at c i)) y m ≡ Some (worth c (Symbol i))) same (k.holds some))
  hole_reads hole_kind.Local i size w k e =
      subst (λ y. Reads y (operand_in c.program (filling_at c i)) size) (ok_same (Local i) w e)
      (λ same. subst (λ y. reads (operand_in c.program (filling_at c i)) y m ≡ Some (worth c (Symbol i))) same k.holds)
  hole_reads (hole_kind.SavedPlace z) i size w k e =
      subst (λ y. Reads y (operand_in c.program (filling_at c i)) size) (ok_same (SavedPlace z i) w e)
      (λ same. subst (λ y. names (operand_in c.program (filling_at c i)) y m ≡ Some (worth c (Symbol i))) same k)
  hole_reads hole_kind.Address i size w k e = subst (λ y. Reads y (operand_in c.program (filling_at c i)) size) (ok_same (At (Symbol i) None) w e) tt
  hole_reads hole_kind.Object i size w k e = subst (λ y. Reads y (operand_in c.program (filling_at c i)) size) (ok_same (At (Symbol i) None) w e) tt
  hole_reads hole_kind.Saved i size w k e = subst (λ y. Reads y (operand_in c.program (filling_at c i)) size) (ok_same (Saved i) w e) tt
  hole_reads _ i size w k e = absurd (err_ok _ w e)

  alone_reads : (i : ℕ) (size : Size) (w : Where) → cond (i == 0) (where_own c.setting.own) (where_hole (role_at c i) i) ≡ Ok w → Reads w (operand_in c.program (filling_at c i)) size
  alone_reads i size w e = by (i == 0) e where
    by : (b : Bool) → cond b (where_own c.setting.own) (where_hole (role_at c i) i) ≡ Ok w → Reads w (operand_in c.program (filling_at c i)) size
    by true e = own_reads c.setting.own (operand_in c.program (filling_at c i)) size w e
    by false e = hole_reads (role_at c i) i size w (all_mean c m h i) e

  number_reads : (a : Addr) (size : Size) (t : Shape) (w : Where) → resolved m.layout a ≡ worth c t → itself t ≡ Ok w → Reads w (alone (bases.Imm a)) size
  number_reads a size t w e is =
      subst (λ y. Reads y (alone (bases.Imm a)) size) (ok_same (Immediate t) w is)
      (ap (λ (x : ℕ). option_map (low size) (longword x)) e ∙ (ap (option_map (low size)) (is_longword (worth c t) (small (term_state c.view) t)) ∙ ap Some (cut_is c size t (worth c t) refl)))

  at_reads : (o : Operand) (size : Size) (a : Shape) (w : Where) → at a ≡ Ok w → Reads w o size
  at_reads o size a w e = subst (λ y. Reads y o size) (ok_same (At a None) w e) tt

  through_reads : (o : Operand) (size : Size) (a : Shape) (w : Where) → pointed a ≡ Ok w → Reads w o size
  through_reads o size a w e = subst (λ y. Reads y o size) (ok_same (At (Memory Long a) (Some (Memory Long a))) w e) tt

  deferred_reads : (r : Hole) (i : ℕ) (o : Operand) (size : Size) (w : Where) → where_deferred r i ≡ Ok w → Reads w o size
  deferred_reads hole_kind.Local i o size w e = subst (λ y. Reads y o size) (ok_same (At (Symbol i) None) w e) tt
  deferred_reads hole_kind.Object i o size w e = through_reads o size (Symbol i) w e
  deferred_reads r i o size w e = absurd (err_ok _ w e)

  negative_is : (i : ℕ) (t : Shape) → constant_of (role_at c i) i ≡ Ok t → neg32 (addr_in c.program (filling_at c i)).offset ≡ worth c (Unary unary_op.Neg t)
  negative_is i t e = ap neg32 (constant_known c m (role_at c i) i t (filling_at c i) (number_means c None m h i t (constant_address c m (role_at c i) i t e)) e).is

  base_reads : (b : Base) (size : Size) (w : Where) → BaseIsShort b → where_base c.setting c.roles None b ≡ Ok w → Reads w (F b) size
  unfolding where_base filled_base
  base_reads base.RegisterZero size w short e = zero_reads c.setting.opening size w e
  base_reads (base.Hole i) size w short e = alone_reads i size w e
  base_reads (base.Immediate n) size w short e =
      let d = chained (number_term c.roles n) itself w e in
      number_reads (number_addr c.program c.holes c.own n) size d.first w (number_is c None m h n d.first short d.is) d.then_so
  base_reads (base.Negative i) size w short e =
      let d = chained (constant_of (role_at c i) i) negated w e in
      number_reads (addr_number (neg32 (addr_in c.program (filling_at c i)).offset)) size (Unary unary_op.Neg d.first) w (negative_is i d.first d.is) d.then_so
  base_reads (base.RegisterDeferred i) size w short e =
      let d = chained (register_term c.setting c.roles None i) at w e in at_reads (F (base.RegisterDeferred i)) size d.first w d.then_so
  base_reads (base.Displacement n i) size w short e =
      let d = chained (displaced (number_term c.roles n) (register_term c.setting c.roles None i)) at w e in at_reads (F (base.Displacement n i)) size d.first w d.then_so
  base_reads (base.DisplacementDeferred n i) size w short e =
      let d = chained (displaced (number_term c.roles n) (register_term c.setting c.roles None i)) pointed w e in
      through_reads (F (base.DisplacementDeferred n i)) size d.first w d.then_so
  base_reads (base.Absolute n) size w short e =
      let d = chained (absolute_term c.roles n) at w e in at_reads (F (base.Absolute n)) size d.first w d.then_so
  base_reads (base.Deferred i) size w short e = deferred_reads (role_at c i) i (F (base.Deferred i)) size w e

  moved_reads : (u w : Where) (o : Operand) (t : Shape) (size : Size) → moved size u t ≡ Ok w → Reads w o size
  moved_reads (At a p) w o t size is = subst (λ y. Reads y o size) (ok_same _ w is) tt
  moved_reads _ w o t size is = absurd (err_ok _ w is)

  reads_by_form : (b : Base) (index : Option ℕ) (size : Size) (w : Where) → BaseIsShort b →
      (where_base c.setting c.roles None b >>= where_indexed c.setting c.roles None index size) ≡ Ok w → Reads w (with_index c.holes c.own index (F b)) size
  reads_by_form b None size w short e =
      let d = chained (where_base c.setting c.roles None b) (where_indexed c.setting c.roles None None size) w e in base_reads b size w short (d.is ∙ d.then_so)
  reads_by_form b (Some i) size w short e =
      let d = chained (where_base c.setting c.roles None b) (where_indexed c.setting c.roles None (Some i) size) w e in
      let x = chained (register_term c.setting c.roles None i) (moved size d.first) w d.then_so in
      moved_reads d.first w (with_index c.holes c.own (Some i) (F b)) x.first size x.then_so

  form_reads : (f : Form) (size : Size) (w : Where) → BaseIsShort f.base → form_where c.setting c.roles None f size ≡ Ok w → Reads w (filled c.program c.holes c.own f) size
  unfolding form_where
  form_reads f size w short e = reads_by_form f.base f.index size w short e

  -- ---- what is taken

  memory_reads : (o : Operand) (size : Size) (a : Shape) → names o size m ≡ Some (worth c a) → IsRead c.view (Memory size a) → reads o size m ≡ Some (worth c (Memory size a))
  memory_reads o size a named safe = by_names o.base o.index size (worth c a) (worth c (Memory size a)) m named (there (is_own_place o)) where
    there : (b : Bool) → number_at b m (worth c a) size ≡ Some (worth c (Memory size a))
    there true = ap reading.number_of (memory_read c None m h size a (worth c a) refl safe)
    there false = in_area c m h size a (worth c a) refl safe

  sized_is : (z size : Size) (x t : Taken) → sized z size x ≡ t → t.missized ≡ false → (z ≡ size) × (x ≡ t)
  sized_is z size x t e whole = by (same_size z size) refl e where
    by : (b : Bool) → same_size z size ≡ b → cond b x taken_missized ≡ t → (z ≡ size) × (x ≡ t)
    by true same e = (equal_sizes z size same, e)
    by false same e = absurd (true≢false (ap (λ (y : Taken). y.missized) e ∙ whole))

  own_none : (x : Own) (t : Taken) (size : Size) → (own_value x None >>= cut_term size) ≡ Ok t → ⊥
  own_none own.Nothing t size e = err_ok _ t e
  own_none own.Register t size e = err_ok _ t e
  own_none (own.Slot z) t size e = err_ok _ t e

  result_so : (x : Opening) (size : Size) (t : Taken) → last_result x None size ≡ Ok t → (x ≡ opening.Save) × (taken_term (truncated size LastResult) ≡ t)
  result_so opening.Save size t e = (refl, ok_same (taken_term (truncated size LastResult)) t e)
  result_so opening.Return size t e = absurd (err_ok _ t e)
  result_so opening.Other size t e = absurd (err_ok _ t e)

  fetched_reads : (w : Where) (o : Operand) (size : Size) (t : Taken) → Reads w o size → NamesAt c m h w o size → fetched c.setting None w size ≡ Ok t → t.missized ≡ false →
      IsRead c.view t.term → reads o size m ≡ Some (worth c t.term)
  unfolding fetched
  fetched_reads (Immediate x) o size t r n e whole safe = r ∙ ap (λ (y : Taken). Some (worth c y.term)) (ok_same (taken_term (truncated size x)) t e)
  fetched_reads (Register x) o size t r n e whole safe = r ∙ ap (λ (y : Taken). Some (worth c y.term)) (ok_same (taken_term (truncated size x)) t e)
  fetched_reads OwnRegister o size t r n e whole safe = absurd (own_none c.setting.own t size e)
  fetched_reads RegisterZero o size t r n e whole safe =
      let s = result_so c.setting.opening size t e in r s.0 ∙ ap (λ (y : Taken). Some (worth c y.term)) s.1
  fetched_reads (Value z i) o size t r n e whole safe =
      let s = sized_is z size (taken_term (Symbol i)) t (ok_same _ t e) whole in r s.0 ∙ ap (λ (y : Taken). Some (worth c y.term)) s.1
  fetched_reads (Place z i) o size t r n e whole safe =
      let s = sized_is z size (taken_read (Symbol i)) t (ok_same _ t e) whole in
      r s.0 (subst (λ (y : Taken). IsRead c.view y.term) (sym s.1) safe) ∙ ap (λ (y : Taken). Some (worth c y.term)) s.1
  fetched_reads (Local i) o size t r n e whole safe =
      let s = sized_is Long size (taken_term (Symbol i)) t (ok_same _ t e) whole in r s.0 ∙ ap (λ (y : Taken). Some (worth c y.term)) s.1
  fetched_reads (SavedPlace z i) o size t r n e whole safe =
      let s = sized_is z size (taken_read (Memory z (Symbol i))) t (ok_same _ t e) whole in
      let same : taken_read (Memory size (Symbol i)) ≡ t = ap (λ (y : Size). taken_read (Memory y (Symbol i))) (sym s.0) ∙ s.1 in
      memory_reads o size (Symbol i) (r s.0) (subst (λ (y : Taken). IsRead c.view y.term) (sym same) safe) ∙ ap (λ (y : Taken). Some (worth c y.term)) same
  fetched_reads (Saved i) o size t r n e whole safe = absurd (err_ok _ t e)
  fetched_reads (At a p) o size t r n e whole safe =
      let same = ok_same (taken_read (Memory size a)) t e in
      let read = subst (λ (y : Taken). IsRead c.view y.term) (sym same) safe in
      memory_reads o size a (n read.0) read ∙ ap (λ (y : Taken). Some (worth c y.term)) same

  value_so : (t : Taken) (x : Shape) → value_given t ≡ Ok (effects.Value x) → (t.missized ≡ false) × (t.term ≡ x)
  value_so t x e = by t.missized refl e where
    same : effects.Value t.term ≡ effects.Value x → t.term ≡ x
    same q = cc

    by : (b : Bool) → t.missized ≡ b → cond b (Err WrongSize) (Ok (effects.Value t.term)) ≡ Ok (effects.Value x) → (t.missized ≡ false) × (t.term ≡ x)
    by true is e = absurd (err_ok _ _ e)
    by false is e = (is, same (ok_same {E = TemplateKind} (effects.Value t.term) (effects.Value x) e))

  pub value_reads : (f : Form) (size : Size) (x : Shape) (w : Where) → BaseIsShort f.base → form_where c.setting c.roles None f size ≡ Ok w →
      (fetched c.setting None w size >>= value_given) ≡ Ok (effects.Value x) → IsRead c.view x → reads (filled c.program c.holes c.own f) size m ≡ Some (worth c x)
  value_reads f size x w short is e safe =
      let d = chained (fetched c.setting None w size) value_given (effects.Value x) e in
      let v = value_so d.first x d.then_so in
      fetched_reads w (filled c.program c.holes c.own f) size d.first (form_reads f size w short is) (form_names c m h f w size short is) d.is v.0
      (subst (IsRead c.view) (sym v.1) safe) ∙ ap (λ (y : Shape). Some (worth c y)) v.1
