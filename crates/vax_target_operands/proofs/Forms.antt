-- An operand with its holes filled stands where its template says.
use Rattle.std.proofs.Common.{◌≡◌, ℕ, Bool, true, false, Option, Some, None, Result, Ok, refl, sym, ap, subst, ◌∙◌}
use Rattle.std.specs.Prelude.{◌||◌}
use Rattle.gg_base.specs.declared.size.Size.{Size}
use Rattle.gg_base.specs.Sizes.{bytes_of}
use Rattle.gg_base.specs.Arithmetic.{add32, mul32, neg32}
use Rattle.gg_base.proofs.Facts.{first_false, second_false, err_ok, ok_same}
use Rattle.vax_target_meaning.specs.term_core.specs.Shape.{Shape, Symbol}
use Rattle.vax_target_meaning.specs.sel_target.specs.declared.fault.TemplateKind.{TemplateKind}
use Rattle.vax_core.specs.declared.register.Reg.{Reg}
use Rattle.vax_core.specs.declared.register.Reg.TheVariants.{R0}
use Rattle.vax_core.specs.declared.operand.Addr.{Addr}
use Rattle.vax_core.specs.declared.operand.Base.TheVariants as bases
use Rattle.vax_core.specs.declared.operand.Operand.{Operand}
use Rattle.vax_target_meaning.specs.vax_machine.specs.declared.operands.Location.TheVariants as locations
use Rattle.vax_target_meaning.specs.vax_machine.specs.State.{State, reg}
use Rattle.vax_target_meaning.specs.vax_machine.specs.Area.{resolved}
use Rattle.vax_target_meaning.specs.vax_machine.specs.Operands.{located}
use Rattle.vax_target_meaning.specs.vax_confined.specs.Confined.{is_own, found}
use Rattle.vax_target_meaning.specs.vax_templates.specs.declared.form.Base.{Base}
use Rattle.vax_target_meaning.specs.vax_templates.specs.declared.form.Base.TheVariants as base
use Rattle.vax_target_meaning.specs.vax_templates.specs.declared.setting.Hole.{Hole}
use Rattle.vax_target_meaning.specs.vax_templates.specs.declared.setting.Hole.TheVariants as hole_kind
use Rattle.vax_target_meaning.specs.vax_templates.specs.declared.setting.Opening.{Opening}
use Rattle.vax_target_meaning.specs.vax_templates.specs.declared.setting.Opening.TheVariants as opening
use Rattle.vax_target_meaning.specs.vax_templates.specs.Judging.{is_operand, base_spells, index_is_operand}
use Rattle.vax_target_meaning.specs.vax_templates.specs.Standing.{Where, Immediate, Register, OwnRegister, RegisterZero, Value, Place, Local}
use Rattle.vax_target_meaning.specs.vax_templates.specs.Standing.{SavedPlace, Saved, At, where_zero, through}
use Rattle.vax_target_meaning.specs.vax_templates.specs.Standing.{where_deferred, at, sum, displaced, pointed, negated, itself, where_base}
use Rattle.vax_target_meaning.specs.vax_templates.specs.Standing.{scaled, moved, where_indexed, form_where, ◌>>=◌}
use Rattle.vax_target_meaning.specs.vax_templates.specs.HoleTerms.{constant_of, absolute_term, number_term, register_term}
use Rattle.vax_target_meaning.specs.vax_templates.specs.Filled.{alone, addr_number, register_in, addr_in, number_addr, deferred_in, filled_base, with_index}
use Rattle.vax_target_operands.specs.Scenes.{Scene, worth, role_at, filling_at, is_lost, Means, Sees}
use Rattle.vax_target_operands.specs.Places.{CanStand, Stands, BaseIsShort, OperandsStand}
use Rattle.vax_target_confined.proofs.Reading.{named_found, reg_found, imm_found}
use Rattle.vax_target_operands.proofs.Binds.{chained}
use Rattle.vax_target_operands.proofs.Holes.{BaseStands, pointed_from, plain_stands, rel_deferred, constant_known, number_means, constant_address, number_is, absolute_is, register_is}
use Rattle.vax_target_operands.proofs.Holes.{alone_stands, pointer_read}
use Rattle.vax_target_operands.proofs.Worths.{scaled_is}

-- ---- what a base finds

def_found : (m : State) (r : Reg) (size : Size) → found m (bases.Def r) size ≡ Ok (locations.Memory (reg m r), m)
unfolding located
def_found m r size = refl

disp_found : (m : State) (a : Addr) (r : Reg) (size : Size) → found m (bases.Disp a r) size ≡ Ok (locations.Memory (add32 (resolved m.layout a) (reg m r)), m)
unfolding located
disp_found m a r size = refl

disp_deferred : (m : State) (a : Addr) (r : Reg) (size : Size) → found m (bases.DispDef a r) size ≡ pointed_from m (is_own r a) (add32 (resolved m.layout a) (reg m r))
unfolding located
disp_deferred m a r size = refl

abs_found : (m : State) (n : ℕ) (size : Size) → found m (bases.Abs n) size ≡ Ok (locations.Memory n, m)
unfolding located
abs_found m n size = refl

-- ---- parts of a judgement

-- a displaced address is a sum
pub displaced_is : (x y : Result Shape TemplateKind) (t : Shape) → displaced x y ≡ Ok t →
    (a : Shape) × (b : Shape) × (x ≡ Ok a) × (y ≡ Ok b) × (sum a b ≡ t)
displaced_is x y t e =
    let d = chained x _ t e in
    let r = chained y _ t d.then_so in
    (d.first, r.first, d.is, r.is, ok_same (sum d.first r.first) t r.then_so)

module _ (c : Scene) (zero : Option Shape) (m : State) (h : Sees c zero m) where
  abbrev F : Base → Operand
  F b = filled_base c.program c.holes c.own b

  -- memory at a known address
  at_stands : (o : Operand) (size : Size) (t : Shape) (w : Where) → at t ≡ Ok w → o.index ≡ None → found m o.base size ≡ Ok (locations.Memory (worth c t), m) → BaseStands c m w o size
  at_stands o size t w e none there = subst (λ x. BaseStands c m x o size) (ok_same (At t None) w e) (none, there)

  -- memory at the address that is read at a known address
  through_stands : (mine : Bool) (o : Operand) (size : Size) (t : Shape) (x : ℕ) (w : Where) → pointed t ≡ Ok w → CanStand c w size → x ≡ worth c t → o.index ≡ None →
      found m o.base size ≡ pointed_from m mine x → BaseStands c m w o size
  through_stands mine o size t x w e can same none there =
      subst (λ y. CanStand c y size → BaseStands c m y o size) (ok_same (through t) w e) (λ safe. (none, there ∙ pointer_read c zero m h mine t x same safe)) can

  zero_stands : (o : Opening) (w : Where) (size : Size) → where_zero o ≡ Ok w → BaseStands c m w (alone (bases.Reg R0)) size
  zero_stands opening.Return w size e = subst (λ x. BaseStands c m x (alone (bases.Reg R0)) size) (ok_same RegisterZero w e)
      (record { place = locations.Register R0; at = plain_stands m (alone (bases.Reg R0)) size (locations.Register R0) refl (reg_found m R0 size refl); is = refl })
  zero_stands opening.Save w size e = subst (λ x. BaseStands c m x (alone (bases.Reg R0)) size) (ok_same RegisterZero w e)
      (record { place = locations.Register R0; at = plain_stands m (alone (bases.Reg R0)) size (locations.Register R0) refl (reg_found m R0 size refl); is = refl })
  zero_stands opening.Other w size e = absurd (err_ok _ w e)

  number_stands : (a : Addr) (size : Size) (t : Shape) (w : Where) → itself t ≡ Ok w → resolved m.layout a ≡ worth c t → BaseStands c m w (alone (bases.Imm a)) size
  number_stands a size t w e is =
      subst (λ x. BaseStands c m x (alone (bases.Imm a)) size) (ok_same (Immediate t) w e)
      (record {
        place = locations.Number (resolved m.layout a);
        at = plain_stands m (alone (bases.Imm a)) size (locations.Number (resolved m.layout a)) refl (imm_found m a size);
        is = ap locations.Number is;
      })

  negative_stands : (i : ℕ) (size : Size) (t : Shape) (w : Where) → constant_of (role_at c i) i ≡ Ok t → negated t ≡ Ok w →
      BaseStands c m w (alone (bases.Imm (addr_number (neg32 (addr_in c.program (filling_at c i)).offset)))) size
  negative_stands i size t w e is =
      subst (λ x. BaseStands c m x (alone (bases.Imm (addr_number (neg32 (addr_in c.program (filling_at c i)).offset)))) size) (ok_same _ w is)
      (record {
        place = locations.Number (neg32 (addr_in c.program (filling_at c i)).offset);
        at = plain_stands m (alone (bases.Imm (addr_number (neg32 (addr_in c.program (filling_at c i)).offset)))) size _ refl
            (imm_found m (addr_number (neg32 (addr_in c.program (filling_at c i)).offset)) size);
        is = ap (λ n. locations.Number (neg32 n)) (constant_known c m (role_at c i) i t (filling_at c i) (number_means c zero m h i t (constant_address c m (role_at c i) i t e)) e).is;
      })

  deferred_stands : (r : Hole) (i : ℕ) (w : Where) (size : Size) → Means c m r i (filling_at c i) → where_deferred r i ≡ Ok w → CanStand c w size →
      BaseStands c m w (deferred_in c.program (filling_at c i)) size
  deferred_stands hole_kind.Local i w size k e can =
      subst (λ x. BaseStands c m x (deferred_in c.program (filling_at c i)) size) (ok_same (At (Symbol i) None) w e)
      (k.plain, named_found m (deferred_in c.program (filling_at c i)).base size (worth c (Symbol i)) k.deferred)
  deferred_stands hole_kind.Object i w size k e can =
      subst (λ o. BaseStands c m w o size) (sym k.deferred_is)
      (through_stands false (alone (bases.RelDef (addr_in c.program (filling_at c i)))) size (Symbol i) (resolved m.layout (addr_in c.program (filling_at c i))) w e can k.address refl
      (rel_deferred m (addr_in c.program (filling_at c i)) size))
  deferred_stands _ i w size k e can = absurd (err_ok _ w e)

  -- ---- bases

  abbrev May : Base → Type 0
  May b = is_lost c zero ≡ true → base_spells c.roles b ≡ false

  base_stands : (b : Base) (w : Where) (size : Size) → BaseIsShort b → May b → where_base c.setting c.roles zero b ≡ Ok w → CanStand c w size → BaseStands c m w (F b) size
  unfolding where_base filled_base
  base_stands base.RegisterZero w size short may e can = zero_stands c.setting.opening w size e
  base_stands (base.Hole i) w size short may e can = alone_stands c zero m h i w size may e can
  base_stands (base.Immediate n) w size short may e can =
      let d = chained (number_term c.roles n) itself w e in
      number_stands (number_addr c.program c.holes c.own n) size d.first w d.then_so (number_is c zero m h n d.first short d.is)
  base_stands (base.Negative i) w size short may e can =
      let d = chained (constant_of (role_at c i) i) negated w e in
      negative_stands i size d.first w d.is d.then_so
  base_stands (base.RegisterDeferred i) w size short may e can =
      let d = chained (register_term c.setting c.roles zero i) at w e in
      at_stands (F (base.RegisterDeferred i)) size d.first w d.then_so refl
      (def_found m (register_in (filling_at c i)) size ∙ ap (λ (x : ℕ). Ok (locations.Memory x, m)) (register_is c zero m h i d.first may d.is))
  base_stands (base.Displacement n i) w size short may e can =
      let d = chained (displaced (number_term c.roles n) (register_term c.setting c.roles zero i)) at w e in
      let s = displaced_is (number_term c.roles n) (register_term c.setting c.roles zero i) d.first d.is in
      at_stands (F (base.Displacement n i)) size d.first w d.then_so refl
      (disp_found m (number_addr c.program c.holes c.own n) (register_in (filling_at c i)) size
      ∙ ap (λ (x : ℕ). Ok (locations.Memory (add32 x (reg m (register_in (filling_at c i)))), m)) (number_is c zero m h n s.0 short s.2)
      ∙ ap (λ (x : ℕ). Ok (locations.Memory (add32 (worth c s.0) x), m)) (register_is c zero m h i s.1 may s.3)
      ∙ ap (λ (x : Shape). Ok (locations.Memory (worth c x), m)) s.4)
  base_stands (base.DisplacementDeferred n i) w size short may e can =
      let d = chained (displaced (number_term c.roles n) (register_term c.setting c.roles zero i)) pointed w e in
      let s = displaced_is (number_term c.roles n) (register_term c.setting c.roles zero i) d.first d.is in
      through_stands (is_own (register_in (filling_at c i)) (number_addr c.program c.holes c.own n)) (F (base.DisplacementDeferred n i)) size d.first
      (add32 (resolved m.layout (number_addr c.program c.holes c.own n)) (reg m (register_in (filling_at c i)))) w d.then_so can
      (ap (λ (x : ℕ). add32 x (reg m (register_in (filling_at c i)))) (number_is c zero m h n s.0 short s.2)
      ∙ ap (λ (x : ℕ). add32 (worth c s.0) x) (register_is c zero m h i s.1 may s.3)
      ∙ ap (λ (x : Shape). worth c x) s.4)
      refl
      (disp_deferred m (number_addr c.program c.holes c.own n) (register_in (filling_at c i)) size)
  base_stands (base.Absolute n) w size short may e can =
      let d = chained (absolute_term c.roles n) at w e in
      at_stands (F (base.Absolute n)) size d.first w d.then_so refl
      (abs_found m (number_addr c.program c.holes c.own n).offset size ∙ ap (λ (x : ℕ). Ok (locations.Memory x, m)) (absolute_is c zero m h n d.first short d.is))
  base_stands (base.Deferred i) w size short may e can = deferred_stands (role_at c i) i w size (h.means i may) e can

  -- ---- the index

  -- a place without an index
  place_stands : (w : Where) (o : Operand) (size : Size) → BaseStands c m w o size → Stands c m o w size
  place_stands (Immediate t) o size b = b
  place_stands (Register t) o size b = b
  place_stands OwnRegister o size b = b
  place_stands RegisterZero o size b = b
  place_stands (Value z i) o size b = b
  place_stands (Place z i) o size b = b
  place_stands (Local i) o size b = b
  place_stands (SavedPlace z i) o size b = b
  place_stands (Saved i) o size b = b
  place_stands (At a p) o size b = record { place = locations.Memory (worth c a); at = plain_stands m o size (locations.Memory (worth c a)) b.0 b.1; is = refl }

  indexed_stands : (u w : Where) (o : Operand) (t : Shape) (r : Reg) (size : Size) → reg m r ≡ worth c t → moved size u t ≡ Ok w →
      (CanStand c u size → BaseStands c m u o size) → CanStand c w size → Stands c m (record o { index = Some r }) w size
  indexed_stands (At a p) w o t r size is e b can =
      subst (λ x. CanStand c x size → Stands c m (record o { index = Some r }) x size) (ok_same (At (sum a (scaled size t)) p) w e)
      (λ safe. record {
        place = locations.Memory (add32 (worth c a) (mul32 (reg m r) (bytes_of size)));
        at = record { base = locations.Memory (worth c a); finds = (b safe).1; is = refl };
        is = ap (λ x. locations.Memory (add32 (worth c a) x)) (scaled_is c size t (reg m r) is);
      }) can
  indexed_stands _ w o t r size is e b can = absurd (err_ok _ w e)

  form_stands_by : (b : Base) (index : Option ℕ) (w : Where) (size : Size) → BaseIsShort b → (is_lost c zero ≡ true → (base_spells c.roles b || index_is_operand c.roles index) ≡ false) →
      (where_base c.setting c.roles zero b >>= where_indexed c.setting c.roles zero index size) ≡ Ok w → CanStand c w size → Stands c m (with_index c.holes c.own index (F b)) w size
  form_stands_by b None w size short may e can =
      let d = chained (where_base c.setting c.roles zero b) (where_indexed c.setting c.roles zero None size) w e in
      place_stands w (F b) size (base_stands b w size short (λ lost. first_false (base_spells c.roles b) false (may lost)) (d.is ∙ d.then_so) can)
  form_stands_by b (Some i) w size short may e can =
      let d = chained (where_base c.setting c.roles zero b) (where_indexed c.setting c.roles zero (Some i) size) w e in
      let x = chained (register_term c.setting c.roles zero i) (moved size d.first) w d.then_so in
      indexed_stands d.first w (F b) x.first (register_in (filling_at c i)) size
      (register_is c zero m h i x.first (λ lost. second_false (base_spells c.roles b) (is_operand (role_at c i)) (may lost)) x.is)
      x.then_so
      (λ safe. base_stands b d.first size short (λ lost. first_false (base_spells c.roles b) (is_operand (role_at c i)) (may lost)) d.is safe)
      can

pub operands_stand : OperandsStand
unfolding form_where
operands_stand c zero m f size w h short may e can = form_stands_by c zero m h f.base f.index w size short may e can
