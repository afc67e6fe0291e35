-- What an instruction takes of an operand on the machine is what the operand's term says.
use Rattle.std.proofs.Common.{◌≡◌, ℕ, suc, zero, ◌^◌, ◌<◌, ◌≤◌, ◌==◌, ◌++◌, Bool, true, false, cond, List, [], ◌∷◌, length, map, take, Option, Some, None}
use Rattle.std.proofs.Common.{Result, Ok, Err, refl, sym, ap, subst, ◌∙◌, arith}
use Rattle.std.specs.Prelude.{◌||◌}
use Rattle.std.specs.List.{AllByRecursion}
use Rattle.std.proofs.lemmas.Bool.{not-false}
use Rattle.gg_base.specs.declared.size.Size.{Size}
use Rattle.gg_base.specs.declared.size.Size.TheVariants.{Byte, Word, Long}
use Rattle.gg_base.proofs.Facts.{first_false, second_false, err_ok, ok_same}
use Rattle.gg_base.specs.Sizes.{low}
use Rattle.vax_target_operands.specs.term_core.specs.Shape.{Shape, Symbol, LastResult, Memory}
use Rattle.vax_target_operands.specs.sel_terms.specs.Same.{same_size}
use Rattle.vax_target_operands.specs.sel_terms.proofs.Alike.{equal_sizes}
use Rattle.vax_target_operands.specs.sel_target.specs.declared.fault.TemplateKind.{TemplateKind}
use Rattle.vax_target_operands.specs.sel_target.specs.declared.fault.TemplateKind.TheVariants.{NotInstr}
use Rattle.vax_target_operands.specs.term_core.proofs.Values.{small}
use Rattle.vax_target_operands.specs.sel_target.specs.Values.{IsRead, term_state}
use Rattle.vax_target_operands.specs.sel_target.proofs.AreaBytes.{number_small}
use Rattle.vax_core.specs.declared.register.Reg.{Reg}
use Rattle.vax_core.specs.declared.register.Reg.TheVariants.{R0}
use Rattle.vax_core.specs.declared.operand.Operand.{Operand}
use Rattle.vax_core.specs.declared.op.Access.{Access}
use Rattle.vax_core.specs.declared.op.Access.TheVariants as accesses
use Rattle.vax_core.specs.declared.op.OperandKind.{OperandKind}
use Rattle.vax_machine.specs.declared.turn.Stop.{Stop}
use Rattle.vax_machine.specs.declared.memory.Region.{Region}
use Rattle.vax_machine.specs.declared.memory.Region.TheVariants as regions
use Rattle.vax_machine.specs.declared.operands.Location.{Location}
use Rattle.vax_machine.specs.declared.operands.Location.TheVariants as locations
use Rattle.vax_machine.specs.declared.operands.Destination.{Destination}
use Rattle.vax_machine.specs.declared.operands.Evaluated.{Evaluated}
use Rattle.vax_machine.specs.declared.operands.Arguments.{Arguments as Numbers}
use Rattle.vax_machine.specs.State.{State, reg}
use Rattle.vax_machine.specs.State as state
use Rattle.vax_machine.specs.Memory.{read, touched, number_at}
use Rattle.vax_machine.specs.Operands as machine
use Rattle.vax_target_operands.specs.vax_confined.specs.Confined as confined
use Rattle.vax_target_operands.specs.vax_confined.specs.Confined.{is_own_place, may_touch, in_area}
use Rattle.vax_target_operands.specs.vax_target_confined.specs.Claims.{StandsAt, IsReadAt}
use Rattle.vax_target_operands.specs.vax_machine_lists.specs.Sound.{IsSound}
use Rattle.vax_target_operands.specs.vax_machine_lists.proofs.Longwords.{all_bytes}
use Rattle.vax_target_operands.specs.vax_states.proofs.Keeping.{reg_small}
use Rattle.vax_target_operands.specs.vax_templates.specs.declared.form.Base.{Base}
use Rattle.vax_target_operands.specs.vax_templates.specs.declared.form.Base.TheVariants as base
use Rattle.vax_target_operands.specs.vax_templates.specs.declared.form.Form.{Form}
use Rattle.vax_target_operands.specs.vax_templates.specs.declared.setting.Hole.{Hole}
use Rattle.vax_target_operands.specs.vax_templates.specs.declared.setting.Hole.TheVariants as hole_kind
use Rattle.vax_target_operands.specs.vax_templates.specs.declared.setting.Own.{Own}
use Rattle.vax_target_operands.specs.vax_templates.specs.declared.setting.Own.TheVariants as own
use Rattle.vax_target_operands.specs.vax_templates.specs.declared.setting.Opening.{Opening}
use Rattle.vax_target_operands.specs.vax_templates.specs.declared.setting.Opening.TheVariants as opening
use Rattle.vax_target_operands.specs.vax_templates.specs.Standing.{Where, Immediate, Register, OwnRegister, RegisterZero, Value, Place, Local}
use Rattle.vax_target_operands.specs.vax_templates.specs.Standing.{SavedPlace, Saved, At, where_own, where_hole, where_zero, where_deferred}
use Rattle.vax_target_operands.specs.vax_templates.specs.Standing.{through, at, sum, displaced, pointed, negated, itself, where_base, scaled}
use Rattle.vax_target_operands.specs.vax_templates.specs.Standing.{moved, where_indexed, form_where, ◌>>=◌}
use Rattle.vax_target_operands.specs.vax_templates.specs.HoleTerms.{constant_of, absolute_term, number_term, own_value, register_term}
use Rattle.vax_target_operands.specs.vax_templates.specs.Targets.{Target, ToMemory, ToZero, is_long, own_target}
use Rattle.vax_target_operands.specs.vax_templates.specs.Targets.{memory_target, zero_target, targeted}
use Rattle.vax_target_operands.specs.vax_templates.specs.Taking.{Taken, taken_term, taken_read, taken_missized, sized, last_result}
use Rattle.vax_target_operands.specs.vax_templates.specs.Taking.{cut_term, fetched, pointer_read, addressed, written, both, taken, evaluated}
use Rattle.vax_target_operands.specs.vax_templates.specs.Taking.{Arguments, no_arguments, last_of, in_front, all_evaluated}
use Rattle.vax_target_operands.specs.vax_templates.specs.Filled.{register_in, operand_in, filled}
use Rattle.vax_target_operands.specs.vax_templates.specs.Giving.{truncated}
use Rattle.vax_target_operands.specs.vax_templates.proofs.Judgements.{statement_of, sized_plain, ok_plain, addressed_plain}
use Rattle.vax_target_operands.specs.Scenes.{Scene, worth, role_at, filling_at, OwnIs, IsOwnRegister, Sees}
use Rattle.vax_target_operands.specs.Places.{own_at, IsHome, IsWhere, IsReadIfAny, CanStand, Stands}
use Rattle.vax_target_operands.specs.Conditions.{IsNarrow}
use Rattle.vax_target_operands.proofs.Binds.{chained}
use Rattle.vax_target_operands.proofs.Holes.{may_or, stands_same, register_stands, own_held, memory_is_read}
use Rattle.vax_target_operands.proofs.Forms.{operands_stand}
use Rattle.vax_target_operands.proofs.Worths.{cut_is}
use Rattle.vax_target_lines.specs.Takings.{IsHomeTarget, IsTarget, IsDestination, AreRead, CanAim, IsOfSize, AreOfSize, AtSize, last_size, aims, LastIsWritten, MayStand, Takes, OperandsAreTaken}

-- ---- sizes

long_size : (z : Size) → is_long z ≡ true → Long ≡ z
long_size Byte e = cc
long_size Word e = cc
long_size Long e = refl

-- an operand of its own size
sized_is : (has wanted : Size) (x t : Taken) → ◌≡◌ {A = Result Taken TemplateKind} (Ok (sized has wanted x)) (Ok t) → t.missized ≡ false → (has ≡ wanted) × (x ≡ t)
sized_is has wanted x t e none = by (same_size has wanted) refl (ok_same _ t e) where
  by : (b : Bool) → same_size has wanted ≡ b → cond b x taken_missized ≡ t → (has ≡ wanted) × (x ≡ t)
  by true same is = (equal_sizes has wanted same, is)
  by false same is = absurd (let r : true ≡ false = ap (λ (y : Taken). y.missized) is ∙ none in cc)

-- ---- what is read is of its size

narrow_low : (size : Size) (n : ℕ) → n < 2 ^ 32 → IsNarrow size (low size n)
narrow_low Byte n lt = omega arith
narrow_low Word n lt = omega arith
narrow_low Long n lt = lt

narrow_at : (m : State) (size : Size) (r : Region) → IsSound m → IsNarrow size (number_at m size r)
narrow_at m size (regions.Area at) s = number_small size m.area at (all_bytes m.area s.area_bytes)
narrow_at m size (regions.Stack at) s = number_small size m.stack at (all_bytes m.stack s.stack_bytes)

read_narrow : (m : State) (size : Size) (a n : ℕ) → IsSound m → read m a size ≡ Ok n → IsNarrow size n
unfolding read
read_narrow m size a n s e = by (touched m a size) e where
  by : (r : Result Region Stop) → state.◌>>=◌ r (λ (x : Region). Ok (number_at m size x)) ≡ Ok n → IsNarrow size n
  by (Ok x) e = subst (IsNarrow size) (ok_same (number_at m size x) n e) (narrow_at m size x s)
  by (Err x) e = absurd (err_ok x n e)

-- a longword that is read
fetched_narrow : (m : State) (l : Location) (size : Size) (n : ℕ) → IsSound m → n < 2 ^ 32 → machine.fetched m l size ≡ Ok n → IsNarrow size n
fetched_narrow m (locations.Number x) Byte n s lt e = subst (IsNarrow Byte) (ok_same (low Byte x) n e) (let r : low Byte x < 2 ^ 8 = omega arith in r)
fetched_narrow m (locations.Number x) Word n s lt e = subst (IsNarrow Word) (ok_same (low Word x) n e) (let r : low Word x < 2 ^ 16 = omega arith in r)
fetched_narrow m (locations.Number x) Long n s lt e = lt
fetched_narrow m (locations.Register r) size n s lt e = subst (IsNarrow size) (ok_same (low size (reg m r)) n e) (narrow_low size (reg m r) (reg_small m r s))
fetched_narrow m (locations.Memory a) size n s lt e = read_narrow m size a n s e

pub no_destination : (c : Scene) (m : State) (d : Option Destination) → IsDestination c m None d → d ≡ None
no_destination c m None a = refl
no_destination c m (Some d) a = absurd a

-- ---- pointers

module _ (c : Scene) (held : Option Shape) where
  -- what can be read through a pointer needs the pointer
  abbrev pub Points : Where → Type 0
  Points (At a p) = IsRead c.view a → IsReadIfAny c p
  Points w = Unit {0}

  at_points : (t : Shape) (w : Where) → at t ≡ Ok w → Points w
  at_points t w e = subst Points (ok_same (At t None) w e) (λ safe. tt)

  through_points : (t : Shape) (w : Where) → pointed t ≡ Ok w → Points w
  through_points t w e = subst Points (ok_same (through t) w e) (λ safe. safe)

  hole_points : (r : Hole) (i : ℕ) (w : Where) → where_hole r i ≡ Ok w → Points w
  hole_points hole_kind.Register i w e = subst Points (ok_same _ w e) tt
  hole_points (hole_kind.Value z) i w e = subst Points (ok_same _ w e) tt
  hole_points (hole_kind.Place z) i w e = subst Points (ok_same _ w e) tt
  hole_points hole_kind.Local i w e = subst Points (ok_same _ w e) tt
  hole_points (hole_kind.SavedPlace z) i w e = subst Points (ok_same _ w e) tt
  hole_points hole_kind.Address i w e = subst Points (ok_same _ w e) (λ safe. tt)
  hole_points hole_kind.Object i w e = subst Points (ok_same _ w e) (λ safe. tt)
  hole_points hole_kind.Saved i w e = subst Points (ok_same _ w e) tt
  hole_points _ i w e = absurd (err_ok _ w e)

  own_points : (o : Own) (w : Where) → where_own o ≡ Ok w → Points w
  own_points own.Nothing w e = absurd (err_ok _ w e)
  own_points own.Register w e = subst Points (ok_same _ w e) tt
  own_points (own.Slot z) w e = subst Points (ok_same _ w e) tt

  zero_points : (o : Opening) (w : Where) → where_zero o ≡ Ok w → Points w
  zero_points opening.Return w e = subst Points (ok_same _ w e) tt
  zero_points opening.Save w e = subst Points (ok_same _ w e) tt
  zero_points opening.Other w e = absurd (err_ok _ w e)

  deferred_points : (r : Hole) (i : ℕ) (w : Where) → where_deferred r i ≡ Ok w → Points w
  deferred_points hole_kind.Local i w e = subst Points (ok_same _ w e) (λ safe. tt)
  deferred_points hole_kind.Object i w e = through_points (Symbol i) w e
  deferred_points _ i w e = absurd (err_ok _ w e)

  alone_points : (i : ℕ) (b : Bool) (w : Where) → cond b (where_own c.setting.own) (where_hole (role_at c i) i) ≡ Ok w → Points w
  alone_points i true w e = own_points c.setting.own w e
  alone_points i false w e = hole_points (role_at c i) i w e

  base_points : (b : Base) (w : Where) → where_base c.setting c.roles held b ≡ Ok w → Points w
  unfolding where_base
  base_points base.RegisterZero w e = zero_points c.setting.opening w e
  base_points (base.Hole i) w e = alone_points i (i == 0) w e
  base_points (base.Immediate n) w e = let d = chained (number_term c.roles n) itself w e in subst Points (ok_same _ w d.then_so) tt
  base_points (base.Negative i) w e = let d = chained (constant_of (role_at c i) i) negated w e in subst Points (ok_same _ w d.then_so) tt
  base_points (base.RegisterDeferred i) w e = let d = chained (register_term c.setting c.roles held i) at w e in at_points d.first w d.then_so
  base_points (base.Displacement n i) w e =
      let d = chained (displaced (number_term c.roles n) (register_term c.setting c.roles held i)) at w e in at_points d.first w d.then_so
  base_points (base.DisplacementDeferred n i) w e =
      let d = chained (displaced (number_term c.roles n) (register_term c.setting c.roles held i)) pointed w e in through_points d.first w d.then_so
  base_points (base.Absolute n) w e = let d = chained (absolute_term c.roles n) at w e in at_points d.first w d.then_so
  base_points (base.Deferred i) w e = deferred_points (role_at c i) i w e

  moved_points : (size : Size) (u w : Where) (t : Shape) → Points u → moved size u t ≡ Ok w → Points w
  moved_points size (At a p) w t h e = subst Points (ok_same (At (sum a (scaled size t)) p) w e) (λ safe. h safe.0)
  moved_points size _ w t h e = absurd (err_ok _ w e)

  form_points_by : (b : Base) (index : Option ℕ) (size : Size) (w : Where) → (where_base c.setting c.roles held b >>= where_indexed c.setting c.roles held index size) ≡ Ok w → Points w
  form_points_by b None size w e =
      let d = chained (where_base c.setting c.roles held b) (where_indexed c.setting c.roles held None size) w e in base_points b w (d.is ∙ d.then_so)
  form_points_by b (Some i) size w e =
      let d = chained (where_base c.setting c.roles held b) (where_indexed c.setting c.roles held (Some i) size) w e in
      let x = chained (register_term c.setting c.roles held i) (moved size d.first) w d.then_so in
      moved_points size d.first w x.first (base_points b d.first d.is) x.then_so

  pub form_points : (f : Form) (size : Size) (w : Where) → form_where c.setting c.roles held f size ≡ Ok w → Points w
  unfolding form_where
  form_points f size w e = form_points_by f.base f.index size w e

-- ---- one operand

module _ (c : Scene) (held : Option Shape) (m : State) (h : Sees c held m) where
  -- what is read stands where it can be found
  fetched_can : (w : Where) (size : Size) (t : Taken) → Points c held w → fetched c.setting held w size ≡ Ok t → t.missized ≡ false → AreRead c t.reads → CanStand c w size
  unfolding fetched
  fetched_can (Immediate a) size t p e none reads = tt
  fetched_can (Register a) size t p e none reads = tt
  fetched_can OwnRegister size t p e none reads = tt
  fetched_can RegisterZero size t p e none reads = tt
  fetched_can (Value z i) size t p e none reads = (sized_is z size _ t e none).0
  fetched_can (Place z i) size t p e none reads = (sized_is z size _ t e none).0
  fetched_can (Local i) size t p e none reads = (sized_is Long size _ t e none).0
  fetched_can (SavedPlace z i) size t p e none reads = (sized_is z size _ t e none).0
  fetched_can (Saved i) size t p e none reads = tt
  fetched_can (At a q) size t p e none reads = p (subst (λ (x : Taken). AreRead c x.reads) (sym (ok_same (taken_read (Memory size a)) t e)) reads).0.0

  -- the operand may be a place of the innermost call
  abbrev Fetches : Bool → Location → Size → Taken → Type 0
  Fetches mine l size t = IsReadAt m mine l size (worth c t.term) × (t.target ≡ None)

  in_register : (mine : Bool) (l : Location) (r : Reg) (size : Size) (t : Shape) (x : Taken) → l ≡ locations.Register r → reg m r ≡ worth c t → taken_term (truncated size t) ≡ x
      → Fetches mine l size x
  in_register mine l r size t x is holds e = subst (Fetches mine l size) e (
    record { may = ap (λ k. may_touch m mine k size) is; holds = ap (λ k. machine.fetched m k size) is ∙ ap (λ (n : ℕ). Ok n) (cut_is c size t (reg m r) holds) },
    refl,
  )

  own_is_register : (o : Own) (t : Shape) → own_value o held ≡ Ok t → o ≡ own.Register
  own_is_register own.Nothing t e = absurd (err_ok _ t e)
  own_is_register own.Register t e = refl
  own_is_register (own.Slot z) t e = absurd (err_ok _ t e)

  pub own_place : (l : Location) (size : Size) → c.setting.own ≡ own.Register → StandsAt m (operand_in c.program c.own) size l → l ≡ locations.Register (register_in c.own)
  own_place l size is at =
      let o : IsOwnRegister c = subst (OwnIs c) is h.own_is in
      stands_same m (operand_in c.program c.own) size l (locations.Register (register_in c.own)) at (register_stands c m c.own o.number size o.low o.is)

  last_is : (o : Opening) (z : Option Shape) (size : Size) (t : Taken) → last_result o z size ≡ Ok t → (o ≡ opening.Save) × (z ≡ None) × (taken_term (truncated size LastResult) ≡ t)
  last_is opening.Save None size t e = (refl, refl, ok_same _ t e)
  last_is _ _ size t e = absurd (err_ok _ t e)

  fetched_means : (mine : Bool) (w : Where) (size : Size) (t : Taken) (l : Location) → fetched c.setting held w size ≡ Ok t → t.missized ≡ false → AreRead c t.reads
      → IsWhere c m mine w size l → Fetches mine l size t
  unfolding fetched
  fetched_means mine (Immediate a) size t l e none reads is =
      subst (Fetches mine l size) (ok_same (taken_term (truncated size a)) t e)
      (record { may = ap (λ k. may_touch m mine k size) is; holds = ap (λ k. machine.fetched m k size) is ∙ ap (λ (n : ℕ). Ok n) (cut_is c size a (worth c a) refl) }, refl)
  fetched_means mine (Register a) size t l e none reads is = in_register mine l is.register size a t is.is is.holds (ok_same _ t e)
  fetched_means mine OwnRegister size t l e none reads is =
      let d = chained (own_value c.setting.own held) (cut_term size) t e in
      in_register mine l (register_in c.own) size d.first t (own_place l size (own_is_register c.setting.own d.first d.is) is.0) (own_held c m c.setting.own held d.first h.holds d.is)
      (ok_same _ t d.then_so)
  fetched_means mine RegisterZero size t l e none reads is =
      let r = last_is c.setting.opening held size t e in in_register mine l R0 size LastResult t is (h.answered r.0 r.1) r.2
  fetched_means mine (Value z i) size t l e none reads is = subst (Fetches mine l size) (sized_is z size _ t e none).1 (is, refl)
  fetched_means mine (Place z i) size t l e none reads is =
      let s = (sized_is z size _ t e none).1 in
      subst (Fetches mine l size) s
      (subst (λ b. IsReadAt m b l size (worth c (Symbol i))) (sym is.1) (is.0.holds (subst (λ (x : Taken). AreRead c x.reads) (sym s) reads).0), refl)
  fetched_means mine (Local i) size t l e none reads is = subst (Fetches mine l size) (sized_is Long size _ t e none).1 (is.2, refl)
  fetched_means mine (SavedPlace z i) size t l e none reads is =
      let s = sized_is z size _ t e none in
      let safe : IsRead c.view (Memory z (Symbol i)) = (subst (λ (x : Taken). AreRead c x.reads) (sym s.1) reads).0 in
      subst (Fetches mine l size) s.1 (
        subst (λ k. IsReadAt m mine k size (worth c (Memory z (Symbol i)))) (sym is)
            (subst (λ y. IsReadAt m mine (locations.Memory (worth c (Symbol i))) y (worth c (Memory z (Symbol i)))) s.0
            (memory_is_read c held m h mine z (Symbol i) (worth c (Symbol i)) refl safe)),
        refl,
      )
  fetched_means mine (Saved i) size t l e none reads is = absurd (err_ok _ t e)
  fetched_means mine (At a p) size t l e none reads is =
      let s = ok_same (taken_read (Memory size a)) t e in
      subst (Fetches mine l size) s (
        subst (λ k. IsReadAt m mine k size (worth c (Memory size a))) (sym is)
            (memory_is_read c held m h mine size a (worth c a) refl (subst (λ (x : Taken). AreRead c x.reads) (sym s) reads).0),
        refl,
      )

  -- ---- what is written

  statement_true : {A : Type 0} (b : Bool) (x : Result A TemplateKind) (y : A) → cond b x (Err NotInstr) ≡ Ok y → b ≡ true
  statement_true true x y e = refl
  statement_true false x y e = absurd (err_ok _ y e)

  memory_target_is : (o : Own) (a : Shape) (size : Size) (x : Target × Bool) → memory_target o a size ≡ Ok x → (ToMemory size a, false) ≡ x
  memory_target_is own.Nothing a size x e = ok_same _ x e
  memory_target_is own.Register a size x e = ok_same _ x e
  memory_target_is (own.Slot z) a size x e = absurd (err_ok _ x e)

  zero_target_is : (o : Opening) (x : Target × Bool) → zero_target o ≡ Ok x → (ToZero, false) ≡ x
  zero_target_is opening.Return x e = ok_same _ x e
  zero_target_is opening.Save x e = absurd (err_ok _ x e)
  zero_target_is opening.Other x e = absurd (err_ok _ x e)

  abbrev Aims : Where → Size → Target × Bool → Type 0
  Aims w size x = x.1 ≡ false → CanAim c (Some x.0) → CanStand c w size

  targeted_can : (w : Where) (size : Size) (x : Target × Bool) → Points c held w → targeted c.setting w size ≡ Ok x → Aims w size x
  unfolding targeted
  targeted_can (Immediate a) size x p e none can = tt
  targeted_can (Register a) size x p e none can = tt
  targeted_can OwnRegister size x p e none can = tt
  targeted_can RegisterZero size x p e none can = tt
  targeted_can (Value z i) size x p e none can = absurd (err_ok _ x (statement_of c.setting.is_statement _ x e))
  targeted_can (Place z i) size x p e none can =
      let s = ok_same _ x (statement_of c.setting.is_statement _ x e) in
      equal_sizes z size (not-false (same_size z size) (ap (λ (y : Target × Bool). y.1) s ∙ none))
  targeted_can (Local i) size x p e none can =
      let s = ok_same _ x (statement_of c.setting.is_statement _ x e) in
      long_size size (not-false (is_long size) (ap (λ (y : Target × Bool). y.1) s ∙ none))
  targeted_can (SavedPlace z i) size x p e none can = absurd (err_ok _ x (statement_of c.setting.is_statement _ x e))
  targeted_can (Saved i) size x p e none can = tt
  targeted_can (At a q) size x p e none can =
      p (subst (λ (y : Target × Bool). CanAim c (Some y.0)) (sym (memory_target_is c.setting.own a size x (statement_of c.setting.is_statement _ x e))) can
      (statement_true c.setting.is_statement _ x e))

  abbrev IsAimed : Location → Size → Target × Bool → Type 0
  IsAimed l size x = x.1 ≡ false → IsTarget c m x.0 l size

  own_aimed : (o : Own) (size : Size) (x : Target × Bool) (l : Location) → c.setting.own ≡ o → own_target o size ≡ Ok x → StandsAt m (operand_in c.program c.own) size l → IsAimed l size x
  own_aimed own.Register Long x l is e at = subst (IsAimed l Long) (ok_same _ x e) (λ none. (at, refl, is))
  own_aimed (own.Slot z) size x l is e at = subst (IsAimed l size) (ok_same _ x e) (λ none. (at, refl, (z, is)))
  own_aimed _ _ x l is e at = absurd (err_ok _ x e)

  -- where the place l may be touched, k is it
  abbrev Reaches : Bool → Size → Location → Location → Type 0
  Reaches mine size l k = may_touch m mine l size ≡ true → k ≡ l

  home_aimed : (mine : Bool) (i : ℕ) (size : Size) (l k : Location) → Reaches mine size l k → IsHome c m i size l → mine ≡ own_at c i → IsHomeTarget c m i size k
  home_aimed mine i size l k reaches there same = record { place = l; home = there; is = λ may. reaches (ap (λ b. may_touch m b l size) same ∙ may) }

  at_aimed : (mine : Bool) (a : ℕ) (size : Size) (l k : Location) → Reaches mine size l k → l ≡ locations.Memory a → in_area m a size ≡ true → k ≡ locations.Memory a
  at_aimed mine a size l k reaches is inside = reaches (ap (λ x. may_touch m mine x size) is ∙ may_or mine (in_area m a size) inside) ∙ is

  targeted_means : (mine : Bool) (w : Where) (size : Size) (x : Target × Bool) (l k : Location) → Reaches mine size l k → targeted c.setting w size ≡ Ok x → IsWhere c m mine w size l
      → IsAimed k size x
  unfolding targeted
  targeted_means mine OwnRegister size x l k reaches e is =
      own_aimed c.setting.own size x k refl e (subst (StandsAt m (operand_in c.program c.own) size) (sym (reaches is.1)) is.0)
  targeted_means mine RegisterZero size x l k reaches e is =
      subst (IsAimed k size) (zero_target_is c.setting.opening x (statement_of c.setting.is_statement _ x e))
      (λ none. (reaches (ap (λ y. may_touch m mine y size) is) ∙ is, statement_true c.setting.is_statement _ x e))
  targeted_means mine (Place z i) size x l k reaches e is =
      subst (IsAimed k size) (ok_same _ x (statement_of c.setting.is_statement _ x e))
      (λ none. (home_aimed mine i size l k reaches is.0 is.1, refl, statement_true c.setting.is_statement _ x e))
  targeted_means mine (Local i) size x l k reaches e is =
      subst (IsAimed k size) (ok_same _ x (statement_of c.setting.is_statement _ x e))
      (λ none. (home_aimed mine i size l k reaches is.0 is.1, refl, statement_true c.setting.is_statement _ x e))
  targeted_means mine (Saved i) size x l k reaches e is =
      subst (IsAimed k size) (ok_same _ x (statement_of c.setting.is_statement _ x e))
      (λ none. (subst (StandsAt m (operand_in c.program (filling_at c i)) size) (sym (reaches is.2)) is.0, is.1, statement_true c.setting.is_statement _ x e))
  targeted_means mine (At a p) size x l k reaches e is =
      subst (IsAimed k size) (memory_target_is c.setting.own a size x (statement_of c.setting.is_statement _ x e))
      (λ none. (at_aimed mine (worth c a) size l k reaches is, refl, statement_true c.setting.is_statement _ x e))
  targeted_means mine _ size x l k reaches e is = absurd (err_ok _ x (statement_of c.setting.is_statement _ x e))

  -- ---- by the operand's access

  -- what is taken of an operand that stands somewhere
  record IsTaken (mine : Bool) (kind : Access) (size : Size) (l : Location) (t : Taken) : Type 0 where
    number : Evaluated
    is : confined.got m kind (may_touch m mine l size) l size ≡ Ok number
    worth_so : number.number ≡ worth c t.term
    aim : IsDestination c m t.target number.destination
    at_size : AtSize number.destination size
    narrow : kind ≡ accesses.Read → IsNarrow size number.number

  abbrev Address : Where → Size → Taken → Type 0
  Address w size t =
      (t.missized ≡ false → AreRead c t.reads → CanStand c w size)
      × ((mine : Bool) (l : Location) → t.missized ≡ false → IsWhere c m mine w size l → IsTaken mine accesses.Address size l t)

  address_taken : (mine : Bool) (l : Location) (size : Size) (a : Shape) (x t : Taken) → l ≡ locations.Memory (worth c a) → x.term ≡ a → x.target ≡ None → x ≡ t
      → IsTaken mine accesses.Address size l t
  unfolding machine.taken
  address_taken mine l size a x t is term_is none e =
      subst (IsTaken mine accesses.Address size l) e
      (record {
        number = machine.only_number (worth c a);
        is = ap (λ k. state.◌>>=◌ (machine.address_of k) (λ (n : ℕ). Ok (machine.only_number n))) is;
        worth_so = ap (worth c) (sym term_is);
        aim = subst (λ o. IsDestination c m o None) (sym none) tt;
        at_size = tt;
        narrow = λ r. cc;
      })

  addressed_means : (w : Where) (size : Size) (t : Taken) → addressed w size ≡ Ok t → Address w size t
  addressed_means (SavedPlace z i) size t e = (
    λ none reads. (sized_is z size _ t e none).0,
    λ mine l none is. address_taken mine l size (Symbol i) (taken_term (Symbol i)) t is refl refl (sized_is z size _ t e none).1,
  )
  addressed_means (At a p) size t e = (
    λ none reads. pointer p (subst (λ (x : Taken). AreRead c x.reads) (sym (ok_same _ t e)) reads),
    λ mine l none is. address_taken mine l size a _ t is refl refl (ok_same _ t e),
  )
    where
      pointer : (p : Option Shape) → AreRead c (pointer_read p) → IsReadIfAny c p
      pointer None h = tt
      pointer (Some x) h = h.0
  addressed_means _ size t e = absurd (err_ok _ t e)

  read_taken : (mine : Bool) (l : Location) (size : Size) (t : Taken) → Fetches mine l size t → IsTaken mine accesses.Read size l t
  unfolding machine.taken
  read_taken mine l size t f = record {
    number = machine.only_number (worth c t.term);
    is = ap (λ b. confined.got m accesses.Read b l size) f.0.may ∙ ap (λ k. state.◌>>=◌ k (λ (n : ℕ). Ok (machine.only_number n))) f.0.holds;
    worth_so = refl;
    aim = subst (λ o. IsDestination c m o None) (sym f.1) tt;
    at_size = tt;
    narrow = λ r. fetched_narrow m l size (worth c t.term) h.sound (small (term_state c.view) t.term) f.0.holds;
  }

  modify_taken : (mine : Bool) (l : Location) (size : Size) (u t : Taken) (x : Target × Bool) → Fetches mine l size u → IsTarget c m x.0 l size → both u x ≡ Ok t
      → IsTaken mine accesses.Modify size l t
  unfolding machine.taken
  modify_taken mine l size u t x f aim e =
      subst (IsTaken mine accesses.Modify size l) (ok_same _ t e)
      (record {
        number = machine.with_destination (worth c u.term) l size;
        is = ap (λ b. confined.got m accesses.Modify b l size) f.0.may ∙ ap (λ k. state.◌>>=◌ k (λ (n : ℕ). Ok (machine.with_destination n l size))) f.0.holds;
        worth_so = refl;
        aim = aim;
        at_size = refl;
        narrow = λ r. cc;
      })

  -- a place that is only written, or a number where it may not be touched
  abbrev aimed : Bool → Location → Location
  aimed may l = cond may l (locations.Number 0)

  aimed_at : (may : Bool) (l : Location) → may ≡ true → aimed may l ≡ l
  aimed_at may l e = ap (λ b. aimed b l) e

  got_so : (may : Bool) (l : Location) (size : Size) → confined.got m accesses.Write may l size ≡ Ok (machine.with_destination 0 (aimed may l) size)
  unfolding machine.taken
  got_so true l size = refl
  got_so false l size = refl

  write_taken : (mine : Bool) (l : Location) (size : Size) (t : Taken) (x : Target × Bool) → IsTarget c m x.0 (aimed (may_touch m mine l size) l) size → written x ≡ Ok t
      → IsTaken mine accesses.Write size l t
  write_taken mine l size t x aim e =
      subst (IsTaken mine accesses.Write size l) (ok_same _ t e)
      (record {
        number = machine.with_destination 0 (aimed (may_touch m mine l size) l) size;
        is = got_so (may_touch m mine l size) l size;
        worth_so = refl;
        aim = aim;
        at_size = refl;
        narrow = λ r. cc;
      })

  taken_can : (kind : Access) (w : Where) (size : Size) (t : Taken) → Points c held w → taken c.setting held kind w size ≡ Ok t → t.missized ≡ false → AreRead c t.reads → CanAim c t.target
      → CanStand c w size
  unfolding taken
  taken_can accesses.Read w size t p e none reads can = fetched_can w size t p e none reads
  taken_can accesses.Modify w size t p e none reads can =
      let d = chained (fetched c.setting held w size) (λ (u : Taken). targeted c.setting w size >>= both u) t e in
      let x = chained (targeted c.setting w size) (both d.first) t d.then_so in
      let s = ok_same _ t x.then_so in
      let none' : (d.first.missized || x.first.1) ≡ false = ap (λ (y : Taken). y.missized) s ∙ none in
      fetched_can w size d.first p d.is (first_false d.first.missized x.first.1 none') (subst (λ (y : Taken). AreRead c y.reads) (sym s) reads)
  taken_can accesses.Write w size t p e none reads can =
      let x = chained (targeted c.setting w size) written t e in
      let s = ok_same _ t x.then_so in
      targeted_can w size x.first p x.is (ap (λ (y : Taken). y.missized) s ∙ none) (subst (λ (y : Taken). CanAim c y.target) (sym s) can)
  taken_can accesses.Address w size t p e none reads can = (addressed_means w size t e).0 none reads
  taken_can accesses.Count w size t p e none reads can = absurd (err_ok _ t e)

  taken_means : (mine : Bool) (kind : Access) (w : Where) (size : Size) (t : Taken) (l : Location) → taken c.setting held kind w size ≡ Ok t → t.missized ≡ false → AreRead c t.reads →
      IsWhere c m mine w size l → IsTaken mine kind size l t
  unfolding taken
  taken_means mine accesses.Read w size t l e none reads is = read_taken mine l size t (fetched_means mine w size t l e none reads is)
  taken_means mine accesses.Modify w size t l e none reads is =
      let d = chained (fetched c.setting held w size) (λ (u : Taken). targeted c.setting w size >>= both u) t e in
      let x = chained (targeted c.setting w size) (both d.first) t d.then_so in
      let s = ok_same _ t x.then_so in
      let none' : (d.first.missized || x.first.1) ≡ false = ap (λ (y : Taken). y.missized) s ∙ none in
      modify_taken mine l size d.first t x.first
      (fetched_means mine w size d.first l d.is (first_false d.first.missized x.first.1 none') (subst (λ (y : Taken). AreRead c y.reads) (sym s) reads) is)
      (targeted_means mine w size x.first l l (λ may. refl) x.is is (second_false d.first.missized x.first.1 none')) x.then_so
  taken_means mine accesses.Write w size t l e none reads is =
      let x = chained (targeted c.setting w size) written t e in
      write_taken mine l size t x.first
      (targeted_means mine w size x.first l (aimed (may_touch m mine l size) l) (aimed_at (may_touch m mine l size) l) x.is is
      (ap (λ (y : Taken). y.missized) (ok_same _ t x.then_so) ∙ none)) x.then_so
  taken_means mine accesses.Address w size t l e none reads is = (addressed_means w size t e).1 mine l none is
  taken_means mine accesses.Count w size t l e none reads is = absurd (err_ok _ t e)

  -- what is only read has no destination
  fetched_plain : (w : Where) (size : Size) (t : Taken) → fetched c.setting held w size ≡ Ok t → t.target ≡ None
  unfolding fetched
  fetched_plain (Immediate a) size t e = ok_plain _ t refl e
  fetched_plain (Register a) size t e = ok_plain _ t refl e
  fetched_plain OwnRegister size t e = let d = chained (own_value c.setting.own held) (cut_term size) t e in ok_plain _ t refl d.then_so
  fetched_plain RegisterZero size t e = ap (λ (y : Taken). y.target) (sym (last_is c.setting.opening held size t e).2)
  fetched_plain (Value z i) size t e = sized_plain (same_size z size) _ t refl e
  fetched_plain (Place z i) size t e = sized_plain (same_size z size) _ t refl e
  fetched_plain (Local i) size t e = sized_plain (same_size Long size) _ t refl e
  fetched_plain (SavedPlace z i) size t e = sized_plain (same_size z size) _ t refl e
  fetched_plain (Saved i) size t e = absurd (err_ok _ t e)
  fetched_plain (At a p) size t e = ok_plain _ t refl e

  taken_plain : (kind : Access) (w : Where) (size : Size) (t : Taken) → aims kind ≡ false → taken c.setting held kind w size ≡ Ok t → t.target ≡ None
  unfolding taken
  taken_plain accesses.Read w size t plain e = fetched_plain w size t e
  taken_plain accesses.Modify w size t plain e = cc
  taken_plain accesses.Write w size t plain e = cc
  taken_plain accesses.Address w size t plain e = addressed_plain w size t e
  taken_plain accesses.Count w size t plain e = absurd (err_ok _ t e)

  pub evaluated_plain : (k : OperandKind) (f : Form) (t : Taken) → aims k.access ≡ false → evaluated c.setting c.roles held k f ≡ Ok t → t.target ≡ None
  unfolding evaluated
  evaluated_plain k f t plain e =
      let d = chained (form_where c.setting c.roles held f k.size) (λ (w : Where). taken c.setting held k.access w k.size) t e in
      taken_plain k.access d.first k.size t plain d.then_so

  -- one operand of an instruction
  record IsEvaluated (k : OperandKind) (f : Form) (t : Taken) : Type 0 where
    number : Evaluated
    is : confined.evaluated m k (filled c.program c.holes c.own f) ≡ Ok (number, m)
    worth_so : number.number ≡ worth c t.term
    aim : IsDestination c m t.target number.destination
    at_size : AtSize number.destination k.size
    narrow : IsOfSize k number.number

  abbrev finish : Result Evaluated Stop → Result (Evaluated × State) Stop
  finish r = state.◌>>=◌ r (λ (e : Evaluated). Ok (e, m))

  abbrev got_at : Operand → OperandKind → State → Location → Result Evaluated Stop
  got_at o k n l = confined.got n k.access (may_touch n (is_own_place o) l k.size) l k.size

  evaluated_at : (k : OperandKind) (f : Form) (w : Where) (t : Taken) (s : Stands c m (filled c.program c.holes c.own f) w k.size)
      → IsTaken (is_own_place (filled c.program c.holes c.own f)) k.access k.size s.place t → IsEvaluated k f t
  unfolding confined.evaluated
  evaluated_at k f w t s x = record {
    number = x.number;
    is = ap (λ (r : Result (Location × State) Stop). state.◌>>=◌ r (λ (y : Location × State).
        state.◌>>=◌ (got_at (filled c.program c.holes c.own f) k y.1 (machine.indexed y.1 y.0 (filled c.program c.holes c.own f).index k.size)) (λ (e : Evaluated). Ok (e, y.1)))) s.at.finds
        ∙ ap (λ l. finish (got_at (filled c.program c.holes c.own f) k m l)) s.at.is ∙ ap finish x.is;
    worth_so = x.worth_so;
    aim = x.aim;
    at_size = x.at_size;
    narrow = x.narrow;
  }

  evaluated_means : (k : OperandKind) (f : Form) (t : Taken) → MayStand c held f → evaluated c.setting c.roles held k f ≡ Ok t → t.missized ≡ false → AreRead c t.reads → CanAim c t.target
      → IsEvaluated k f t
  unfolding evaluated
  evaluated_means k f t may e none reads can =
      let d = chained (form_where c.setting c.roles held f k.size) (λ (w : Where). taken c.setting held k.access w k.size) t e in
      let safe = taken_can k.access d.first k.size t (form_points c held f k.size d.first d.is) d.then_so none reads can in
      let s = operands_stand c held m f k.size d.first h may.short may.may d.is safe in
      evaluated_at k f d.first t s (taken_means (is_own_place (filled c.program c.holes c.own f)) k.access d.first k.size t s.place d.then_so none reads s.is)

  -- ---- all operands

  read_front : (xs ys : List Shape) → AreRead c (xs ++ ys) → AreRead c xs
  read_front [] ys r = tt
  read_front (x ∷ xs) ys r = (r.0, read_front xs ys r.1)

  read_back : (xs ys : List Shape) → AreRead c (xs ++ ys) → AreRead c ys
  read_back [] ys r = r
  read_back (x ∷ xs) ys r = read_back xs ys r.1

  -- none in front of a destination
  back_aim : (t : Option Target) (d : Option Destination) → IsDestination c m t d → IsDestination c m (last_of None t) (machine.last_of None d)
  back_aim None None a = tt
  back_aim None (Some d) a = a
  back_aim (Some t) None a = a
  back_aim (Some t) (Some d) a = a

  back_size : (d : Option Destination) (size : Size) → AtSize d size → AtSize (machine.last_of None d) size
  back_size None size a = a
  back_size (Some d) size a = a

  abbrev whole : Taken → Arguments → Arguments
  whole t r = record { first = t.term; second = r.first; reads = t.reads ++ r.reads; target = last_of t.target r.target; missized = t.missized || r.missized }

  abbrev after : List OperandKind → List Form → ℕ → Evaluated × State → Result (Numbers × State) Stop
  after ks fs n x = state.◌>>=◌ (confined.all_evaluated ks (map (filled c.program c.holes c.own) (take n fs)) x.1) (λ (y : Numbers × State). Ok (machine.in_front x.0 y.0, y.1))

  front_taken : (k : OperandKind) (f : Form) (ks : List OperandKind) (fs : List Form) (n : ℕ) (t : Taken) (r x : Arguments) (v : IsEvaluated k f t) (rest : Takes c m ks fs n r) →
      whole t r ≡ x → IsDestination c m (last_of t.target r.target) (machine.last_of v.number.destination rest.numbers.destination) →
      AtSize (machine.last_of v.number.destination rest.numbers.destination) (last_size (k ∷ ks)) → AreOfSize (k ∷ ks) v.number.number rest.numbers.first →
      Takes c m (k ∷ ks) (f ∷ fs) (suc n) x
  front_taken k f ks fs n t r x v rest s aim at sizes =
      subst (Takes c m (k ∷ ks) (f ∷ fs) (suc n)) s
      (record {
        numbers = machine.in_front v.number rest.numbers;
        is = ap (λ (y : Result (Evaluated × State) Stop). state.◌>>=◌ y (after ks fs n)) v.is
            ∙ ap (λ (y : Result (Numbers × State) Stop). state.◌>>=◌ y (λ (z : Numbers × State). Ok (machine.in_front v.number z.0, z.1))) rest.is;
        so = record { first = v.worth_so; second = rest.so.first; destination = aim; at_size = at; sizes = sizes };
      })

  first_size : (j : OperandKind) (ks : List OperandKind) (a b : ℕ) → AreOfSize (j ∷ ks) a b → IsOfSize j a
  first_size j [] a b h = h
  first_size j (k ∷ ks) a b h = h.0

  last_taken : (k : OperandKind) (f : Form) (fs : List Form) (n : ℕ) (t : Taken) (x : Arguments) (v : IsEvaluated k f t) → whole t no_arguments ≡ x → Takes c m (k ∷ []) (f ∷ fs) (suc n) x
  last_taken k f fs n t x v s =
      front_taken k f [] fs n t no_arguments x v (record {
        numbers = machine.no_arguments;
        is = refl;
        so =
            record { first = refl; second = refl; destination = tt; at_size = tt; sizes = tt };
      }) s v.aim v.at_size v.narrow

  more_taken : (k j : OperandKind) (f : Form) (ks : List OperandKind) (fs : List Form) (n : ℕ) (t : Taken) (r x : Arguments) → t.target ≡ None → IsEvaluated k f t → Takes c m (j ∷ ks) fs n r →
      whole t r ≡ x → Takes c m (k ∷ j ∷ ks) (f ∷ fs) (suc n) x
  more_taken k j f ks fs n t r x none v rest s =
      let empty = no_destination c m v.number.destination (subst (λ o. IsDestination c m o v.number.destination) none v.aim) in
      front_taken k f (j ∷ ks) fs n t r x v rest s
      (subst (λ o. IsDestination c m (last_of o r.target) (machine.last_of v.number.destination rest.numbers.destination)) (sym none)
      (subst (λ d. IsDestination c m (last_of None r.target) (machine.last_of d rest.numbers.destination)) (sym empty)
      (back_aim r.target rest.numbers.destination rest.so.destination)))
      (subst (λ d. AtSize (machine.last_of d rest.numbers.destination) (last_size (j ∷ ks))) (sym empty) (back_size rest.numbers.destination (last_size (j ∷ ks)) rest.so.at_size))
      (v.narrow, first_size j ks rest.numbers.first rest.numbers.second rest.so.sizes)

  pub all_taken : (n : ℕ) (ks : List OperandKind) (fs : List Form) (x : Arguments) → LastIsWritten ks → length ks ≤ n → AllByRecursion (MayStand c held) fs →
      all_evaluated c.setting c.roles held ks fs ≡ Ok x → x.missized ≡ false → AreRead c x.reads → CanAim c x.target → Takes c m ks fs n x
  all_taken n [] fs x last few may e none reads can =
      subst (Takes c m [] fs n) (ok_same no_arguments x e)
      (record { numbers = machine.no_arguments; is = refl; so = record { first = refl; second = refl; destination = tt; at_size = tt; sizes = tt } })
  all_taken n (k ∷ ks) [] x last few may e none reads can = absurd (err_ok _ x e)
  all_taken zero (k ∷ ks) (f ∷ fs) x last few may e none reads can = absurd (let r : suc (length ks) ≤ 0 = few in omega (arith, r))
  all_taken (suc n) (k ∷ []) (f ∷ fs) x last few may e none reads can =
      let d = chained (evaluated c.setting c.roles held k f) (λ (t : Taken). all_evaluated c.setting c.roles held [] fs >>= in_front t) x e in
      let s : whole d.first no_arguments ≡ x = ok_same _ x d.then_so in
      let v = evaluated_means k f d.first may.0 d.is
      (first_false d.first.missized false (ap (λ (y : Arguments). y.missized) s ∙ none))
      (read_front d.first.reads [] (subst (λ (y : Arguments). AreRead c y.reads) (sym s) reads))
      (subst (λ (y : Arguments). CanAim c y.target) (sym s) can) in
      last_taken k f fs n d.first x v s
  all_taken (suc n) (k ∷ j ∷ ks) (f ∷ fs) x last few may e none reads can =
      let d = chained (evaluated c.setting c.roles held k f) (λ (t : Taken). all_evaluated c.setting c.roles held (j ∷ ks) fs >>= in_front t) x e in
      let r = chained (all_evaluated c.setting c.roles held (j ∷ ks) fs) (in_front d.first) x d.then_so in
      let s : whole d.first r.first ≡ x = ok_same _ x r.then_so in
      let none' : (d.first.missized || r.first.missized) ≡ false = ap (λ (y : Arguments). y.missized) s ∙ none in
      let reads' = subst (λ (y : Arguments). AreRead c y.reads) (sym s) reads in
      let can' = subst (λ (y : Arguments). CanAim c y.target) (sym s) can in
      more_by k j f ks fs n d.first r.first x last.0 d.is may.0
      (first_false d.first.missized r.first.missized none')
      (read_front d.first.reads r.first.reads reads')
      (all_taken n (j ∷ ks) fs r.first last.1 (let few' : suc (length (j ∷ ks)) ≤ suc n = few in omega (arith, few')) may.1 r.is
      (second_false d.first.missized r.first.missized none') (read_back d.first.reads r.first.reads reads') (back_can d.first.target r.first.target can'))
      s
    where
      back_can : (t u : Option Target) → CanAim c (last_of t u) → CanAim c u
      back_can t None h = tt
      back_can t (Some u) h = h

      more_by : (k j : OperandKind) (f : Form) (ks : List OperandKind) (fs : List Form) (n : ℕ) (t : Taken) (r x : Arguments) → aims k.access ≡ false →
          evaluated c.setting c.roles held k f ≡ Ok t → MayStand c held f → t.missized ≡ false → AreRead c t.reads → Takes c m (j ∷ ks) fs n r → whole t r ≡ x →
          Takes c m (k ∷ j ∷ ks) (f ∷ fs) (suc n) x
      more_by k j f ks fs n t r x plain is may none reads rest s =
          more_taken k j f ks fs n t r x (evaluated_plain k f t plain is) (evaluated_means k f t may is none reads (subst (CanAim c) (sym (evaluated_plain k f t plain is)) tt)) rest s

pub operands_are_taken : OperandsAreTaken
operands_are_taken c held m ks fs n x h last few may e none reads can = all_taken c held m h n ks fs x last few may e none reads can
