-- The terms of a template's first line: no address in them divides.
use Rattle.std.proofs.Common.{◌≡◌, ℕ, ◌==◌, ◌++◌, Bool, true, false, cond, List, [], ◌∷◌, Option, Some, None, Result, Ok, Err, refl, ap, subst, ◌∙◌}
use Rattle.std.specs.Prelude.{not, ◌&&◌}
use Rattle.std.specs.List.{AllByRecursion}
use Rattle.gg_base.specs.declared.size.Size.{Size}
use Rattle.gg_base.specs.declared.size.Size.TheVariants.{Byte, Word, Long}
use Rattle.gg_base.proofs.Facts.{err_ok, ok_same}
use Rattle.md_reader_pieces.specs.declared.piece.Piece.{Piece}
use Rattle.term_core.specs.declared.operator.BinaryOp.{BinaryOp}
use Rattle.term_core.specs.Shape.{Shape, Constant, Symbol, LastResult, Memory, Unary, Binary}
use Rattle.term_core.specs.Value.{State}
use Rattle.vax_target_rules.specs.term_core_accesses.specs.Accesses.{is_division, divides_well}
use Rattle.vax_target_rules.specs.sel_terms.specs.Effects.{ActShape, StoreAt, StoreHome, Save, Push, Jump, Call}
use Rattle.vax_target_rules.specs.sel_terms.specs.Same.{same_size}
use Rattle.vax_target_rules.specs.sel_target.specs.declared.fault.TemplateKind.{TemplateKind}
use Rattle.vax_target_rules.specs.sel_target.specs.declared.fault.TemplateKind.TheVariants.{NotInstr}
use Rattle.vax_target_rules.specs.sel_target.specs.Values.{View, term_state, IsReadWhere}
use Rattle.vax_core.specs.declared.op.Op.{Op}
use Rattle.vax_core.specs.declared.op.Access.{Access}
use Rattle.vax_core.specs.declared.op.Access.TheVariants as accesses
use Rattle.vax_core.specs.declared.op.OperandKind.{OperandKind}
use Rattle.vax_core.specs.Ops.{shape}
use Rattle.vax_machine.specs.declared.function.Function.{Function}
use Rattle.vax_machine.specs.declared.function.Function.TheVariants as functions
use Rattle.vax_machine.specs.declared.function.Action.{Action}
use Rattle.vax_machine.specs.declared.function.Action.TheVariants as action
use Rattle.vax_machine.specs.Functions.{action_of}
use Rattle.vax_target_rules.specs.vax_templates.specs.declared.form.Number.{Number}
use Rattle.vax_target_rules.specs.vax_templates.specs.declared.form.Number.TheVariants as number
use Rattle.vax_target_rules.specs.vax_templates.specs.declared.form.Base.{Base}
use Rattle.vax_target_rules.specs.vax_templates.specs.declared.form.Base.TheVariants as base
use Rattle.vax_target_rules.specs.vax_templates.specs.declared.form.Form.{Form}
use Rattle.vax_target_rules.specs.vax_templates.specs.declared.setting.Hole.{Hole}
use Rattle.vax_target_rules.specs.vax_templates.specs.declared.setting.Hole.TheVariants as hole_kind
use Rattle.vax_target_rules.specs.vax_templates.specs.declared.setting.Own.{Own}
use Rattle.vax_target_rules.specs.vax_templates.specs.declared.setting.Own.TheVariants as own
use Rattle.vax_target_rules.specs.vax_templates.specs.declared.setting.Opening.{Opening}
use Rattle.vax_target_rules.specs.vax_templates.specs.declared.setting.Opening.TheVariants as opening
use Rattle.vax_target_rules.specs.vax_templates.specs.declared.setting.Setting.{Setting}
use Rattle.vax_target_rules.specs.vax_templates.specs.Settings.{hole_at}
use Rattle.vax_target_rules.specs.vax_templates.specs.Instructions.{Instruction, Relation, Jump as JumpLine, Calls as CallsLine, Ret, Operates, instruction_of}
use Rattle.vax_target_rules.specs.vax_templates.specs.Standing.{Where, Immediate, Register, OwnRegister, RegisterZero, Value, Place, Local}
use Rattle.vax_target_rules.specs.vax_templates.specs.Standing.{SavedPlace, Saved, At, where_own, where_hole, where_zero, through}
use Rattle.vax_target_rules.specs.vax_templates.specs.Standing.{where_deferred, at, sum, displaced, pointed, negated, itself, where_base}
use Rattle.vax_target_rules.specs.vax_templates.specs.Standing.{scaled, moved, where_indexed, form_where, ◌>>=◌}
use Rattle.vax_target_rules.specs.vax_templates.specs.HoleTerms.{constant_of, address_of, absolute_term, number_term, own_value, register_of}
use Rattle.vax_target_rules.specs.vax_templates.specs.HoleTerms.{register_term}
use Rattle.vax_target_rules.specs.vax_templates.specs.Targets.{Target, ToOwn, ToSlot, ToHome, ToMemory, ToZero, ToSaved, own_target}
use Rattle.vax_target_rules.specs.vax_templates.specs.Targets.{memory_target, zero_target, targeted}
use Rattle.vax_target_rules.specs.vax_templates.specs.Taking.{Taken, taken_term, taken_read, taken_missized, last_result}
use Rattle.vax_target_rules.specs.vax_templates.specs.Taking.{cut_term, fetched, pointer_read, addressed, written, both, taken, evaluated}
use Rattle.vax_target_rules.specs.vax_templates.specs.Taking.{Arguments, no_arguments, last_of, in_front, all_evaluated}
use Rattle.vax_target_rules.specs.vax_templates.specs.Giving.{Given, Computes, Divides, Compares, Tests, given, extended, truncated}
use Rattle.vax_target_rules.specs.vax_templates.specs.Deeds.{Plain, Compared, Tested, Returning, Ended, Deed, leaves}
use Rattle.vax_target_rules.specs.vax_templates.specs.Deeds.{is_relation, is_movl, is_last_result, puts, put, divided, computed}
use Rattle.vax_target_rules.specs.vax_templates.specs.Deeds.{acted}
use Rattle.vax_target_rules.specs.vax_templates.specs.Judging.{is_disordered, with_reads, checked, operated, instruction_did}
use Rattle.vax_target_rules.specs.vax_templates.specs.Judging.{did_behind, line_did}
use Rattle.vax_target_rules.specs.vax_templates.specs.Deeds as deeds
use Rattle.vax_target_rules.specs.vax_templates.specs.Judging as judging
use Rattle.vax_target_rules.specs.vax_templates.proofs.Judgements.{statement_of, in_order_is}
use Rattle.vax_target_rules.specs.vax_target_operands.proofs.Binds.{chained, cond_ok}
use Rattle.vax_target_rules.specs.vax_target_lines.specs.Lines.{terms_of_last}

-- a term with no division in it
abbrev pub NoDivision : Shape → Type 0
NoDivision (Constant n) = Unit {0}
NoDivision (Symbol i) = Unit {0}
NoDivision LastResult = Unit {0}
NoDivision (Memory z a) = NoDivision a
NoDivision (Unary op t) = NoDivision t
NoDivision (Binary op a b) = (is_division op ≡ false) × NoDivision a × NoDivision b

-- a term with none in its addresses
abbrev pub IsPlain : Shape → Type 0
IsPlain (Constant n) = Unit {0}
IsPlain (Symbol i) = Unit {0}
IsPlain LastResult = Unit {0}
IsPlain (Memory z a) = NoDivision a
IsPlain (Unary op t) = IsPlain t
IsPlain (Binary op a b) = IsPlain a × IsPlain b

pub plain_if : (t : Shape) → NoDivision t → IsPlain t
plain_if (Constant n) h = tt
plain_if (Symbol i) h = tt
plain_if LastResult h = tt
plain_if (Memory z a) h = h
plain_if (Unary op t) h = plain_if t h
plain_if (Binary op a b) h = (plain_if a h.1, plain_if b h.2)

well_so : (op : BinaryOp) (a b z : Bool) → is_division op ≡ false → a ≡ true → b ≡ true → (a && (b && not (is_division op && z))) ≡ true
well_so op a b z d ea eb = ap (λ x. x && (b && not (is_division op && z))) ea ∙ ap (λ x. x && not (is_division op && z)) eb ∙ ap (λ x. not (x && z)) d

well : (m : State) (t : Shape) → NoDivision t → divides_well m t ≡ true
well m (Constant n) h = refl
well m (Symbol i) h = refl
well m LastResult h = refl
well m (Memory z a) h = well m a h
well m (Unary op t) h = well m t h
well m (Binary op a b) h = well_so op (divides_well m a) (divides_well m b) _ h.0 (well m a h.1) (well m b h.2)

-- its accesses are all made
pub all_made : (v : View) (t : Shape) → IsPlain t → IsReadWhere false v t → IsReadWhere true v t
all_made v (Constant n) p h = tt
all_made v (Symbol i) p h = h
all_made v LastResult p h = tt
all_made v (Memory z a) p h = (all_made v a (plain_if a p) h.0, λ e. h.1 (well (term_state v) a p))
all_made v (Unary op t) p h = all_made v t p h
all_made v (Binary op a b) p h = (all_made v a p.0 h.0, all_made v b p.1 h.1)

abbrev pub ArePlain : List Shape → Type 0
ArePlain ts = AllByRecursion (λ (t : Shape). IsPlain t) ts

pub list_made : (v : View) (ts : List Shape) → ArePlain ts → AllByRecursion (λ (t : Shape). IsReadWhere false v t) ts → AllByRecursion (λ (t : Shape). IsReadWhere true v t) ts
list_made v [] p h = tt
list_made v (t ∷ ts) p h = (all_made v t p.0 h.0, list_made v ts p.1 h.1)

joined : (xs ys : List Shape) → ArePlain xs → ArePlain ys → ArePlain (xs ++ ys)
joined [] ys p h = h
joined (x ∷ xs) ys p h = (p.0, joined xs ys p.1 h)

-- ---- where operands stand

abbrev PlainIfAny : Option Shape → Type 0
PlainIfAny None = Unit {0}
PlainIfAny (Some p) = NoDivision p

abbrev WherePlain : Where → Type 0
WherePlain (Immediate t) = NoDivision t
WherePlain (Register t) = NoDivision t
WherePlain (At a p) = NoDivision a × PlainIfAny p
WherePlain w = Unit {0}

constant_plain : (r : Hole) (i : ℕ) (t : Shape) → constant_of r i ≡ Ok t → NoDivision t
constant_plain hole_kind.Constant i t e = subst NoDivision (ok_same _ t e) tt
constant_plain (hole_kind.Literal n) i t e = subst NoDivision (ok_same _ t e) tt
constant_plain _ i t e = absurd (err_ok _ t e)

address_plain : (r : Hole) (i : ℕ) (t : Shape) → address_of r i ≡ Ok t → NoDivision t
address_plain hole_kind.Constant i t e = subst NoDivision (ok_same _ t e) tt
address_plain (hole_kind.Literal n) i t e = subst NoDivision (ok_same _ t e) tt
address_plain hole_kind.Object i t e = subst NoDivision (ok_same _ t e) tt
address_plain _ i t e = absurd (err_ok _ t e)

register_plain : (r : Hole) (i : ℕ) (t : Shape) → register_of r i ≡ Ok t → NoDivision t
register_plain hole_kind.Register i t e = subst NoDivision (ok_same _ t e) tt
register_plain _ i t e = absurd (err_ok _ t e)

hole_plain : (r : Hole) (i : ℕ) (w : Where) → where_hole r i ≡ Ok w → WherePlain w
hole_plain hole_kind.Register i w e = subst WherePlain (ok_same _ w e) tt
hole_plain (hole_kind.Value z) i w e = subst WherePlain (ok_same _ w e) tt
hole_plain (hole_kind.Place z) i w e = subst WherePlain (ok_same _ w e) tt
hole_plain hole_kind.Local i w e = subst WherePlain (ok_same _ w e) tt
hole_plain (hole_kind.SavedPlace z) i w e = subst WherePlain (ok_same _ w e) tt
hole_plain hole_kind.Address i w e = subst WherePlain (ok_same _ w e) (tt, tt)
hole_plain hole_kind.Object i w e = subst WherePlain (ok_same _ w e) (tt, tt)
hole_plain hole_kind.Saved i w e = subst WherePlain (ok_same _ w e) tt
hole_plain _ i w e = absurd (err_ok _ w e)

deferred_plain : (r : Hole) (i : ℕ) (w : Where) → where_deferred r i ≡ Ok w → WherePlain w
deferred_plain hole_kind.Local i w e = subst WherePlain (ok_same _ w e) (tt, tt)
deferred_plain hole_kind.Object i w e = subst WherePlain (ok_same _ w e) (tt, tt)
deferred_plain _ i w e = absurd (err_ok _ w e)

own_none : (o : Own) (t : Shape) → own_value o None ≡ Ok t → ⊥
own_none own.Nothing t e = err_ok _ t e
own_none own.Register t e = err_ok _ t e
own_none (own.Slot z) t e = err_ok _ t e

own_plain : (o : Own) (w : Where) → where_own o ≡ Ok w → WherePlain w
own_plain own.Nothing w e = absurd (err_ok _ w e)
own_plain own.Register w e = subst WherePlain (ok_same _ w e) tt
own_plain (own.Slot z) w e = subst WherePlain (ok_same _ w e) tt

zero_plain : (o : Opening) (w : Where) → where_zero o ≡ Ok w → WherePlain w
zero_plain opening.Return w e = subst WherePlain (ok_same _ w e) tt
zero_plain opening.Save w e = subst WherePlain (ok_same _ w e) tt
zero_plain opening.Other w e = absurd (err_ok _ w e)

module _ (s : Setting) (roles : List Hole) where
  term_plain : (i : ℕ) (t : Shape) → register_term s roles None i ≡ Ok t → NoDivision t
  term_plain i t e = by (i == 0) e where
    by : (b : Bool) → cond b (own_value s.own None) (register_of (hole_at roles i) i) ≡ Ok t → NoDivision t
    by true e = absurd (own_none s.own t e)
    by false e = register_plain (hole_at roles i) i t e

  number_plain : (n : Number) (t : Shape) → number_term roles n ≡ Ok t → NoDivision t
  number_plain (number.Itself n) t e = subst NoDivision (ok_same (Constant n) t e) tt
  number_plain (number.Symbol i) t e = address_plain (hole_at roles i) i t e

  absolute_plain : (n : Number) (t : Shape) → absolute_term roles n ≡ Ok t → NoDivision t
  absolute_plain (number.Itself n) t e = subst NoDivision (ok_same (Constant n) t e) tt
  absolute_plain (number.Symbol i) t e = constant_plain (hole_at roles i) i t e

  displaced_plain : (x y : Result Shape TemplateKind) (t : Shape) → ((a : Shape) → x ≡ Ok a → NoDivision a) → ((a : Shape) → y ≡ Ok a → NoDivision a) → displaced x y ≡ Ok t → NoDivision t
  displaced_plain x y t hx hy e =
      let d = chained x _ t e in
      let r = chained y _ t d.then_so in
      subst NoDivision (ok_same (sum d.first r.first) t r.then_so) (refl, hx d.first d.is, hy r.first r.is)

  base_plain : (b : Base) (w : Where) → where_base s roles None b ≡ Ok w → WherePlain w
  unfolding where_base
  base_plain base.RegisterZero w e = zero_plain s.opening w e
  base_plain (base.Hole i) w e = by (i == 0) e where
    by : (b : Bool) → cond b (where_own s.own) (where_hole (hole_at roles i) i) ≡ Ok w → WherePlain w
    by true e = own_plain s.own w e
    by false e = hole_plain (hole_at roles i) i w e
  base_plain (base.Immediate n) w e = let d = chained (number_term roles n) itself w e in subst WherePlain (ok_same (Immediate d.first) w d.then_so) (number_plain n d.first d.is)
  base_plain (base.Negative i) w e = let d = chained (constant_of (hole_at roles i) i) negated w e in subst WherePlain (ok_same _ w d.then_so) (constant_plain (hole_at roles i) i d.first d.is)
  base_plain (base.RegisterDeferred i) w e = let d = chained (register_term s roles None i) at w e in subst WherePlain (ok_same (At d.first None) w d.then_so) (term_plain i d.first d.is, tt)
  base_plain (base.Displacement n i) w e =
      let d = chained (displaced (number_term roles n) (register_term s roles None i)) at w e in
      subst WherePlain (ok_same (At d.first None) w d.then_so) (displaced_plain (number_term roles n) (register_term s roles None i) d.first (number_plain n) (term_plain i) d.is, tt)
  base_plain (base.DisplacementDeferred n i) w e =
      let d = chained (displaced (number_term roles n) (register_term s roles None i)) pointed w e in
      let p = displaced_plain (number_term roles n) (register_term s roles None i) d.first (number_plain n) (term_plain i) d.is in
      subst WherePlain (ok_same (through d.first) w d.then_so) (p, p)
  base_plain (base.Absolute n) w e = let d = chained (absolute_term roles n) at w e in subst WherePlain (ok_same (At d.first None) w d.then_so) (absolute_plain n d.first d.is, tt)
  base_plain (base.Deferred i) w e = deferred_plain (hole_at roles i) i w e

  moved_plain : (size : Size) (u w : Where) (t : Shape) → WherePlain u → NoDivision t → moved size u t ≡ Ok w → WherePlain w
  moved_plain size (At a q) w t h p e = subst WherePlain (ok_same (At (sum a (scaled size t)) q) w e) ((refl, h.0, (refl, tt, p)), h.1)
  moved_plain size _ w t h p e = absurd (err_ok _ w e)

  form_by : (b : Base) (index : Option ℕ) (size : Size) (w : Where) → (where_base s roles None b >>= where_indexed s roles None index size) ≡ Ok w → WherePlain w
  form_by b None size w e = let d = chained (where_base s roles None b) (where_indexed s roles None None size) w e in base_plain b w (d.is ∙ d.then_so)
  form_by b (Some i) size w e =
      let d = chained (where_base s roles None b) (where_indexed s roles None (Some i) size) w e in
      let x = chained (register_term s roles None i) (moved size d.first) w d.then_so in
      moved_plain size d.first w x.first (base_plain b d.first d.is) (term_plain i x.first x.is) x.then_so

  form_plain : (f : Form) (size : Size) (w : Where) → form_where s roles None f size ≡ Ok w → WherePlain w
  unfolding form_where
  form_plain f size w e = form_by f.base f.index size w e

  -- ---- what is taken

  abbrev AimPlain : Option Target → Type 0
  AimPlain (Some (ToMemory z a)) = NoDivision a
  AimPlain t = Unit {0}

  record TakenPlain (t : Taken) : Type 0 where
    term_so : NoDivision t.term
    reads_so : ArePlain t.reads
    aim_so : AimPlain t.target

  plain_term : (t : Shape) → NoDivision t → TakenPlain (taken_term t)
  plain_term t h = record { term_so = h; reads_so = tt; aim_so = tt }

  plain_read : (t : Shape) → NoDivision t → TakenPlain (taken_read t)
  plain_read t h = record { term_so = h; reads_so = (plain_if t h, tt); aim_so = tt }

  plain_cut : (size : Size) (t : Shape) → NoDivision t → NoDivision (truncated size t)
  plain_cut Byte t h = h
  plain_cut Word t h = h
  plain_cut Long t h = h

  sized_plain : (b : Bool) (x t : Taken) → TakenPlain x → ◌≡◌ {A = Result Taken TemplateKind} (Ok (cond b x taken_missized)) (Ok t) → TakenPlain t
  sized_plain true x t h e = subst TakenPlain (ok_same x t e) h
  sized_plain false x t h e = subst TakenPlain (ok_same taken_missized t e) (record { term_so = tt; reads_so = tt; aim_so = tt })

  last_plain : (o : Opening) (size : Size) (t : Taken) → last_result o None size ≡ Ok t → TakenPlain t
  last_plain opening.Return size t e = absurd (err_ok _ t e)
  last_plain opening.Save size t e = subst TakenPlain (ok_same _ t e) (plain_term (truncated size LastResult) (plain_cut size LastResult tt))
  last_plain opening.Other size t e = absurd (err_ok _ t e)

  fetched_plain : (w : Where) (size : Size) (t : Taken) → WherePlain w → fetched s None w size ≡ Ok t → TakenPlain t
  unfolding fetched
  fetched_plain (Immediate a) size t p e = subst TakenPlain (ok_same _ t e) (plain_term (truncated size a) (plain_cut size a p))
  fetched_plain (Register a) size t p e = subst TakenPlain (ok_same _ t e) (plain_term (truncated size a) (plain_cut size a p))
  fetched_plain OwnRegister size t p e = let d = chained (own_value s.own None) (cut_term size) t e in absurd (own_none s.own d.first d.is)
  fetched_plain RegisterZero size t p e = last_plain s.opening size t e
  fetched_plain (Value z i) size t p e = sized_plain (same_size z size) _ t (plain_term (Symbol i) tt) e
  fetched_plain (Place z i) size t p e = sized_plain (same_size z size) _ t (plain_read (Symbol i) tt) e
  fetched_plain (Local i) size t p e = sized_plain (same_size Long size) _ t (plain_term (Symbol i) tt) e
  fetched_plain (SavedPlace z i) size t p e = sized_plain (same_size z size) _ t (plain_read (Memory z (Symbol i)) tt) e
  fetched_plain (Saved i) size t p e = absurd (err_ok _ t e)
  fetched_plain (At a q) size t p e = subst TakenPlain (ok_same _ t e) (plain_read (Memory size a) p.0)

  pointer_plain : (p : Option Shape) → PlainIfAny p → ArePlain (pointer_read p)
  pointer_plain None h = tt
  pointer_plain (Some p) h = (plain_if p h, tt)

  addressed_plain : (w : Where) (size : Size) (t : Taken) → WherePlain w → addressed w size ≡ Ok t → TakenPlain t
  addressed_plain (SavedPlace z i) size t p e = sized_plain (same_size z size) _ t (plain_term (Symbol i) tt) e
  addressed_plain (At a q) size t p e = subst TakenPlain (ok_same _ t e) (record { term_so = p.0; reads_so = pointer_plain q p.1; aim_so = tt })
  addressed_plain _ size t p e = absurd (err_ok _ t e)

  abbrev AimsPlain : Target × Bool → Type 0
  AimsPlain x = AimPlain (Some x.0)

  memory_plain : (o : Own) (a : Shape) (size : Size) (x : Target × Bool) → NoDivision a → memory_target o a size ≡ Ok x → AimsPlain x
  memory_plain own.Nothing a size x h e = subst AimsPlain (ok_same _ x e) h
  memory_plain own.Register a size x h e = subst AimsPlain (ok_same _ x e) h
  memory_plain (own.Slot z) a size x h e = absurd (err_ok _ x e)

  own_aim : (o : Own) (size : Size) (x : Target × Bool) → own_target o size ≡ Ok x → AimsPlain x
  own_aim own.Register Long x e = subst AimsPlain (ok_same _ x e) tt
  own_aim (own.Slot z) size x e = subst AimsPlain (ok_same _ x e) tt
  own_aim _ _ x e = absurd (err_ok _ x e)

  zero_aim : (o : Opening) (x : Target × Bool) → zero_target o ≡ Ok x → AimsPlain x
  zero_aim opening.Return x e = subst AimsPlain (ok_same _ x e) tt
  zero_aim opening.Save x e = absurd (err_ok _ x e)
  zero_aim opening.Other x e = absurd (err_ok _ x e)

  targeted_plain : (w : Where) (size : Size) (x : Target × Bool) → WherePlain w → targeted s w size ≡ Ok x → AimsPlain x
  unfolding targeted
  targeted_plain OwnRegister size x p e = own_aim s.own size x e
  targeted_plain RegisterZero size x p e = zero_aim s.opening x (statement_of s.is_statement _ x e)
  targeted_plain (Place z i) size x p e = subst AimsPlain (ok_same _ x (statement_of s.is_statement _ x e)) tt
  targeted_plain (Local i) size x p e = subst AimsPlain (ok_same _ x (statement_of s.is_statement _ x e)) tt
  targeted_plain (Saved i) size x p e = subst AimsPlain (ok_same _ x (statement_of s.is_statement _ x e)) tt
  targeted_plain (At a q) size x p e = memory_plain s.own a size x p.0 (statement_of s.is_statement _ x e)
  targeted_plain _ size x p e = absurd (err_ok _ x (statement_of s.is_statement _ x e))

  taken_plain : (kind : Access) (w : Where) (size : Size) (t : Taken) → WherePlain w → taken s None kind w size ≡ Ok t → TakenPlain t
  unfolding taken
  taken_plain accesses.Read w size t p e = fetched_plain w size t p e
  taken_plain accesses.Modify w size t p e =
      let d = chained (fetched s None w size) (λ (u : Taken). targeted s w size >>= both u) t e in
      let x = chained (targeted s w size) (both d.first) t d.then_so in
      let h = fetched_plain w size d.first p d.is in
      subst TakenPlain (ok_same _ t x.then_so) (record { term_so = h.term_so; reads_so = h.reads_so; aim_so = targeted_plain w size x.first p x.is })
  taken_plain accesses.Write w size t p e =
      let x = chained (targeted s w size) written t e in
      subst TakenPlain (ok_same _ t x.then_so) (record { term_so = tt; reads_so = tt; aim_so = targeted_plain w size x.first p x.is })
  taken_plain accesses.Address w size t p e = addressed_plain w size t p e
  taken_plain accesses.Count w size t p e = absurd (err_ok _ t e)

  evaluated_plain : (k : OperandKind) (f : Form) (t : Taken) → evaluated s roles None k f ≡ Ok t → TakenPlain t
  unfolding evaluated
  evaluated_plain k f t e =
      let d = chained (form_where s roles None f k.size) (λ (w : Where). taken s None k.access w k.size) t e in
      taken_plain k.access d.first k.size t (form_plain f k.size d.first d.is) d.then_so

  record ArgumentsPlain (x : Arguments) : Type 0 where
    first_so : NoDivision x.first
    second_so : NoDivision x.second
    reads_so : ArePlain x.reads
    aim_so : AimPlain x.target

  aim_joined : (t u : Option Target) → AimPlain t → AimPlain u → AimPlain (last_of t u)
  aim_joined t None h k = h
  aim_joined t (Some u) h k = k

  all_plain : (ks : List OperandKind) (fs : List Form) (x : Arguments) → all_evaluated s roles None ks fs ≡ Ok x → ArgumentsPlain x
  all_plain [] fs x e = subst ArgumentsPlain (ok_same no_arguments x e) (record { first_so = tt; second_so = tt; reads_so = tt; aim_so = tt })
  all_plain (k ∷ ks) [] x e = absurd (err_ok _ x e)
  all_plain (k ∷ ks) (f ∷ fs) x e =
      let d = chained (evaluated s roles None k f) (λ (t : Taken). all_evaluated s roles None ks fs >>= in_front t) x e in
      let r = chained (all_evaluated s roles None ks fs) (in_front d.first) x d.then_so in
      let a = evaluated_plain k f d.first d.is in
      let b = all_plain ks fs r.first r.is in
      subst ArgumentsPlain (ok_same _ x r.then_so)
      (record {
        first_so = a.term_so;
        second_so = b.first_so;
        reads_so = joined d.first.reads r.first.reads a.reads_so b.reads_so;
        aim_so =
            aim_joined d.first.target r.first.target a.aim_so b.aim_so;
      })

  -- ---- what a line does

  abbrev DeedPlain : Deed → Type 0
  DeedPlain d = ArePlain (terms_of_last d.last)

  ended : (deed : ActShape) (d : Deed) → DeedPlain (leaves (Ended deed)) → deeds.ends deed ≡ Ok d → DeedPlain d
  ended deed d h e = subst DeedPlain (ok_same (leaves (Ended deed)) d e) h

  put_plain : (op : Op) (to : Option Target) (t : Shape) (d : Deed) → AimPlain to → IsPlain t → put op to t ≡ Ok d → DeedPlain d
  put_plain op None t d a p e = absurd (err_ok _ d e)
  put_plain op (Some ToOwn) t d a p e = subst DeedPlain (ok_same (puts t) d e) tt
  put_plain op (Some (ToSlot z)) t d a p e = ended (StoreHome z 0 t) d (p, tt) e
  put_plain op (Some (ToHome z i)) t d a p e = ended (StoreHome z i t) d (p, tt) e
  put_plain op (Some (ToMemory z b)) t d a p e = ended (StoreAt z b t) d (plain_if b a, (p, tt)) e
  put_plain op (Some ToZero) t d a p e = subst DeedPlain (cond_ok (is_movl op) (leaves (Returning t)) d NotInstr e).1 tt
  put_plain op (Some (ToSaved i)) t d a p e = by (is_movl op && is_last_result t) e where
    by : (b : Bool) → cond b (deeds.ends (Save i)) (Err NotInstr) ≡ Ok d → DeedPlain d
    by true e = ended (Save i) d tt e
    by false e = absurd (err_ok _ d e)

  abbrev GivenPlain : Given → Type 0
  GivenPlain (Computes t) = IsPlain t
  GivenPlain (Divides t w) = IsPlain t
  GivenPlain (Compares a b) = Unit {0}
  GivenPlain (Tests t) = Unit {0}

  extended_plain : (size : Size) (t : Shape) → IsPlain t → IsPlain (extended size t)
  extended_plain Byte t h = h
  extended_plain Word t h = h
  extended_plain Long t h = h

  truncated_plain : (size : Size) (t : Shape) → IsPlain t → IsPlain (truncated size t)
  truncated_plain Byte t h = h
  truncated_plain Word t h = h
  truncated_plain Long t h = h

  given_plain : (f : Function) (a b : Shape) → IsPlain a → IsPlain b → GivenPlain (given f a b)
  given_plain (functions.Copy size) a b p q = p
  given_plain functions.Clear a b p q = tt
  given_plain functions.Negate a b p q = p
  given_plain functions.Complement a b p q = p
  given_plain (functions.SignExtend size) a b p q = extended_plain size a p
  given_plain (functions.Truncate size) a b p q = truncated_plain size a p
  given_plain functions.Add a b p q = (p, q)
  given_plain functions.Subtract a b p q = (q, p)
  given_plain functions.Multiply a b p q = (p, q)
  given_plain functions.Divide a b p q = (q, p)
  given_plain functions.Increment a b p q = (p, tt)
  given_plain functions.Decrement a b p q = (p, tt)
  given_plain functions.BitSet a b p q = (p, q)
  given_plain functions.BitClear a b p q = (q, p)
  given_plain functions.ExclusiveOr a b p q = (p, q)
  given_plain functions.BitTest a b p q = tt
  given_plain functions.Shift a b p q = (p, q)
  given_plain (functions.Compare size) a b p q = tt
  given_plain (functions.CompareWithZero size) a b p q = tt

  computed_plain : (op : Op) (to : Option Target) (g : Given) (d : Deed) → AimPlain to → GivenPlain g → computed op to g ≡ Ok d → DeedPlain d
  computed_plain op to (Computes t) d a p e = put_plain op to t d a p e
  computed_plain op to (Divides t w) d a p e =
      let u = chained (put op to t) (divided w) d e in
      subst DeedPlain (ok_same (record u.first { divisors = w ∷ [] }) d u.then_so) (put_plain op to t u.first a p u.is)
  computed_plain op to (Compares x y) d a p e = subst DeedPlain (ok_same (leaves (Compared x y)) d e) tt
  computed_plain op to (Tests t) d a p e = subst DeedPlain (ok_same (leaves (Tested t)) d e) tt

  statement_plain : (b : Bool) (deed : ActShape) (d : Deed) → DeedPlain (leaves (Ended deed)) → cond b (deeds.ends deed) (Err NotInstr) ≡ Ok d → DeedPlain d
  statement_plain true deed d h e = ended deed d h e
  statement_plain false deed d h e = absurd (err_ok _ d e)

  acted_plain : (a : Action) (op : Op) (x : Arguments) (d : Deed) → ArgumentsPlain x → acted s a op x ≡ Ok d → DeedPlain d
  acted_plain (action.Compute f) op x d h e =
      computed_plain op x.target (given f x.first x.second) d h.aim_so (given_plain f x.first x.second (plain_if x.first h.first_so) (plain_if x.second h.second_so)) e
  acted_plain action.Push op x d h e = statement_plain s.is_statement (Push x.first) d (plain_if x.first h.first_so, tt) e
  acted_plain _ op x d h e = absurd (err_ok _ d e)

  -- what a first line reads, and the terms of its deed
  pub record LinePlain (d : Deed) : Type 0 where
    pub reads_so : ArePlain d.reads
    pub ends_so : DeedPlain d

  operated_plain : (op : Op) (fs : List Form) (d : Deed) → operated s roles true None op fs ≡ Ok d → LinePlain d
  unfolding operated
  operated_plain op fs d e =
      let x = chained (all_evaluated s roles None (shape op).operands fs) (λ (x : Arguments). acted s (action_of op) op x >>= checked s roles true None fs x) d e in
      let u = chained (acted s (action_of op) op x.first) (checked s roles true None fs x.first) d x.then_so in
      let h = all_plain (shape op).operands fs x.first x.is in
      subst LinePlain (in_order_is (is_disordered s roles true None fs u.first) (with_reads x.first u.first) d u.then_so)
      (record { reads_so = h.reads_so; ends_so = acted_plain (action_of op) op x.first u.first h u.is })

  of_statement : (b : Bool) (deed : ActShape) (d : Deed) → DeedPlain (leaves (Ended deed)) → cond b (deeds.ends deed) (Err NotInstr) ≡ Ok d → LinePlain d
  of_statement true deed d h e = subst LinePlain (ok_same (leaves (Ended deed)) d e) (record { reads_so = tt; ends_so = h })
  of_statement false deed d h e = absurd (err_ok _ d e)

  instruction_plain : (i : Instruction) (d : Deed) → instruction_did s roles true None Plain i ≡ Ok d → LinePlain d
  instruction_plain (Relation i) d e = by (is_relation (hole_at roles i)) e where
    by : (b : Bool) → cond b (Err NotInstr) (Err NotInstr) ≡ Ok d → LinePlain d
    by true e = absurd (err_ok _ d e)
    by false e = absurd (err_ok _ d e)
  instruction_plain JumpLine d e = of_statement s.is_statement Jump d tt e
  instruction_plain CallsLine d e = of_statement s.is_statement Call d tt e
  instruction_plain Ret d e = absurd (err_ok _ d e)
  instruction_plain (Operates op fs) d e = operated_plain op fs d e

  pub first_line_plain : (ps : List Piece) (d : Deed) → line_did s roles true None Plain ps ≡ Ok d → LinePlain d
  unfolding line_did
  first_line_plain ps d e =
      let i = chained (judging.read (instruction_of ps)) (did_behind s roles true None Plain) d e in instruction_plain i.first d i.then_so
