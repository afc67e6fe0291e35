-- A statement that saves the last call's result begins with the token that says so.
use Rattle.std.proofs.Common.{◌≡◌, ℕ, ◌==◌, Bool, true, false, cond, List, [], ◌∷◌, Option, Some, None, Result, Ok, Err, refl, sym, subst, ◌∙◌}
use Rattle.std.specs.Prelude.{◌&&◌}
use Rattle.gg_base.specs.declared.size.Size.{Size}
use Rattle.gg_base.specs.declared.size.Size.TheVariants.{Long}
use Rattle.gg_base.proofs.Facts.{err_ok, ok_same}
use Rattle.md_reader_pieces.specs.declared.piece.Line.{Line}
use Rattle.md_reader_pieces.specs.declared.piece.Piece.{Piece}
use Rattle.term_core.specs.Shape.{Shape, Constant}
use Rattle.vax_target_rules.specs.sel_terms.specs.Effects.{ActShape, StoreHome, StoreAt, Save, Push, Jump, Call, Branch, Return}
use Rattle.vax_target_rules.specs.sel_terms.specs.Same.{same_size}
use Rattle.vax_target_rules.specs.sel_target.specs.declared.fault.TemplateKind.{TemplateKind}
use Rattle.vax_target_rules.specs.sel_target.specs.declared.fault.TemplateKind.TheVariants.{NotInstr}
use Rattle.vax_core.specs.declared.op.Op.{Op}
use Rattle.vax_core.specs.declared.op.Access.{Access}
use Rattle.vax_core.specs.declared.op.Access.TheVariants as accesses
use Rattle.vax_core.specs.declared.op.OperandKind.{OperandKind}
use Rattle.vax_core.specs.Ops.{shape}
use Rattle.vax_machine.specs.declared.function.Action.{Action}
use Rattle.vax_machine.specs.declared.function.Action.TheVariants as action
use Rattle.vax_machine.specs.Functions.{action_of}
use Rattle.vax_target_rules.specs.vax_templates.specs.declared.form.Base.{Base}
use Rattle.vax_target_rules.specs.vax_templates.specs.declared.form.Base.TheVariants as base
use Rattle.vax_target_rules.specs.vax_templates.specs.declared.form.Form.{Form}
use Rattle.vax_target_rules.specs.vax_templates.specs.declared.setting.Hole.{Hole}
use Rattle.vax_target_rules.specs.vax_templates.specs.declared.setting.Hole.TheVariants as hole_kind
use Rattle.vax_target_rules.specs.vax_templates.specs.declared.setting.Own.{Own}
use Rattle.vax_target_rules.specs.vax_templates.specs.declared.setting.Own.TheVariants as own
use Rattle.vax_target_rules.specs.vax_templates.specs.declared.setting.Opening.{Opening}
use Rattle.vax_target_rules.specs.vax_templates.specs.declared.setting.Opening.TheVariants as opening
use Rattle.vax_target_rules.specs.vax_templates.specs.declared.setting.Setting.{Setting}
use Rattle.vax_target_rules.specs.vax_templates.specs.Settings.{hole_at}
use Rattle.vax_target_rules.specs.vax_templates.specs.Instructions.{Instruction, Relation, Jump as JumpLine, Calls as CallsLine, Ret, Operates, instruction_of}
use Rattle.vax_target_rules.specs.vax_templates.specs.Standing.{Where, Immediate, Register, OwnRegister, RegisterZero, Value, Place, Local}
use Rattle.vax_target_rules.specs.vax_templates.specs.Standing.{SavedPlace, Saved, At, where_own, where_hole, where_zero, where_deferred, at}
use Rattle.vax_target_rules.specs.vax_templates.specs.Standing.{sum, displaced, pointed, negated, itself, where_base, scaled, moved}
use Rattle.vax_target_rules.specs.vax_templates.specs.Standing.{where_indexed, form_where, ◌>>=◌}
use Rattle.vax_target_rules.specs.vax_templates.specs.HoleTerms.{constant_of, absolute_term, number_term, own_value, register_term}
use Rattle.vax_target_rules.specs.vax_templates.specs.Targets.{Target, ToOwn, ToSlot, ToHome, ToMemory, ToZero, ToSaved, own_target}
use Rattle.vax_target_rules.specs.vax_templates.specs.Targets.{memory_target, zero_target, targeted}
use Rattle.vax_target_rules.specs.vax_templates.specs.Taking.{Taken, last_result, cut_term, fetched, written}
use Rattle.vax_target_rules.specs.vax_templates.specs.Taking.{both, taken, evaluated, Arguments, no_arguments, last_of, in_front}
use Rattle.vax_target_rules.specs.vax_templates.specs.Taking.{all_evaluated}
use Rattle.vax_target_rules.specs.vax_templates.specs.Giving.{Given, Computes, Divides, Compares, Tests, given}
use Rattle.vax_target_rules.specs.vax_templates.specs.Deeds.{Last, Plain, Compared, Tested, Returning, Ended, Deed, leaves, ends_statement}
use Rattle.vax_target_rules.specs.vax_templates.specs.Deeds.{is_relation, branches, is_movl, is_last_result, puts, put, divided, computed}
use Rattle.vax_target_rules.specs.vax_templates.specs.Deeds.{acted}
use Rattle.vax_target_rules.specs.vax_templates.specs.Judging.{is_disordered, with_reads, checked, operated, instruction_did}
use Rattle.vax_target_rules.specs.vax_templates.specs.Judging.{returned, did_behind, line_did}
use Rattle.vax_target_rules.specs.vax_templates.specs.Deeds as deeds
use Rattle.vax_target_rules.specs.vax_templates.specs.Judging as judging
use Rattle.vax_target_rules.specs.vax_templates.specs.Progress.{Progress, judged, lines_judged}
use Rattle.vax_target_rules.specs.vax_templates.proofs.Judgements.{statement_of, sized_plain, ok_plain, addressed_plain, in_order_is}
use Rattle.vax_target_rules.specs.vax_target_operands.proofs.Binds.{chained, cond_ok}
use Rattle.vax_target_rules.specs.vax_target_runs.proofs.Law.{judged_is}

module _ (s : Setting) (roles : List Hole) (held : Option Shape) where
  -- the place of a saved result is that token's
  abbrev WhereIs : Where → Type 0
  WhereIs (Saved i) = hole_at roles i ≡ hole_kind.Saved
  WhereIs w = Unit {0}

  hole_is : (r : Hole) (i : ℕ) (w : Where) → hole_at roles i ≡ r → where_hole r i ≡ Ok w → WhereIs w
  hole_is hole_kind.Register i w same e = subst WhereIs (ok_same _ w e) tt
  hole_is (hole_kind.Value z) i w same e = subst WhereIs (ok_same _ w e) tt
  hole_is (hole_kind.Place z) i w same e = subst WhereIs (ok_same _ w e) tt
  hole_is hole_kind.Local i w same e = subst WhereIs (ok_same _ w e) tt
  hole_is (hole_kind.SavedPlace z) i w same e = subst WhereIs (ok_same _ w e) tt
  hole_is hole_kind.Address i w same e = subst WhereIs (ok_same _ w e) tt
  hole_is hole_kind.Object i w same e = subst WhereIs (ok_same _ w e) tt
  hole_is hole_kind.Saved i w same e = subst WhereIs (ok_same (Saved i) w e) same
  hole_is _ i w same e = absurd (err_ok _ w e)

  deferred_is : (r : Hole) (i : ℕ) (w : Where) → where_deferred r i ≡ Ok w → WhereIs w
  deferred_is hole_kind.Local i w e = subst WhereIs (ok_same _ w e) tt
  deferred_is hole_kind.Object i w e = subst WhereIs (ok_same _ w e) tt
  deferred_is _ i w e = absurd (err_ok _ w e)

  own_is : (o : Own) (w : Where) → where_own o ≡ Ok w → WhereIs w
  own_is own.Nothing w e = absurd (err_ok _ w e)
  own_is own.Register w e = subst WhereIs (ok_same _ w e) tt
  own_is (own.Slot z) w e = subst WhereIs (ok_same _ w e) tt

  zero_is : (o : Opening) (w : Where) → where_zero o ≡ Ok w → WhereIs w
  zero_is opening.Return w e = subst WhereIs (ok_same _ w e) tt
  zero_is opening.Save w e = subst WhereIs (ok_same _ w e) tt
  zero_is opening.Other w e = absurd (err_ok _ w e)

  base_is : (b : Base) (w : Where) → where_base s roles held b ≡ Ok w → WhereIs w
  unfolding where_base
  base_is base.RegisterZero w e = zero_is s.opening w e
  base_is (base.Hole i) w e = by (i == 0) e where
    by : (b : Bool) → cond b (where_own s.own) (where_hole (hole_at roles i) i) ≡ Ok w → WhereIs w
    by true e = own_is s.own w e
    by false e = hole_is (hole_at roles i) i w refl e
  base_is (base.Immediate n) w e = let d = chained (number_term roles n) itself w e in subst WhereIs (ok_same _ w d.then_so) tt
  base_is (base.Negative i) w e = let d = chained (constant_of (hole_at roles i) i) negated w e in subst WhereIs (ok_same _ w d.then_so) tt
  base_is (base.RegisterDeferred i) w e = let d = chained (register_term s roles held i) at w e in subst WhereIs (ok_same _ w d.then_so) tt
  base_is (base.Displacement n i) w e = let d = chained (displaced (number_term roles n) (register_term s roles held i)) at w e in subst WhereIs (ok_same _ w d.then_so) tt
  base_is (base.DisplacementDeferred n i) w e = let d = chained (displaced (number_term roles n) (register_term s roles held i)) pointed w e in subst WhereIs (ok_same _ w d.then_so) tt
  base_is (base.Absolute n) w e = let d = chained (absolute_term roles n) at w e in subst WhereIs (ok_same _ w d.then_so) tt
  base_is (base.Deferred i) w e = deferred_is (hole_at roles i) i w e

  moved_is : (size : Size) (u w : Where) (t : Shape) → moved size u t ≡ Ok w → WhereIs w
  moved_is size (At a q) w t e = subst WhereIs (ok_same (At (sum a (scaled size t)) q) w e) tt
  moved_is size _ w t e = absurd (err_ok _ w e)

  form_by : (b : Base) (index : Option ℕ) (size : Size) (w : Where) → (where_base s roles held b >>= where_indexed s roles held index size) ≡ Ok w → WhereIs w
  form_by b None size w e = let d = chained (where_base s roles held b) (where_indexed s roles held None size) w e in base_is b w (d.is ∙ d.then_so)
  form_by b (Some i) size w e =
      let d = chained (where_base s roles held b) (where_indexed s roles held (Some i) size) w e in
      let x = chained (register_term s roles held i) (moved size d.first) w d.then_so in
      moved_is size d.first w x.first x.then_so

  form_is : (f : Form) (size : Size) (w : Where) → form_where s roles held f size ≡ Ok w → WhereIs w
  unfolding form_where
  form_is f size w e = form_by f.base f.index size w e

  abbrev AimIs : Option Target → Type 0
  AimIs (Some (ToSaved i)) = hole_at roles i ≡ hole_kind.Saved
  AimIs t = Unit {0}

  abbrev AimsIs : Target × Bool → Type 0
  AimsIs x = AimIs (Some x.0)

  memory_aim : (o : Own) (a : Shape) (size : Size) (x : Target × Bool) → memory_target o a size ≡ Ok x → AimsIs x
  memory_aim own.Nothing a size x e = subst AimsIs (ok_same _ x e) tt
  memory_aim own.Register a size x e = subst AimsIs (ok_same _ x e) tt
  memory_aim (own.Slot z) a size x e = absurd (err_ok _ x e)

  own_aim : (o : Own) (size : Size) (x : Target × Bool) → own_target o size ≡ Ok x → AimsIs x
  own_aim own.Register Long x e = subst AimsIs (ok_same _ x e) tt
  own_aim (own.Slot z) size x e = subst AimsIs (ok_same _ x e) tt
  own_aim _ _ x e = absurd (err_ok _ x e)

  zero_aim : (o : Opening) (x : Target × Bool) → zero_target o ≡ Ok x → AimsIs x
  zero_aim opening.Return x e = subst AimsIs (ok_same _ x e) tt
  zero_aim opening.Save x e = absurd (err_ok _ x e)
  zero_aim opening.Other x e = absurd (err_ok _ x e)

  targeted_is : (w : Where) (size : Size) (x : Target × Bool) → WhereIs w → targeted s w size ≡ Ok x → AimsIs x
  unfolding targeted
  targeted_is OwnRegister size x p e = own_aim s.own size x e
  targeted_is RegisterZero size x p e = zero_aim s.opening x (statement_of s.is_statement _ x e)
  targeted_is (Place z i) size x p e = subst AimsIs (ok_same _ x (statement_of s.is_statement _ x e)) tt
  targeted_is (Local i) size x p e = subst AimsIs (ok_same _ x (statement_of s.is_statement _ x e)) tt
  targeted_is (Saved i) size x p e = subst AimsIs (ok_same _ x (statement_of s.is_statement _ x e)) p
  targeted_is (At a q) size x p e = memory_aim s.own a size x (statement_of s.is_statement _ x e)
  targeted_is _ size x p e = absurd (err_ok _ x (statement_of s.is_statement _ x e))

  last_none : (o : Opening) (z : Option Shape) (size : Size) (t : Taken) → last_result o z size ≡ Ok t → t.target ≡ None
  last_none opening.Save None size t e = ok_plain _ t refl e
  last_none _ _ size t e = absurd (err_ok _ t e)

  fetched_none : (w : Where) (size : Size) (t : Taken) → fetched s held w size ≡ Ok t → t.target ≡ None
  unfolding fetched
  fetched_none (Immediate a) size t e = ok_plain _ t refl e
  fetched_none (Register a) size t e = ok_plain _ t refl e
  fetched_none OwnRegister size t e = (let d = chained (own_value s.own held) (cut_term size) t e in ok_plain _ t refl d.then_so)
  fetched_none RegisterZero size t e = last_none s.opening held size t e
  fetched_none (Value z i) size t e = sized_plain (same_size z size) _ t refl e
  fetched_none (Place z i) size t e = sized_plain (same_size z size) _ t refl e
  fetched_none (Local i) size t e = sized_plain (same_size Long size) _ t refl e
  fetched_none (SavedPlace z i) size t e = sized_plain (same_size z size) _ t refl e
  fetched_none (Saved i) size t e = absurd (err_ok _ t e)
  fetched_none (At a p) size t e = ok_plain _ t refl e

  none_is : (t : Taken) → t.target ≡ None → AimIs t.target
  none_is t e = subst AimIs (sym e) tt

  taken_is : (kind : Access) (w : Where) (size : Size) (t : Taken) → WhereIs w → taken s held kind w size ≡ Ok t → AimIs t.target
  unfolding taken
  taken_is accesses.Read w size t p e = none_is t (fetched_none w size t e)
  taken_is accesses.Modify w size t p e =
      let d = chained (fetched s held w size) (λ (u : Taken). targeted s w size >>= both u) t e in
      let x = chained (targeted s w size) (both d.first) t d.then_so in
      subst (λ (y : Taken). AimIs y.target) (ok_same _ t x.then_so) (targeted_is w size x.first p x.is)
  taken_is accesses.Write w size t p e =
      let x = chained (targeted s w size) written t e in subst (λ (y : Taken). AimIs y.target) (ok_same _ t x.then_so) (targeted_is w size x.first p x.is)
  taken_is accesses.Address w size t p e = none_is t (addressed_plain w size t e)
  taken_is accesses.Count w size t p e = absurd (err_ok _ t e)

  evaluated_is : (k : OperandKind) (f : Form) (t : Taken) → evaluated s roles held k f ≡ Ok t → AimIs t.target
  unfolding evaluated
  evaluated_is k f t e =
      let d = chained (form_where s roles held f k.size) (λ (w : Where). taken s held k.access w k.size) t e in
      taken_is k.access d.first k.size t (form_is f k.size d.first d.is) d.then_so

  aim_joined : (t u : Option Target) → AimIs t → AimIs u → AimIs (last_of t u)
  aim_joined t None h k = h
  aim_joined t (Some u) h k = k

  all_is : (ks : List OperandKind) (fs : List Form) (x : Arguments) → all_evaluated s roles held ks fs ≡ Ok x → AimIs x.target
  all_is [] fs x e = subst (λ (y : Arguments). AimIs y.target) (ok_same no_arguments x e) tt
  all_is (k ∷ ks) [] x e = absurd (err_ok _ x e)
  all_is (k ∷ ks) (f ∷ fs) x e =
      let d = chained (evaluated s roles held k f) (λ (t : Taken). all_evaluated s roles held ks fs >>= in_front t) x e in
      let r = chained (all_evaluated s roles held ks fs) (in_front d.first) x d.then_so in
      subst (λ (y : Arguments). AimIs y.target) (ok_same _ x r.then_so) (aim_joined d.first.target r.first.target (evaluated_is k f d.first d.is) (all_is ks fs r.first r.is))

  -- ---- what a line does

  abbrev pub LastIs : Last → Type 0
  LastIs (Ended (Save i)) = hole_at roles i ≡ hole_kind.Saved
  LastIs l = Unit {0}

  abbrev DeedIs : Deed → Type 0
  DeedIs d = LastIs d.last

  of_deed : (u d : Deed) → DeedIs u → ◌≡◌ {A = Result Deed TemplateKind} (Ok u) (Ok d) → DeedIs d
  of_deed u d h e = subst DeedIs (ok_same u d e) h

  put_is : (op : Op) (to : Option Target) (t : Shape) (d : Deed) → AimIs to → put op to t ≡ Ok d → DeedIs d
  put_is op None t d a e = absurd (err_ok _ d e)
  put_is op (Some ToOwn) t d a e = of_deed (puts t) d tt e
  put_is op (Some (ToSlot z)) t d a e = of_deed (leaves (Ended (StoreHome z 0 t))) d tt e
  put_is op (Some (ToHome z i)) t d a e = of_deed (leaves (Ended (StoreHome z i t))) d tt e
  put_is op (Some (ToMemory z b)) t d a e = of_deed (leaves (Ended (StoreAt z b t))) d tt e
  put_is op (Some ToZero) t d a e = subst DeedIs (cond_ok (is_movl op) (leaves (Returning t)) d NotInstr e).1 tt
  put_is op (Some (ToSaved i)) t d a e = by (is_movl op && is_last_result t) e where
    by : (b : Bool) → cond b (deeds.ends (Save i)) (Err NotInstr) ≡ Ok d → DeedIs d
    by true e = of_deed (leaves (Ended (Save i))) d a e
    by false e = absurd (err_ok _ d e)

  computed_is : (op : Op) (to : Option Target) (g : Given) (d : Deed) → AimIs to → computed op to g ≡ Ok d → DeedIs d
  computed_is op to (Computes t) d a e = put_is op to t d a e
  computed_is op to (Divides t w) d a e =
      let u = chained (put op to t) (divided w) d e in of_deed (record u.first { divisors = w ∷ [] }) d (put_is op to t u.first a u.is) u.then_so
  computed_is op to (Compares x y) d a e = of_deed (leaves (Compared x y)) d tt e
  computed_is op to (Tests t) d a e = of_deed (leaves (Tested t)) d tt e

  statement_is : (b : Bool) (deed : ActShape) (d : Deed) → DeedIs (leaves (Ended deed)) → cond b (deeds.ends deed) (Err NotInstr) ≡ Ok d → DeedIs d
  statement_is true deed d h e = of_deed (leaves (Ended deed)) d h e
  statement_is false deed d h e = absurd (err_ok _ d e)

  acted_is : (a : Action) (op : Op) (x : Arguments) (d : Deed) → AimIs x.target → acted s a op x ≡ Ok d → DeedIs d
  acted_is (action.Compute f) op x d h e = computed_is op x.target (given f x.first x.second) d h e
  acted_is action.Push op x d h e = statement_is s.is_statement (Push x.first) d tt e
  acted_is _ op x d h e = absurd (err_ok _ d e)

  module _ (is_first : Bool) where
    operated_is : (op : Op) (fs : List Form) (d : Deed) → operated s roles is_first held op fs ≡ Ok d → DeedIs d
    unfolding operated
    operated_is op fs d e =
        let x = chained (all_evaluated s roles held (shape op).operands fs) (λ (x : Arguments). acted s (action_of op) op x >>= checked s roles is_first held fs x) d e in
        let u = chained (acted s (action_of op) op x.first) (checked s roles is_first held fs x.first) d x.then_so in
        subst DeedIs (in_order_is (is_disordered s roles is_first held fs u.first) (with_reads x.first u.first) d u.then_so)
        (acted_is (action_of op) op x.first u.first (all_is (shape op).operands fs x.first x.is) u.is)

    branches_is : (i : ℕ) (before : Last) (d : Deed) → branches s i before ≡ Ok d → DeedIs d
    branches_is i (Compared a b) d e = statement_is s.is_statement (Branch i a b) d tt e
    branches_is i (Tested t) d e = by s.is_signed e where
      by : (b : Bool) → cond b (ends_statement s (Branch i t (Constant 0))) (Err NotInstr) ≡ Ok d → DeedIs d
      by true e = statement_is s.is_statement (Branch i t (Constant 0)) d tt e
      by false e = absurd (err_ok _ d e)
    branches_is i _ d e = absurd (err_ok _ d e)

    instruction_is : (before : Last) (i : Instruction) (d : Deed) → instruction_did s roles is_first held before i ≡ Ok d → DeedIs d
    instruction_is before (Relation i) d e = by (is_relation (hole_at roles i)) e where
      by : (b : Bool) → cond b (branches s i before) (Err NotInstr) ≡ Ok d → DeedIs d
      by true e = branches_is i before d e
      by false e = absurd (err_ok _ d e)
    instruction_is before JumpLine d e = statement_is s.is_statement Jump d tt e
    instruction_is before CallsLine d e = statement_is s.is_statement Call d tt e
    instruction_is before Ret d e = absurd (err_ok _ d e)
    instruction_is before (Operates op fs) d e = operated_is op fs d e

    returned_is : (t : Shape) (i : Instruction) (d : Deed) → returned t i ≡ Ok d → DeedIs d
    returned_is t Ret d e = of_deed (leaves (Ended (Return t))) d tt e
    returned_is t _ d e = absurd (err_ok _ d e)

    behind_is : (before : Last) (i : Instruction) (d : Deed) → did_behind s roles is_first held before i ≡ Ok d → DeedIs d
    behind_is Plain i d e = instruction_is Plain i d e
    behind_is (Compared a b) i d e = instruction_is (Compared a b) i d e
    behind_is (Tested t) i d e = instruction_is (Tested t) i d e
    behind_is (Returning t) i d e = returned_is t i d e
    behind_is (Ended deed) i d e = absurd (err_ok _ d e)

    line_is : (before : Last) (ps : List Piece) (d : Deed) → line_did s roles is_first held before ps ≡ Ok d → DeedIs d
    unfolding line_did
    line_is before ps d e =
        let i = chained (judging.read (instruction_of ps)) (did_behind s roles is_first held before) d e in behind_is before i.first d i.then_so

-- the last line saves in the place of that token
pub lines_save : (s : Setting) (roles : List Hole) (ls : List Line) (is_first : Bool) (p q : Progress) → LastIs s roles None p.last → lines_judged s roles is_first p ls ≡ Ok q
    → LastIs s roles None q.last
lines_save s roles [] is_first p q h e = subst (λ (x : Progress). LastIs s roles None x.last) (ok_same p q e) h
lines_save s roles (l ∷ ls) is_first p q h e =
    let d = chained (judged s roles is_first l p) (λ (x : Progress). lines_judged s roles false x ls) q e in
    let j = judged_is s roles is_first l p d.first d.is in
    lines_save s roles ls false d.first q (subst (λ (x : Progress). LastIs s roles None x.last) j.is (line_is s roles p.own is_first p.last l.pieces j.deed j.did)) d.then_so
