-- What a line stores to the home of a symbol, it stores to one that is a place.
use Rattle.std.proofs.Common.{◌≡◌, ◌⊎◌, inl, inr, ℕ, Bool, false, cond, Option, Some, None, Result, Ok, Err, List, [], ◌∷◌, refl, sym, subst}
use Rattle.gg_base.specs.declared.size.Size.{Size}
use Rattle.gg_base.proofs.Facts.{err_ok, ok_same}
use Rattle.l32_target_statements.specs.l32_target_rules.specs.judging_laws.specs.md_reader_pieces.specs.declared.piece.Line.{Line}
use Rattle.l32_target_statements.specs.l32_target_rules.specs.judging_laws.specs.md_reader_pieces.specs.declared.piece.Piece.{Piece}
use Rattle.l32_target_statements.specs.l32_target_rules.specs.judging_laws.specs.term_core.specs.Shape.{Shape}
use Rattle.l32_target_statements.specs.l32_target_rules.specs.judging_laws.specs.sel_terms.specs.Effects.{ActShape}
use Rattle.l32_target_statements.specs.l32_target_rules.specs.judging_laws.specs.sel_terms.specs.Effects as act
use Rattle.l32_target_statements.specs.l32_target_rules.specs.judging_laws.specs.sel_target.specs.declared.fault.TemplateKind.{TemplateKind}
use Rattle.l32_target_statements.specs.l32_target_rules.specs.judging_laws.specs.sel_target.specs.declared.fault.TemplateKind.TheVariants.{NotInstr, WrongSize, Order}
use Rattle.l32_target_statements.specs.l32_target_rules.specs.judging_laws.specs.vax_templates.specs.declared.setting.Hole.{Hole}
use Rattle.l32_target_statements.specs.l32_target_rules.specs.judging_laws.specs.vax_templates.specs.declared.setting.Hole.TheVariants as hole_kind
use Rattle.l32_target_statements.specs.l32_target_rules.specs.judging_laws.specs.vax_templates.specs.declared.setting.Own.{Own}
use Rattle.l32_target_statements.specs.l32_target_rules.specs.judging_laws.specs.vax_templates.specs.declared.setting.Own.TheVariants as own
use Rattle.l32_target_statements.specs.l32_target_rules.specs.judging_laws.specs.vax_templates.specs.declared.setting.Opening.{Opening}
use Rattle.l32_target_statements.specs.l32_target_rules.specs.judging_laws.specs.vax_templates.specs.declared.setting.Opening.TheVariants as opening
use Rattle.l32_target_statements.specs.l32_target_rules.specs.judging_laws.specs.vax_templates.specs.declared.setting.Setting.{Setting}
use Rattle.l32_target_statements.specs.l32_target_rules.specs.judging_laws.specs.vax_templates.specs.Settings.{hole_at}
use Rattle.l32_target_statements.specs.l32_target_rules.specs.judging_laws.specs.vax_templates.specs.Standing.{Where, OwnRegister, RegisterZero, Place, Local, At, ◌>>=◌}
use Rattle.l32_target_statements.specs.l32_target_rules.specs.judging_laws.specs.vax_templates.specs.Targets.{Target, ToOwn, ToSlot, ToHome, ToMemory, ToZero, ToSaved, memory_target, zero_target}
use Rattle.l32_target_statements.specs.l32_target_rules.specs.judging_laws.specs.vax_templates.specs.Taking.{Taken, Arguments, no_arguments, written}
use Rattle.l32_target_statements.specs.l32_target_rules.specs.judging_laws.specs.vax_templates.specs.Giving.{Given, Computes, Divides, Compares, Tests}
use Rattle.l32_target_statements.specs.l32_target_rules.specs.judging_laws.specs.vax_templates.specs.Deeds.{Last, Plain, Compared, Tested, Returning, Ended, Deed, leaves, ends, ends_statement, divided, is_relation, is_last_result}
use Rattle.l32_target_statements.specs.l32_target_rules.specs.judging_laws.specs.vax_templates.specs.Judging.{in_order, with_reads}
use Rattle.l32_target_statements.specs.l32_target_rules.specs.judging_laws.specs.vax_templates.specs.Progress.{Progress, progressed}
use Rattle.l32_target_statements.specs.l32_target_rules.specs.judging_laws.specs.template_judging.specs.Lines.{lines_judged}
use Rattle.l32_target_statements.specs.l32_target_rules.specs.judging_laws.specs.Each.{EachOk}
use Rattle.l32_target_statements.specs.l32_target_rules.specs.judging_laws.proofs.Binds.{chained}
use Rattle.l32_target_statements.specs.l32_target_rules.specs.judging_laws.proofs.Parts.{bind_each, always_ok, if_ok, of_ok}
use Rattle.l32_target_statements.specs.l32_target_rules.specs.judging_effects.proofs.Lines.{judged_is}
use Rattle.l32_target_statements.specs.l32_target_rules.specs.l32_templates.specs.l32_core.specs.declared.op.Op32.{Op32}
use Rattle.l32_target_statements.specs.l32_target_rules.specs.l32_templates.specs.l32_core.specs.declared.op.Op32.TheVariants as ops
use Rattle.l32_target_statements.specs.l32_target_rules.specs.l32_templates.specs.l32_core.specs.declared.op.Role.{Role}
use Rattle.l32_target_statements.specs.l32_target_rules.specs.l32_templates.specs.l32_core.specs.declared.op.Role.TheVariants as roles
use Rattle.l32_target_statements.specs.l32_target_rules.specs.l32_templates.specs.l32_core.specs.declared.op.Part.{Part}
use Rattle.l32_target_statements.specs.l32_target_rules.specs.l32_templates.specs.l32_core.specs.declared.op.Part.TheVariants as parts
use Rattle.l32_target_statements.specs.l32_target_rules.specs.l32_templates.specs.l32_core.specs.Ops.{shape}
use Rattle.l32_target_statements.specs.l32_target_rules.specs.l32_templates.specs.l32_machine.specs.declared.function.Action.{Action}
use Rattle.l32_target_statements.specs.l32_target_rules.specs.l32_templates.specs.l32_machine.specs.declared.function.Action.TheVariants as action
use Rattle.l32_target_statements.specs.l32_target_rules.specs.l32_templates.specs.l32_machine.specs.Functions.{action_of}
use Rattle.l32_target_statements.specs.l32_target_rules.specs.l32_templates.specs.declared.form.Form.{Form}
use Rattle.l32_target_statements.specs.l32_target_rules.specs.l32_templates.specs.Instructions.{Instruction, Relation, Calls, Operates, instruction_of}
use Rattle.l32_target_statements.specs.l32_target_rules.specs.l32_templates.specs.Standing.{form_where}
use Rattle.l32_target_statements.specs.l32_target_rules.specs.l32_templates.specs.Taking.{own_register, register_target, slot_target, statement_store, store_target, taken, evaluated, all_evaluated, put_in_front}
use Rattle.l32_target_statements.specs.l32_target_rules.specs.l32_templates.specs.Giving.{given}
use Rattle.l32_target_statements.specs.l32_target_rules.specs.l32_templates.specs.Deeds.{is_lw, put, computed, acted}
use Rattle.l32_target_statements.specs.l32_target_rules.specs.l32_templates.specs.Judging.{is_disordered, checked, operated, branches, instruction_did, is_ret, returned, did_behind, read, line_did}
use Rattle.l32_target_statements.specs.l32_target_rules.specs.l32_target_lines.proofs.Taken.{written_is, plain_taken, IsOfRole, role_so}
use Rattle.l32_target_statements.specs.l32_target_rules.specs.l32_target_lines.proofs.All.{Front, front_is}

-- a symbol that is a place
abbrev pub IsPlace : Hole → Type 0
IsPlace (hole_kind.Place z) = Unit {0}
IsPlace hole_kind.Local = Unit {0}
IsPlace h = ⊥

module _ (s : Setting) (hs : List Hole) where
  -- ---- what is written

  abbrev To : Target → Type 0
  To (ToHome z i) = IsPlace (hole_at hs i)
  To t = Unit {0}

  abbrev ToSome : Option Target → Type 0
  ToSome None = Unit {0}
  ToSome (Some t) = To t

  abbrev Aims : Target × Bool → Type 0
  Aims y = To y.0

  memory_aims : (x : Own) (a : Shape) (size : Size) → EachOk Aims (memory_target x a size)
  memory_aims (own.Slot z) a size = tt
  memory_aims x a size = tt

  slot_aims : (x : Own) (size : Size) → EachOk Aims (slot_target x size)
  slot_aims (own.Slot z) size = tt
  slot_aims x size = tt

  statement_aims : (w : Where) (size : Size) → IsOfRole hs w → EachOk Aims (statement_store s.own w size)
  statement_aims OwnRegister size h = slot_aims s.own size
  statement_aims (Place z i) size h = subst IsPlace (sym h) tt
  statement_aims (Local i) size h = subst IsPlace (sym h) tt
  statement_aims (At a p) size h = memory_aims s.own a size
  statement_aims w size h = tt

  store_aims : (w : Where) (size : Size) → IsOfRole hs w → EachOk Aims (store_target s w size)
  store_aims w size h = if_ok Aims s.is_statement (statement_store s.own w size) (Err NotInstr) (λ e. statement_aims w size h) (λ e. tt)

  zero_aims : (x : Opening) → EachOk Aims (zero_target x)
  zero_aims opening.Return = tt
  zero_aims x = tt

  own_aims : (x : Own) → EachOk Aims (own_register x)
  own_aims own.Register = tt
  own_aims x = tt

  register_aims : (w : Where) → EachOk Aims (register_target s w)
  register_aims OwnRegister = own_aims s.own
  register_aims RegisterZero = if_ok Aims s.is_statement (zero_target s.opening) (Err NotInstr) (λ e. zero_aims s.opening) (λ e. tt)
  register_aims w = tt

  written_aims : (r : Result (Target × Bool) TemplateKind) (t : Taken) → EachOk Aims r → (r >>= written) ≡ Ok t → ToSome t.target
  written_aims (Ok y) t h e = subst ToSome (sym (written_is y t e).0) h
  written_aims (Err k) t h e = absurd (err_ok k t e)

  role_aims : (zero : Option Shape) (role : Role) (w : Where) (t : Taken) → IsOfRole hs w → taken s zero role w ≡ Ok t → ToSome t.target
  unfolding taken
  role_aims zero roles.Destination w t h e = written_aims (register_target s w) t (register_aims w) e
  role_aims zero (roles.Store size) w t h e = written_aims (store_target s w size) t (store_aims w size h) e
  role_aims zero role w t h e = subst ToSome (sym (plain_taken s zero role w t refl e)) tt

  front_aims : (t : Taken) (r x : Arguments) → Front t r x → ToSome t.target → ToSome r.target → ToSome x.target
  front_aims t r x f a b = by t.target refl a where
    by : (o : Option Target) → t.target ≡ o → ToSome o → ToSome x.target
    by None is a = subst ToSome (sym (f.plainly is).2) b
    by (Some to) is a = subst ToSome (sym (f.written to is).2) a

  all_aim : (zero : Option Shape) (ps : List Part) (fs : List Form) (x : Arguments) → all_evaluated s hs zero ps fs ≡ Ok x → ToSome x.target
  unfolding evaluated
  all_aim zero [] fs x e = subst (λ (y : Arguments). ToSome y.target) (ok_same no_arguments x e) tt
  all_aim zero (parts.Label ∷ ps) fs x e = all_aim zero ps fs x e
  all_aim zero (parts.Operand role ∷ ps) [] x e = absurd (err_ok _ x e)
  all_aim zero (parts.Operand role ∷ ps) (f ∷ fs) x e =
      let d = chained (evaluated s hs zero role f) (λ (t : Taken). all_evaluated s hs zero ps fs >>= put_in_front t) x e in
      let w = chained (form_where s hs zero f) (taken s zero role) d.first d.is in
      let r = chained (all_evaluated s hs zero ps fs) (put_in_front d.first) x d.then_so in
      front_aims d.first r.first x (front_is d.first r.first x r.then_so) (role_aims zero role w.first d.first (role_so s hs zero f w.first w.is) w.then_so)
      (all_aim zero ps fs r.first r.is)

  arguments_aim : (zero : Option Shape) (ps : List Part) (fs : List Form) → EachOk (λ (x : Arguments). ToSome x.target) (all_evaluated s hs zero ps fs)
  arguments_aim zero ps fs = by (all_evaluated s hs zero ps fs) refl where
    by : (r : Result Arguments TemplateKind) → all_evaluated s hs zero ps fs ≡ r → EachOk (λ (x : Arguments). ToSome x.target) r
    by (Ok x) is = all_aim zero ps fs x is
    by (Err k) is = tt

  -- ---- what a line does; the hole 0 is no symbol's

  abbrev pub Act : ActShape → Type 0
  Act (act.StoreHome z i t) = (i ≡ 0) ⊎ IsPlace (hole_at hs i)
  Act a = Unit {0}

  abbrev pub Left : Last → Type 0
  Left (Ended deed) = Act deed
  Left l = Unit {0}

  abbrev Did : Deed → Type 0
  Did d = Left d.last

  statement_did : (deed : ActShape) → Act deed → EachOk Did (ends_statement s deed)
  statement_did deed h = if_ok Did s.is_statement (ends deed) (Err NotInstr) (λ e. h) (λ e. tt)

  put_did : (op : Op32) (to : Option Target) (t : Shape) → ToSome to → EachOk Did (put op to t)
  put_did op None t h = tt
  put_did op (Some ToOwn) t h = tt
  put_did op (Some (ToSlot z)) t h = inl refl
  put_did op (Some (ToHome z i)) t h = inr h
  put_did op (Some (ToMemory z a)) t h = tt
  put_did op (Some ToZero) t h = if_ok Did (is_lw op) (Ok (leaves (Returning t))) (Err NotInstr) (λ e. tt) (λ e. tt)
  put_did op (Some (ToSaved i)) t h = if_ok Did (is_last_result t) (ends (act.Save i)) (Err NotInstr) (λ e. tt) (λ e. tt)

  computed_did : (op : Op32) (to : Option Target) (g : Given) → ToSome to → EachOk Did (computed op to g)
  computed_did op to (Computes t) h = put_did op to t h
  computed_did op to (Divides t w) h = bind_each Did Did (put op to t) (divided w) (λ d k. k) (put_did op to t h)
  computed_did op to (Compares a b) h = tt
  computed_did op to (Tests t) h = tt

  acted_did : (a : Action) (op : Op32) (x : Arguments) → ToSome x.target → EachOk Did (acted s a op x)
  acted_did (action.Compute f) op x h = computed_did op x.target (given f x.first x.second) h
  acted_did action.Push op x h = statement_did (act.Push x.first) tt
  acted_did action.Jump op x h = statement_did act.Jump tt
  acted_did (action.Branch r) op x h = tt
  acted_did action.Enter op x h = tt
  acted_did action.Call op x h = tt
  acted_did action.Return op x h = tt

  order_did : (b : Bool) (d : Deed) → Did d → EachOk Did (in_order b d)
  order_did b d h = if_ok Did d.missized (Err WrongSize) (cond b (Err Order) (Ok d)) (λ e. tt) (λ e. if_ok Did b (Err Order) (Ok d) (λ f. tt) (λ f. h))

  operated_did : (is_first : Bool) (zero : Option Shape) (op : Op32) (fs : List Form) → EachOk Did (operated s hs is_first zero op fs)
  unfolding operated
  operated_did is_first zero op fs =
      bind_each (λ (x : Arguments). ToSome x.target) Did (all_evaluated s hs zero (shape op).parts fs) (λ (x : Arguments). acted s (action_of op) op x >>= checked s hs is_first zero fs x)
      (λ x h. bind_each Did Did (acted s (action_of op) op x) (checked s hs is_first zero fs x) (λ d k. order_did (is_disordered s hs is_first zero fs d) (with_reads x d) k)
      (acted_did (action_of op) op x h))
      (arguments_aim zero (shape op).parts fs)

  branches_did : (zero : Option Shape) (i : ℕ) (fs : List Form) → EachOk Did (branches s hs zero i fs)
  unfolding branches
  branches_did zero i fs =
      bind_each (λ (x : Arguments). Unit {0}) Did (all_evaluated s hs zero (shape ops.Beq).parts fs) (λ (x : Arguments). ends_statement s (act.Branch i x.first x.second))
      (λ x u. statement_did (act.Branch i x.first x.second) tt) (always_ok (all_evaluated s hs zero (shape ops.Beq).parts fs) tt)

  instruction_does : (is_first : Bool) (zero : Option Shape) (i : Instruction) → EachOk Did (instruction_did s hs is_first zero i)
  instruction_does is_first zero (Relation i fs) = if_ok Did (is_relation (hole_at hs i)) (branches s hs zero i fs) (Err NotInstr) (λ e. branches_did zero i fs) (λ e. tt)
  instruction_does is_first zero Calls = statement_did act.Call tt
  instruction_does is_first zero (Operates op fs) = operated_did is_first zero op fs

  returned_did : (t : Shape) (i : Instruction) → EachOk Did (returned t i)
  returned_did t (Operates op fs) = if_ok Did (is_ret op) (ends (act.Return t)) (Err NotInstr) (λ e. tt) (λ e. tt)
  returned_did t i = tt

  behind_did : (is_first : Bool) (zero : Option Shape) (l : Last) (i : Instruction) → EachOk Did (did_behind s hs is_first zero l i)
  behind_did is_first zero Plain i = instruction_does is_first zero i
  behind_did is_first zero (Compared a b) i = instruction_does is_first zero i
  behind_did is_first zero (Tested t) i = instruction_does is_first zero i
  behind_did is_first zero (Returning t) i = returned_did t i
  behind_did is_first zero (Ended deed) i = tt

  line_does : (is_first : Bool) (zero : Option Shape) (l : Last) (ps : List Piece) → EachOk Did (line_did s hs is_first zero l ps)
  unfolding line_did
  line_does is_first zero l ps = by (read (instruction_of ps)) where
    by : (r : Result Instruction TemplateKind) → EachOk Did (r >>= did_behind s hs is_first zero l)
    by (Ok i) = behind_did is_first zero l i
    by (Err k) = tt

  pub lines_leave : (ls : List Line) (is_first : Bool) (p q : Progress) → Left p.last → lines_judged (line_did s hs) is_first p ls ≡ Ok q → Left q.last
  lines_leave [] is_first p q h e = subst (λ (x : Progress). Left x.last) (ok_same p q e) h
  lines_leave (l ∷ ls) is_first p q h e =
      let j = judged_is (line_did s hs) is_first l ls p q e in
      lines_leave ls false (progressed l.line p j.deed) q
      (of_ok Did (line_did s hs is_first p.own p.last l.pieces) j.deed j.does (line_does is_first p.own p.last l.pieces)) j.then_so
