-- A template whose act is a store to a symbol's home stores to a symbol that is a place.
use Rattle.std.proofs.Common.{◌≡◌, ◌⊎◌, inl, inr, ℕ, Bool, false, cond, Option, Some, None, Result, Ok, Err, List, [], ◌∷◌, refl}
use Rattle.std.specs.Prelude.{◌&&◌, is_none}
use Rattle.gg_base.specs.declared.size.Size.{Size}
use Rattle.gg_base.specs.declared.size.Size.TheVariants.{Byte, Long}
use Rattle.md_reader_pieces.specs.declared.piece.Line.{Line}
use Rattle.md_reader_pieces.specs.declared.piece.Piece.{Piece}
use Rattle.md_reader.specs.declared.types.Kind.{Kind}
use Rattle.md_reader.specs.declared.types.Kind.TheVariants as kind
use Rattle.md_reader.specs.declared.types.Give.{Give}
use Rattle.md_reader.specs.declared.types.Give.TheVariants as give
use Rattle.term_core.specs.Shape.{Shape, Constant}
use Rattle.vax_templates.specs.sel_terms.specs.Effects.{ActShape}
use Rattle.vax_templates.specs.sel_terms.specs.Effects as act
use Rattle.vax_templates.specs.sel_terms.specs.Same.{same_size}
use Rattle.vax_templates.specs.sel_target.specs.declared.fault.TemplateKind.{TemplateKind}
use Rattle.vax_templates.specs.sel_target.specs.declared.fault.TemplateKind.TheVariants.{NotInstr, WrongSize, Order}
use Rattle.vax_core.specs.declared.op.Op.{Op}
use Rattle.vax_core.specs.Ops.{shape}
use Rattle.vax_machine.specs.declared.function.Action.{Action}
use Rattle.vax_machine.specs.declared.function.Action.TheVariants as action
use Rattle.vax_machine.specs.Functions.{action_of}
use Rattle.vax_templates.specs.declared.form.Base.{Base}
use Rattle.vax_templates.specs.declared.form.Base.TheVariants as base
use Rattle.vax_templates.specs.declared.form.Form.{Form}
use Rattle.vax_templates.specs.declared.setting.Hole.{Hole}
use Rattle.vax_templates.specs.declared.setting.Setting.{Setting}
use Rattle.vax_templates.specs.Settings.{hole_at}
use Rattle.vax_templates.specs.Instructions.{Instruction, Relation, Jump, Calls, Ret, Operates, instruction_of, shape_of_pieces}
use Rattle.vax_templates.specs.Standing.{Where, Register, Place, Local, At, form_where, ◌>>=◌}
use Rattle.vax_templates.specs.HoleTerms.{constant_of}
use Rattle.vax_templates.specs.Targets.{Target, ToOwn, ToSlot, ToHome, ToMemory, ToZero, ToSaved}
use Rattle.vax_templates.specs.Taking.{fetched, Arguments, all_evaluated}
use Rattle.vax_templates.specs.Giving.{Given, Computes, Divides, Compares, Tests, given}
use Rattle.vax_templates.specs.Deeds.{Last, Plain, Compared, Tested, Returning, Ended, Deed, leaves, ends}
use Rattle.vax_templates.specs.Deeds.{ends_statement, is_relation, branches, is_movl, is_last_result, put, divided}
use Rattle.vax_templates.specs.Deeds.{computed, acted}
use Rattle.vax_templates.specs.Judging.{is_disordered, in_order, with_reads, checked, operated, instruction_did}
use Rattle.vax_templates.specs.Judging.{returned, did_behind, line_did, read}
use Rattle.vax_templates.specs.Progress.{Progress, at_line, kept, judged, lines_judged}
use Rattle.vax_templates.specs.GiveLines.{left_value, last_deed, register_given, number_given, base_number}
use Rattle.vax_templates.specs.GiveLines.{address_given, value_given, place_given, without_index, shape_given}
use Rattle.vax_templates.specs.GiveLines.{shape_read, given_by}
use Rattle.vax_target_writing.proofs.Each.{EachOk, bind_each, if_ok}
use Rattle.vax_target_places.proofs.Homes.{IsPlace, ToSome, all_to}

module _ (s : Setting) (roles : List Hole) where
  -- the hole 0 is no symbol's
  abbrev pub Act : ActShape → Type 0
  Act (act.StoreHome z i t) = (i ≡ 0) ⊎ IsPlace (hole_at roles i)
  Act a = Unit {0}

  abbrev pub Left : Last → Type 0
  Left (Ended deed) = Act deed
  Left l = Unit {0}

  abbrev Did : Deed → Type 0
  Did d = Left d.last

  statement_did : (deed : ActShape) → Act deed → EachOk Did (ends_statement s deed)
  statement_did deed h = if_ok Did s.is_statement (ends deed) (Err NotInstr) (λ e. h) (λ e. tt)

  put_did : (zero : Option Shape) (op : Op) (to : Option Target) (t : Shape) → ToSome s roles zero to → EachOk Did (put op to t)
  put_did zero op None t h = tt
  put_did zero op (Some ToOwn) t h = tt
  put_did zero op (Some (ToSlot z)) t h = inl refl
  put_did zero op (Some (ToHome z i)) t h = inr h
  put_did zero op (Some (ToMemory z a)) t h = tt
  put_did zero op (Some ToZero) t h = if_ok Did (is_movl op) (Ok (leaves (Returning t))) (Err NotInstr) (λ e. tt) (λ e. tt)
  put_did zero op (Some (ToSaved i)) t h = if_ok Did (is_movl op && is_last_result t) (ends (act.Save i)) (Err NotInstr) (λ e. tt) (λ e. tt)

  computed_did : (zero : Option Shape) (op : Op) (to : Option Target) (g : Given) → ToSome s roles zero to → EachOk Did (computed op to g)
  computed_did zero op to (Computes t) h = put_did zero op to t h
  computed_did zero op to (Divides t w) h = bind_each Did Did (put op to t) (divided w) (λ d k. k) (put_did zero op to t h)
  computed_did zero op to (Compares a b) h = tt
  computed_did zero op to (Tests t) h = tt

  acted_did : (zero : Option Shape) (a : Action) (op : Op) (x : Arguments) → ToSome s roles zero x.target → EachOk Did (acted s a op x)
  acted_did zero (action.Compute f) op x h = computed_did zero op x.target (given f x.first x.second) h
  acted_did zero action.Push op x h = statement_did (act.Push x.first) tt
  acted_did zero (action.Branch t) op x h = tt
  acted_did zero action.Call op x h = tt
  acted_did zero action.Return op x h = tt

  order_did : (b : Bool) (d : Deed) → Did d → EachOk Did (in_order b d)
  order_did b d h = if_ok Did d.missized (Err WrongSize) (cond b (Err Order) (Ok d)) (λ e. tt) (λ e. if_ok Did b (Err Order) (Ok d) (λ e. tt) (λ e. h))

  module _ (is_first : Bool) (zero : Option Shape) where
    operated_did : (op : Op) (fs : List Form) → EachOk Did (operated s roles is_first zero op fs)
    unfolding operated
    operated_did op fs =
        bind_each (λ (x : Arguments). ToSome s roles zero x.target) Did (all_evaluated s roles zero (shape op).operands fs)
        (λ (x : Arguments). acted s (action_of op) op x >>= checked s roles is_first zero fs x)
        (λ x h. bind_each Did Did (acted s (action_of op) op x) (checked s roles is_first zero fs x) (λ d k. order_did (is_disordered s roles is_first zero fs d) (with_reads x d) k)
        (acted_did zero (action_of op) op x h))
        (all_to s roles zero (shape op).operands fs)

    branches_did : (i : ℕ) (l : Last) → EachOk Did (branches s i l)
    branches_did i (Compared a b) = statement_did (act.Branch i a b) tt
    branches_did i (Tested t) = if_ok Did s.is_signed (ends_statement s (act.Branch i t (Constant 0))) (Err NotInstr) (λ e. statement_did (act.Branch i t (Constant 0)) tt) (λ e. tt)
    branches_did i l = tt

    instruction_does : (l : Last) (i : Instruction) → EachOk Did (instruction_did s roles is_first zero l i)
    instruction_does l (Relation i) = if_ok Did (is_relation (hole_at roles i)) (branches s i l) (Err NotInstr) (λ e. branches_did i l) (λ e. tt)
    instruction_does l Jump = statement_did act.Jump tt
    instruction_does l Calls = statement_did act.Call tt
    instruction_does l Ret = tt
    instruction_does l (Operates op fs) = operated_did op fs

    returned_did : (t : Shape) (i : Instruction) → EachOk Did (returned t i)
    returned_did t Ret = tt
    returned_did t i = tt

    behind_did : (l : Last) (i : Instruction) → EachOk Did (did_behind s roles is_first zero l i)
    behind_did (Ended deed) i = tt
    behind_did (Returning t) i = returned_did t i
    behind_did Plain i = instruction_does Plain i
    behind_did (Compared a b) i = instruction_does (Compared a b) i
    behind_did (Tested t) i = instruction_does (Tested t) i

    line_does : (l : Last) (ps : List Piece) → EachOk Did (line_did s roles is_first zero l ps)
    unfolding line_did
    line_does l ps = by (read (instruction_of ps))
      where
        by : (r : Result Instruction TemplateKind) → EachOk Did (r >>= did_behind s roles is_first zero l)
        by (Ok i) = behind_did l i
        by (Err e) = tt

  at_its_line : (line : ℕ) (r : Result Deed TemplateKind) → EachOk Did r → EachOk Did (at_line line r)
  at_its_line line (Ok x) h = h
  at_its_line line (Err e) h = tt

  line_leaves : (is_first : Bool) (l : Line) (p : Progress) → EachOk (λ (x : Progress). Left x.last) (judged s roles is_first l p)
  line_leaves is_first l p =
      bind_each Did (λ (x : Progress). Left x.last) (at_line l.line (line_did s roles is_first p.own p.last l.pieces)) (kept l.line p) (λ d h. h)
      (at_its_line l.line (line_did s roles is_first p.own p.last l.pieces) (line_does is_first p.own p.last l.pieces))

  pub lines_leave : (is_first : Bool) (p : Progress) (ls : List Line) → Left p.last → EachOk (λ (x : Progress). Left x.last) (lines_judged s roles is_first p ls)
  lines_leave is_first p [] h = h
  lines_leave is_first p (l ∷ ls) h =
      bind_each (λ (x : Progress). Left x.last) (λ (x : Progress). Left x.last) (judged s roles is_first l p) (λ (x : Progress). lines_judged s roles false x ls) (λ x k. lines_leave false x ls k)
      (line_leaves is_first l p)

  -- ---- what is given

  others_act : {A : Type 0} (r : Result A TemplateKind) (g : A → Result ActShape TemplateKind) → ((x : A) → EachOk Act (g x)) → EachOk Act (r >>= g)
  others_act (Ok x) g h = h x
  others_act (Err e) g h = tt

  register_act : (w : Where) → EachOk Act (register_given w)
  register_act (Register t) = tt
  register_act w = tt

  address_act : (w : Where) → EachOk Act (address_given w)
  address_act (At a p) = tt
  address_act w = tt

  place_act : (z : Size) (w : Where) → EachOk Act (place_given z w)
  place_act z (Place y i) = if_ok Act (same_size y z) (Ok (act.PlaceHome z i)) (Err WrongSize) (λ e. tt) (λ e. tt)
  place_act z (Local i) = if_ok Act (same_size Long z) (Ok (act.PlaceHome z i)) (Err WrongSize) (λ e. tt) (λ e. tt)
  place_act z (At a p) = tt
  place_act z w = tt

  number_act : (b : Base) → EachOk Act (base_number roles b)
  number_act (base.Hole i) = others_act (constant_of (hole_at roles i) i) number_given (λ t. tt)
  number_act b = tt

  without_act : (f : Form) (r : Result ActShape TemplateKind) → EachOk Act r → EachOk Act (without_index f r)
  without_act f r h = if_ok Act (is_none f.index) r (Err NotInstr) (λ e. h) (λ e. tt)

  shape_act : (k : Option Kind) (f : Form) → EachOk Act (shape_given s roles k f)
  unfolding shape_given
  shape_act (Some kind.Reg) f = others_act (form_where s roles None f Long) register_given (λ w. register_act w)
  shape_act (Some kind.Con) f = without_act f (base_number roles f.base) (number_act f.base)
  shape_act (Some kind.Ea) f = without_act f (form_where s roles None f Byte >>= address_given) (others_act (form_where s roles None f Byte) address_given (λ w. address_act w))
  shape_act (Some (kind.Value z)) f =
      others_act (form_where s roles None f z) (λ (w : Where). fetched s None w z >>= value_given)
      (λ w. others_act (fetched s None w z) value_given (λ t. if_ok Act t.missized (Err WrongSize) (Ok (act.Value t.term)) (λ e. tt) (λ e. tt)))
  shape_act (Some (kind.Place z)) f = others_act (form_where s roles None f z) (place_given z) (λ w. place_act z w)
  shape_act (Some kind.Nothing) f = tt
  shape_act None f = tt

  left_act : (o : Option Shape) → EachOk Act (left_value o)
  left_act None = tt
  left_act (Some t) = tt

  last_act : (l : Last) → Left l → EachOk Act (last_deed l)
  last_act (Ended deed) h = h
  last_act l h = tt

  pub given_act : (k : Option Kind) (o : Option Shape) (l : Last) (g : Give) → Left l → EachOk Act (given_by s roles k o l g)
  given_act k o l give.Fresh h = left_act o
  given_act k o l give.Reuse h = left_act o
  given_act k o l give.Scratch h = last_act l h
  given_act k o l give.Nothing h = last_act l h
  given_act k o l (give.Shape x) h = others_act (shape_read (shape_of_pieces x.pieces)) (shape_given s roles k) (λ f. shape_act k f)
