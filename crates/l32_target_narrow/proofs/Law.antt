-- The constants of what a template does are longwords.
use Rattle.std.proofs.Common.{◌≡◌, ℕ, zero, suc, ◌-◌, ◌^◌, ◌<◌, ◌==◌, Bool, true, false, cond, Option, Some, None, Result, Ok, Err, List, [], ◌∷◌, arith, slice_get}
use Rattle.std.specs.List.{AllByRecursion}
use Rattle.gg_base.specs.declared.size.Size.{Size}
use Rattle.gg_base.specs.declared.size.Size.TheVariants.{Byte, Word, Long}
use Rattle.l32_target_operands.specs.vax_target_meaning.specs.tree_core.specs.declared.token.Tok.{Tok}
use Rattle.l32_target_operands.specs.vax_target_meaning.specs.tree_core.specs.declared.token.Tok.TheVariants as tok
use Rattle.l32_target_operands.specs.judging_laws.specs.md_reader_pieces.specs.declared.piece.Piece.{Piece}
use Rattle.l32_target_operands.specs.judging_laws.specs.md_reader_pieces.specs.declared.piece.Line.{Line}
use Rattle.l32_target_operands.specs.judging_laws.specs.md_reader.specs.declared.types.Kind.{Kind}
use Rattle.l32_target_operands.specs.judging_laws.specs.md_reader.specs.declared.types.Kind.TheVariants as kind
use Rattle.l32_target_operands.specs.judging_laws.specs.md_reader.specs.declared.types.Class.{Class}
use Rattle.l32_target_operands.specs.judging_laws.specs.md_reader.specs.declared.types.Sym.{Sym}
use Rattle.l32_target_operands.specs.judging_laws.specs.md_reader.specs.declared.types.Sym.TheVariants as grammar_symbol
use Rattle.l32_target_operands.specs.judging_laws.specs.md_reader.specs.declared.types.Give.{Give}
use Rattle.l32_target_operands.specs.judging_laws.specs.md_reader.specs.declared.types.Give.TheVariants as give
use Rattle.l32_target_operands.specs.judging_laws.specs.md_reader.specs.declared.types.Rule.{Rule}
use Rattle.l32_target_operands.specs.judging_laws.specs.md_reader.specs.Patterns.{kind_at}
use Rattle.l32_target_operands.specs.judging_laws.specs.term_core.specs.Shape.{Shape, LastResult}
use Rattle.l32_target_operands.specs.judging_laws.specs.sel_target.specs.sel_terms_meaning.specs.term_core_accesses.specs.Keeping.{IsNarrow}
use Rattle.l32_target_operands.specs.judging_laws.specs.sel_target.specs.sel_terms_meaning.specs.Alike.{AllNarrow, IsNarrowAct, IsNarrowEffect}
use Rattle.l32_target_operands.specs.judging_laws.specs.sel_target.specs.sel_terms_meaning.proofs.Narrow.{joined_narrow}
use Rattle.l32_target_operands.specs.judging_laws.specs.sel_terms.specs.Effects.{ActShape, EffectShape, Value, PlaceHome, Branch, Push, Call, Save, Return, Jump}
use Rattle.l32_target_operands.specs.judging_laws.specs.sel_terms.specs.Same.{same_size}
use Rattle.l32_target_operands.specs.judging_laws.specs.sel_target.specs.declared.fault.TemplateKind.{TemplateKind}
use Rattle.l32_target_operands.specs.judging_laws.specs.sel_target.specs.declared.fault.TemplateKind.TheVariants.{NotInstr, WrongSize, Order}
use Rattle.l32_target_operands.specs.judging_laws.specs.vax_templates.specs.declared.form.Number.{Number as Spelled}
use Rattle.l32_target_operands.specs.judging_laws.specs.vax_templates.specs.declared.form.Number.TheVariants as number
use Rattle.l32_target_operands.specs.judging_laws.specs.vax_templates.specs.declared.setting.Hole.{Hole}
use Rattle.l32_target_operands.specs.judging_laws.specs.vax_templates.specs.declared.setting.Hole.TheVariants as hole_kind
use Rattle.l32_target_operands.specs.judging_laws.specs.vax_templates.specs.declared.setting.Own.{Own}
use Rattle.l32_target_operands.specs.judging_laws.specs.vax_templates.specs.declared.setting.Own.TheVariants as own
use Rattle.l32_target_operands.specs.judging_laws.specs.vax_templates.specs.declared.setting.Opening.{Opening}
use Rattle.l32_target_operands.specs.judging_laws.specs.vax_templates.specs.declared.setting.Opening.TheVariants as opening
use Rattle.l32_target_operands.specs.judging_laws.specs.vax_templates.specs.declared.setting.Setting.{Setting}
use Rattle.l32_target_operands.specs.judging_laws.specs.vax_templates.specs.Settings.{hole_of_token, hole_of_kind, hole_of, holes_of, saved_hole, hole_or_other, hole_at, setting_of, saved_setting}
use Rattle.l32_target_operands.specs.judging_laws.specs.vax_templates.specs.Standing as where_
use Rattle.l32_target_operands.specs.judging_laws.specs.vax_templates.specs.Standing.{Where, where_own, where_hole, where_zero, at, displaced, pointed, negated, itself, ◌>>=◌}
use Rattle.l32_target_operands.specs.judging_laws.specs.vax_templates.specs.HoleTerms.{constant_of, absolute_term, own_value, register_of, register_term}
use Rattle.l32_target_operands.specs.judging_laws.specs.vax_templates.specs.Targets.{Target, ToOwn, ToSlot, ToHome, ToMemory, ToZero, ToSaved, memory_target, zero_target}
use Rattle.l32_target_operands.specs.judging_laws.specs.vax_templates.specs.Taking.{Taken, taken_missized, sized, last_result, cut_term, fetched, written, Arguments}
use Rattle.l32_target_operands.specs.judging_laws.specs.vax_templates.specs.Giving.{Given, Computes, Divides, Compares, Tests, extended, truncated}
use Rattle.l32_target_operands.specs.judging_laws.specs.vax_templates.specs.Deeds.{Last, Plain, Compared, Tested, Returning, Ended, Deed, leaves, ends, ends_statement, is_relation, is_last_result, divided}
use Rattle.l32_target_operands.specs.judging_laws.specs.vax_templates.specs.Judging.{in_order, with_reads}
use Rattle.l32_target_operands.specs.judging_laws.specs.vax_templates.specs.Found.{saved_give, with_divisors, checked as effect_checked}
use Rattle.l32_target_operands.specs.judging_laws.specs.vax_templates.specs.Progress.{Progress, start, kept_or_put, at_line, kept}
use Rattle.l32_target_operands.specs.judging_laws.specs.vax_templates.specs.GiveLines.{left_value, last_deed, register_given, number_given, address_given, value_given, home_given, place_given, given_line}
use Rattle.l32_target_operands.specs.judging_laws.specs.vax_templates.specs.Dropped.{first_dropped, none_dropped}
use Rattle.l32_target_operands.specs.judging_laws.specs.template_judging.specs.Lines.{judged, lines_judged, given_by}
use Rattle.l32_target_operands.specs.judging_laws.specs.template_judging.specs.Found as any
use Rattle.l32_target_operands.specs.judging_laws.specs.template_judging.specs.Found.{ended, template_found}
use Rattle.l32_target_operands.specs.judging_laws.specs.Each.{Each, EachOk}
use Rattle.l32_target_operands.specs.judging_laws.specs.Numbers.{IsShort}
use Rattle.l32_target_operands.specs.judging_laws.proofs.Parts.{bind_each, if_ok, of_ok}
use Rattle.l32_target_operands.specs.l32_templates.specs.l32_core.specs.declared.op.Op32.{Op32}
use Rattle.l32_target_operands.specs.l32_templates.specs.l32_core.specs.declared.op.Op32.TheVariants as ops
use Rattle.l32_target_operands.specs.l32_templates.specs.l32_core.specs.declared.op.Role.{Role}
use Rattle.l32_target_operands.specs.l32_templates.specs.l32_core.specs.declared.op.Role.TheVariants as roles
use Rattle.l32_target_operands.specs.l32_templates.specs.l32_core.specs.declared.op.Part.{Part}
use Rattle.l32_target_operands.specs.l32_templates.specs.l32_core.specs.declared.op.Part.TheVariants as parts
use Rattle.l32_target_operands.specs.l32_templates.specs.l32_core.specs.Ops.{shape}
use Rattle.l32_target_operands.specs.l32_templates.specs.l32_machine.specs.declared.function.Action.{Action}
use Rattle.l32_target_operands.specs.l32_templates.specs.l32_machine.specs.declared.function.Action.TheVariants as action
use Rattle.l32_target_operands.specs.l32_templates.specs.l32_machine.specs.declared.function.Function.{Function}
use Rattle.l32_target_operands.specs.l32_templates.specs.l32_machine.specs.declared.function.Function.TheVariants as functions
use Rattle.l32_target_operands.specs.l32_templates.specs.l32_machine.specs.Functions.{action_of}
use Rattle.l32_target_operands.specs.l32_templates.specs.declared.form.Form.{Form}
use Rattle.l32_target_operands.specs.l32_templates.specs.declared.form.Form.TheVariants as form
use Rattle.l32_target_operands.specs.l32_templates.specs.Instructions.{Instruction, Relation, Calls, Operates, instruction_of, shape_of_pieces}
use Rattle.l32_target_operands.specs.l32_templates.specs.Standing.{where_deferred, form_where}
use Rattle.l32_target_operands.specs.l32_templates.specs.Taking.{numbered, registered, sourced, addressed, own_register, register_target, slot_target, statement_store, store_target, taken, evaluated, in_front_of, put_in_front, all_evaluated}
use Rattle.l32_target_operands.specs.l32_templates.specs.Giving.{given}
use Rattle.l32_target_operands.specs.l32_templates.specs.Deeds.{is_lw, put, computed, acted}
use Rattle.l32_target_operands.specs.l32_templates.specs.Judging.{is_disordered, checked, operated, branches, instruction_did, is_ret, returned, did_behind, read, line_did}
use Rattle.l32_target_operands.specs.l32_templates.specs.GiveLines.{form_number, shape_given, shape_read, given_shape}
use Rattle.l32_target_operands.specs.l32_templates.specs.Found.{l32_lines}
use Rattle.l32_target_operands.specs.Places.{FormIsShort}
use Rattle.l32_target_operands.proofs.Short.{AreShort, IsShortLine, line_short, shape_short}
use Rattle.l32_target_narrow.specs.Laws.{EffectsAreNarrow}

-- ---- what is narrow

abbrev HoleIsNarrow : Hole → Type 0
HoleIsNarrow (hole_kind.Literal n) = n < 2 ^ 32
HoleIsNarrow h = Unit {0}

abbrev HolesAreNarrow : List Hole → Type 0
HolesAreNarrow holes = AllByRecursion HoleIsNarrow holes

abbrev SomeNarrow : Option Shape → Type 0
SomeNarrow None = Unit {0}
SomeNarrow (Some t) = IsNarrow t

abbrev WhereNarrow : Where → Type 0
WhereNarrow (where_.Immediate t) = IsNarrow t
WhereNarrow (where_.Register t) = IsNarrow t
WhereNarrow (where_.At a p) = IsNarrow a
WhereNarrow w = Unit {0}

abbrev TargetNarrow : Target → Type 0
TargetNarrow (ToMemory z a) = IsNarrow a
TargetNarrow t = Unit {0}

abbrev AimNarrow : Option Target → Type 0
AimNarrow None = Unit {0}
AimNarrow (Some t) = TargetNarrow t

abbrev TakenNarrow : Taken → Type 0
TakenNarrow t = IsNarrow t.term × AimNarrow t.target

abbrev ArgumentsNarrow : Arguments → Type 0
ArgumentsNarrow x = IsNarrow x.first × IsNarrow x.second × AimNarrow x.target

abbrev GivenNarrow : Given → Type 0
GivenNarrow (Computes t) = IsNarrow t
GivenNarrow (Divides t d) = IsNarrow t × IsNarrow d
GivenNarrow (Compares a b) = IsNarrow a × IsNarrow b
GivenNarrow (Tests t) = IsNarrow t

abbrev LastNarrow : Last → Type 0
LastNarrow Plain = Unit {0}
LastNarrow (Compared a b) = IsNarrow a × IsNarrow b
LastNarrow (Tested t) = IsNarrow t
LastNarrow (Returning t) = IsNarrow t
LastNarrow (Ended deed) = IsNarrowAct deed

abbrev DeedNarrow : Deed → Type 0
DeedNarrow d = SomeNarrow d.own × LastNarrow d.last × AllNarrow d.divisors

abbrev ProgressNarrow : Progress → Type 0
ProgressNarrow p = SomeNarrow p.own × LastNarrow p.last × AllNarrow p.divisors

-- ---- operands

hole_nth : (holes : List Hole) (k : ℕ) → HolesAreNarrow holes → HoleIsNarrow (hole_or_other (slice_get holes k))
hole_nth [] k h = tt
hole_nth (x ∷ holes) zero h = h.0
hole_nth (x ∷ holes) (suc k) h = hole_nth holes k h.1

hole_is : (holes : List Hole) (i : ℕ) → HolesAreNarrow holes → HoleIsNarrow (hole_at holes i)
hole_is holes i h = by (i == 0) where
  by : (b : Bool) → HoleIsNarrow (cond b hole_kind.Other (hole_or_other (slice_get holes (i - 1))))
  by true = tt
  by false = hole_nth holes (i - 1) h

constant_narrow : (h : Hole) (i : ℕ) → HoleIsNarrow h → EachOk IsNarrow (constant_of h i)
constant_narrow hole_kind.Constant i k = tt
constant_narrow (hole_kind.Literal n) i k = k
constant_narrow h i k = tt

module _ (s : Setting) (holes : List Hole) (zero' : Option Shape) (n : HolesAreNarrow holes) (z : SomeNarrow zero') where
  absolute_narrow : (x : Spelled) → IsShort x → EachOk IsNarrow (absolute_term holes x)
  absolute_narrow (number.Itself k) long = long
  absolute_narrow (number.Symbol i) long = constant_narrow (hole_at holes i) i (hole_is holes i n)

  own_narrow : (o : Own) (t : Option Shape) → SomeNarrow t → EachOk IsNarrow (own_value o t)
  own_narrow own.Register (Some t) h = h
  own_narrow own.Register None h = tt
  own_narrow own.Nothing t h = tt
  own_narrow (own.Slot y) t h = tt

  of_register : (h : Hole) (i : ℕ) → EachOk IsNarrow (register_of h i)
  of_register hole_kind.Register i = tt
  of_register h i = tt

  register_narrow : (i : ℕ) → EachOk IsNarrow (register_term s holes zero' i)
  register_narrow i = if_ok IsNarrow (i == 0) (own_value s.own zero') (register_of (hole_at holes i) i) (λ e. own_narrow s.own zero' z) (λ e. of_register (hole_at holes i) i)

  where_own_narrow : (o : Own) → EachOk WhereNarrow (where_own o)
  where_own_narrow own.Nothing = tt
  where_own_narrow own.Register = tt
  where_own_narrow (own.Slot y) = tt

  where_hole_narrow : (h : Hole) (i : ℕ) → EachOk WhereNarrow (where_hole h i)
  where_hole_narrow hole_kind.Register i = tt
  where_hole_narrow (hole_kind.Value y) i = tt
  where_hole_narrow (hole_kind.Place y) i = tt
  where_hole_narrow hole_kind.Local i = tt
  where_hole_narrow (hole_kind.SavedPlace y) i = tt
  where_hole_narrow hole_kind.Address i = tt
  where_hole_narrow hole_kind.Object i = tt
  where_hole_narrow hole_kind.Saved i = tt
  where_hole_narrow h i = tt

  where_zero_narrow : (o : Opening) → EachOk WhereNarrow (where_zero o)
  where_zero_narrow opening.Other = tt
  where_zero_narrow opening.Save = tt
  where_zero_narrow opening.Return = tt

  where_deferred_narrow : (h : Hole) (i : ℕ) → EachOk WhereNarrow (where_deferred h i)
  where_deferred_narrow hole_kind.Local i = tt
  where_deferred_narrow h i = tt

  displaced_narrow : (d r : Result Shape TemplateKind) → EachOk IsNarrow d → EachOk IsNarrow r → EachOk IsNarrow (displaced d r)
  displaced_narrow (Ok a) (Ok b) h k = (h, k)
  displaced_narrow (Ok a) (Err e) h k = tt
  displaced_narrow (Err e) r h k = tt

  form_narrow : (f : Form) → FormIsShort f → EachOk WhereNarrow (form_where s holes zero' f)
  unfolding form_where
  form_narrow form.RegisterZero short = where_zero_narrow s.opening
  form_narrow (form.Hole i) short = if_ok WhereNarrow (i == 0) (where_own s.own) (where_hole (hole_at holes i) i) (λ e. where_own_narrow s.own) (λ e. where_hole_narrow (hole_at holes i) i)
  form_narrow (form.Immediate x) short = bind_each IsNarrow WhereNarrow (absolute_term holes x) itself (λ t h. h) (absolute_narrow x short)
  form_narrow (form.Negative i) short = bind_each IsNarrow WhereNarrow (constant_of (hole_at holes i) i) negated (λ t h. h) (constant_narrow (hole_at holes i) i (hole_is holes i n))
  form_narrow (form.Displacement x i) short =
      bind_each IsNarrow WhereNarrow (displaced (absolute_term holes x) (register_term s holes zero' i)) at (λ t h. h)
      (displaced_narrow (absolute_term holes x) (register_term s holes zero' i) (absolute_narrow x short) (register_narrow i))
  form_narrow (form.DisplacementDeferred x i) short =
      bind_each IsNarrow WhereNarrow (displaced (absolute_term holes x) (register_term s holes zero' i)) pointed (λ t h. h)
      (displaced_narrow (absolute_term holes x) (register_term s holes zero' i) (absolute_narrow x short) (register_narrow i))
  form_narrow (form.Deferred i) short = where_deferred_narrow (hole_at holes i) i

  truncated_narrow : (size : Size) (t : Shape) → IsNarrow t → IsNarrow (truncated size t)
  truncated_narrow Byte t h = h
  truncated_narrow Word t h = h
  truncated_narrow Long t h = h

  sized_narrow : (y size : Size) (t : Taken) → TakenNarrow t → TakenNarrow (sized y size t)
  sized_narrow y size t h = by (same_size y size) where
    by : (b : Bool) → TakenNarrow (cond b t taken_missized)
    by true = h
    by false = (omega arith, tt)

  result_narrow : (o : Opening) (size : Size) → EachOk TakenNarrow (last_result o zero' size)
  result_narrow opening.Save size = saved zero' where
    saved : (t : Option Shape) → EachOk TakenNarrow (last_result opening.Save t size)
    saved None = (truncated_narrow size LastResult tt, tt)
    saved (Some t) = tt
  result_narrow opening.Return size = tt
  result_narrow opening.Other size = tt

  fetched_narrow : (w : Where) (size : Size) → WhereNarrow w → EachOk TakenNarrow (fetched s zero' w size)
  unfolding fetched
  fetched_narrow (where_.Immediate t) size h = (truncated_narrow size t h, tt)
  fetched_narrow (where_.Register t) size h = (truncated_narrow size t h, tt)
  fetched_narrow where_.OwnRegister size h = bind_each IsNarrow TakenNarrow (own_value s.own zero') (cut_term size) (λ t k. (truncated_narrow size t k, tt)) (own_narrow s.own zero' z)
  fetched_narrow where_.RegisterZero size h = result_narrow s.opening size
  fetched_narrow (where_.Value y i) size h = sized_narrow y size _ (tt, tt)
  fetched_narrow (where_.Place y i) size h = sized_narrow y size _ (tt, tt)
  fetched_narrow (where_.Local i) size h = sized_narrow Long size _ (tt, tt)
  fetched_narrow (where_.SavedPlace y i) size h = sized_narrow y size _ (tt, tt)
  fetched_narrow (where_.Saved i) size h = tt
  fetched_narrow (where_.At a p) size h = (h, tt)

  numbered_narrow : (w : Where) → WhereNarrow w → EachOk TakenNarrow (numbered w)
  numbered_narrow (where_.Immediate t) h = (h, tt)
  numbered_narrow w h = tt

  registered_narrow : (w : Where) → WhereNarrow w → EachOk TakenNarrow (registered s zero' w)
  registered_narrow (where_.Register t) h = fetched_narrow (where_.Register t) Long h
  registered_narrow where_.OwnRegister h = fetched_narrow where_.OwnRegister Long h
  registered_narrow where_.RegisterZero h = fetched_narrow where_.RegisterZero Long h
  registered_narrow w h = tt

  sourced_narrow : (w : Where) (size : Size) → WhereNarrow w → EachOk TakenNarrow (sourced s zero' w size)
  sourced_narrow (where_.Immediate t) size h = tt
  sourced_narrow w size h = fetched_narrow w size h

  addressed_narrow : (w : Where) → WhereNarrow w → EachOk TakenNarrow (addressed w)
  addressed_narrow (where_.At a p) h = (h, tt)
  addressed_narrow (where_.SavedPlace y i) h = (tt, tt)
  addressed_narrow w h = tt

  abbrev Aimed : Target × Bool → Type 0
  Aimed x = TargetNarrow x.0

  own_aimed : (o : Own) → EachOk Aimed (own_register o)
  own_aimed own.Nothing = tt
  own_aimed own.Register = tt
  own_aimed (own.Slot y) = tt

  memory_aimed : (o : Own) (a : Shape) (size : Size) → IsNarrow a → EachOk Aimed (memory_target o a size)
  memory_aimed own.Nothing a size h = h
  memory_aimed own.Register a size h = h
  memory_aimed (own.Slot y) a size h = tt

  zero_aimed : (o : Opening) → EachOk Aimed (zero_target o)
  zero_aimed opening.Return = tt
  zero_aimed opening.Save = tt
  zero_aimed opening.Other = tt

  register_aimed : (w : Where) → EachOk Aimed (register_target s w)
  register_aimed where_.OwnRegister = own_aimed s.own
  register_aimed where_.RegisterZero = if_ok Aimed s.is_statement (zero_target s.opening) (Err NotInstr) (λ e. zero_aimed s.opening) (λ e. tt)
  register_aimed w = tt

  slot_aimed : (o : Own) (size : Size) → EachOk Aimed (slot_target o size)
  slot_aimed own.Nothing size = tt
  slot_aimed own.Register size = tt
  slot_aimed (own.Slot y) size = tt

  statement_aimed : (w : Where) (size : Size) → WhereNarrow w → EachOk Aimed (statement_store s.own w size)
  statement_aimed where_.OwnRegister size h = slot_aimed s.own size
  statement_aimed (where_.Place y i) size h = tt
  statement_aimed (where_.Local i) size h = tt
  statement_aimed (where_.Saved i) size h = tt
  statement_aimed (where_.At a p) size h = memory_aimed s.own a size h
  statement_aimed w size h = tt

  store_aimed : (w : Where) (size : Size) → WhereNarrow w → EachOk Aimed (store_target s w size)
  store_aimed w size h = if_ok Aimed s.is_statement (statement_store s.own w size) (Err NotInstr) (λ e. statement_aimed w size h) (λ e. tt)

  taken_narrow : (r : Role) (w : Where) → WhereNarrow w → EachOk TakenNarrow (taken s zero' r w)
  unfolding taken
  taken_narrow roles.Number w h = numbered_narrow w h
  taken_narrow roles.Words w h = tt
  taken_narrow roles.Count w h = tt
  taken_narrow roles.Destination w h = bind_each Aimed TakenNarrow (register_target s w) written (λ x j. (omega arith, j)) (register_aimed w)
  taken_narrow roles.Register w h = registered_narrow w h
  taken_narrow (roles.Source size) w h = sourced_narrow w size h
  taken_narrow (roles.Store size) w h = bind_each Aimed TakenNarrow (store_target s w size) written (λ x j. (omega arith, j)) (store_aimed w size h)
  taken_narrow roles.Address w h = addressed_narrow w h

  evaluated_narrow : (r : Role) (f : Form) → FormIsShort f → EachOk TakenNarrow (evaluated s holes zero' r f)
  unfolding evaluated
  evaluated_narrow r f short = bind_each WhereNarrow TakenNarrow (form_where s holes zero' f) (taken s zero' r) (λ w h. taken_narrow r w h) (form_narrow f short)

  front_narrow : (t : Taken) (x : Arguments) → TakenNarrow t → ArgumentsNarrow x → EachOk ArgumentsNarrow (put_in_front t x)
  front_narrow t x h j = by t.target h.1 where
    by : (o : Option Target) → AimNarrow o → EachOk ArgumentsNarrow (in_front_of t x o)
    by None a = (h.0, j.0, j.2)
    by (Some to) a = (j.0, j.1, a)

  all_narrow : (ps : List Part) (fs : List Form) → AreShort fs → EachOk ArgumentsNarrow (all_evaluated s holes zero' ps fs)
  all_narrow [] fs short = (omega arith, omega arith, tt)
  all_narrow (parts.Label ∷ ps) fs short = all_narrow ps fs short
  all_narrow (parts.Operand r ∷ ps) [] short = tt
  all_narrow (parts.Operand r ∷ ps) (f ∷ fs) short =
      bind_each TakenNarrow ArgumentsNarrow (evaluated s holes zero' r f) (λ (t : Taken). all_evaluated s holes zero' ps fs >>= put_in_front t)
      (λ t h. bind_each ArgumentsNarrow ArgumentsNarrow (all_evaluated s holes zero' ps fs) (put_in_front t) (λ x j. front_narrow t x h j)
      (all_narrow ps fs short.1)) (evaluated_narrow r f short.0)

  -- ---- instructions

  computed_put : (op : Op32) (to : Option Target) (t : Shape) → AimNarrow to → IsNarrow t → EachOk DeedNarrow (put op to t)
  computed_put op None t a h = tt
  computed_put op (Some ToOwn) t a h = (h, tt, tt)
  computed_put op (Some (ToSlot y)) t a h = (tt, h, tt)
  computed_put op (Some (ToHome y i)) t a h = (tt, h, tt)
  computed_put op (Some (ToMemory y b)) t a h = (tt, (a, h), tt)
  computed_put op (Some ToZero) t a h = if_ok DeedNarrow (is_lw op) (Ok (leaves (Returning t))) (Err NotInstr) (λ e. (tt, h, tt)) (λ e. tt)
  computed_put op (Some (ToSaved i)) t a h = if_ok DeedNarrow (is_last_result t) (ends (Save i)) (Err NotInstr) (λ e. (tt, tt, tt)) (λ e. tt)

  computed_narrow : (op : Op32) (to : Option Target) (g : Given) → AimNarrow to → GivenNarrow g → EachOk DeedNarrow (computed op to g)
  computed_narrow op to (Computes t) a h = computed_put op to t a h
  computed_narrow op to (Divides t d) a h = bind_each DeedNarrow DeedNarrow (put op to t) (divided d) (λ x k. (k.0, k.1, (h.1, tt))) (computed_put op to t a h.0)
  computed_narrow op to (Compares x y) a h = tt
  computed_narrow op to (Tests t) a h = tt

  extended_narrow : (size : Size) (t : Shape) → IsNarrow t → IsNarrow (extended size t)
  extended_narrow Byte t h = h
  extended_narrow Word t h = h
  extended_narrow Long t h = h

  given_narrow : (f : Function) (a b : Shape) → IsNarrow a → IsNarrow b → GivenNarrow (given f a b)
  given_narrow functions.Copy a b h k = h
  given_narrow (functions.SignExtend size) a b h k = extended_narrow size a h
  given_narrow functions.Negate a b h k = h
  given_narrow functions.Complement a b h k = h
  given_narrow functions.Add a b h k = (h, k)
  given_narrow functions.Subtract a b h k = (h, k)
  given_narrow functions.Multiply a b h k = (h, k)
  given_narrow functions.Divide a b h k = ((h, k), k)
  given_narrow functions.And a b h k = (h, k)
  given_narrow functions.Or a b h k = (h, k)
  given_narrow functions.ExclusiveOr a b h k = (h, k)
  given_narrow functions.ShiftLeft a b h k = ((k, omega arith), h)
  given_narrow functions.ShiftRight a b h k = ((k, omega arith), h)

  statement_narrow : (deed : ActShape) → IsNarrowAct deed → EachOk DeedNarrow (ends_statement s deed)
  statement_narrow deed h = if_ok DeedNarrow s.is_statement (ends deed) (Err NotInstr) (λ e. (tt, h, tt)) (λ e. tt)

  acted_narrow : (a : Action) (op : Op32) (x : Arguments) → ArgumentsNarrow x → EachOk DeedNarrow (acted s a op x)
  acted_narrow (action.Compute f) op x h = computed_narrow op x.target (given f x.first x.second) h.2 (given_narrow f x.first x.second h.0 h.1)
  acted_narrow action.Push op x h = statement_narrow (Push x.first) h.0
  acted_narrow action.Jump op x h = statement_narrow Jump tt
  acted_narrow (action.Branch t) op x h = tt
  acted_narrow action.Enter op x h = tt
  acted_narrow action.Call op x h = tt
  acted_narrow action.Return op x h = tt

  ordered_narrow : (disordered : Bool) (d : Deed) → DeedNarrow d → EachOk DeedNarrow (in_order disordered d)
  ordered_narrow disordered d h =
      if_ok DeedNarrow d.missized (Err WrongSize) (cond disordered (Err Order) (Ok d)) (λ e. tt) (λ e. if_ok DeedNarrow disordered (Err Order) (Ok d) (λ f. tt) (λ f. h))

  operated_narrow : (is_first : Bool) (op : Op32) (fs : List Form) → AreShort fs → EachOk DeedNarrow (operated s holes is_first zero' op fs)
  unfolding operated
  operated_narrow is_first op fs short =
      bind_each ArgumentsNarrow DeedNarrow (all_evaluated s holes zero' (shape op).parts fs)
      (λ (x : Arguments). acted s (action_of op) op x >>= checked s holes is_first zero' fs x)
      (λ x h. bind_each DeedNarrow DeedNarrow (acted s (action_of op) op x) (checked s holes is_first zero' fs x)
      (λ d k. ordered_narrow (is_disordered s holes is_first zero' fs d) (with_reads x d) k) (acted_narrow (action_of op) op x h))
      (all_narrow (shape op).parts fs short)

  branched_narrow : (i : ℕ) (fs : List Form) → AreShort fs → EachOk DeedNarrow (branches s holes zero' i fs)
  unfolding branches
  branched_narrow i fs short =
      bind_each ArgumentsNarrow DeedNarrow (all_evaluated s holes zero' (shape ops.Beq).parts fs) (λ (x : Arguments). ends_statement s (Branch i x.first x.second))
      (λ x h. statement_narrow (Branch i x.first x.second) (h.0, h.1)) (all_narrow (shape ops.Beq).parts fs short)

  instruction_narrow : (is_first : Bool) (i : Instruction) → IsShortLine i → EachOk DeedNarrow (instruction_did s holes is_first zero' i)
  instruction_narrow is_first (Relation i fs) short = if_ok DeedNarrow (is_relation (hole_at holes i)) (branches s holes zero' i fs) (Err NotInstr) (λ e. branched_narrow i fs short) (λ e. tt)
  instruction_narrow is_first Calls short = statement_narrow Call tt
  instruction_narrow is_first (Operates op fs) short = operated_narrow is_first op fs short

  returned_narrow : (t : Shape) (i : Instruction) → IsNarrow t → EachOk DeedNarrow (returned t i)
  returned_narrow t (Operates op fs) h = if_ok DeedNarrow (is_ret op) (ends (Return t)) (Err NotInstr) (λ e. (tt, h, tt)) (λ e. tt)
  returned_narrow t (Relation i fs) h = tt
  returned_narrow t Calls h = tt

  behind_narrow : (is_first : Bool) (l : Last) (i : Instruction) → LastNarrow l → IsShortLine i → EachOk DeedNarrow (did_behind s holes is_first zero' l i)
  behind_narrow is_first Plain i h short = instruction_narrow is_first i short
  behind_narrow is_first (Compared a b) i h short = instruction_narrow is_first i short
  behind_narrow is_first (Tested t) i h short = instruction_narrow is_first i short
  behind_narrow is_first (Returning t) i h short = returned_narrow t i h
  behind_narrow is_first (Ended deed) i h short = tt

  line_narrow : (ps : List Piece) (is_first : Bool) (l : Last) → LastNarrow l → EachOk DeedNarrow (line_did s holes is_first zero' l ps)
  unfolding line_did
  line_narrow ps is_first l h = by (instruction_of ps) (line_short ps) where
    by : (o : Option Instruction) → Each IsShortLine o → EachOk DeedNarrow (read o >>= did_behind s holes is_first zero' l)
    by None short = tt
    by (Some i) short = behind_narrow is_first l i h short

-- ---- templates

own_kept : (a b : Option Shape) → SomeNarrow a → SomeNarrow b → SomeNarrow (kept_or_put a b)
own_kept a None h k = h
own_kept a (Some t) h k = k

module _ (s : Setting) (holes : List Hole) (n : HolesAreNarrow holes) where
  step_narrow : (line : ℕ) (p : Progress) (r : Result Deed TemplateKind) → ProgressNarrow p → EachOk DeedNarrow r → EachOk ProgressNarrow (at_line line r >>= kept line p)
  step_narrow line p (Ok d) h k = (own_kept p.own d.own h.0 k.0, k.1, joined_narrow p.divisors d.divisors h.2 k.2)
  step_narrow line p (Err e) h k = tt

  lines_narrow : (ls : List Line) (is_first : Bool) (p : Progress) → ProgressNarrow p → EachOk ProgressNarrow (lines_judged (line_did s holes) is_first p ls)
  lines_narrow [] is_first p h = h
  lines_narrow (l ∷ ls) is_first p h =
      bind_each ProgressNarrow ProgressNarrow (judged (line_did s holes) is_first l p) (λ (x : Progress). lines_judged (line_did s holes) false x ls)
      (λ x k. lines_narrow ls false x k)
      (step_narrow l.line p (line_did s holes is_first p.own p.last l.pieces) h (line_narrow s holes p.own n h.0 l.pieces is_first p.last h.1))

  value_narrow : (t : Option Shape) → SomeNarrow t → EachOk IsNarrowAct (left_value t)
  value_narrow None h = tt
  value_narrow (Some t) h = h

  deed_narrow : (l : Last) → LastNarrow l → EachOk IsNarrowAct (last_deed l)
  deed_narrow (Ended deed) h = h
  deed_narrow l h = tt

  given_register : (w : Where) → WhereNarrow w → EachOk IsNarrowAct (register_given w)
  given_register (where_.Register t) h = h
  given_register w h = tt

  given_address : (w : Where) → WhereNarrow w → EachOk IsNarrowAct (address_given w)
  given_address (where_.At a p) h = h
  given_address w h = tt

  given_value : (t : Taken) → TakenNarrow t → EachOk IsNarrowAct (value_given t)
  given_value t h = if_ok IsNarrowAct t.missized (Err WrongSize) (Ok (Value t.term)) (λ e. tt) (λ e. h.0)

  given_home : (size has : Size) (i : ℕ) → EachOk IsNarrowAct (home_given size has i)
  given_home size has i = if_ok IsNarrowAct (same_size has size) (Ok (PlaceHome size i)) (Err WrongSize) (λ e. tt) (λ e. tt)

  given_place : (size : Size) (w : Where) → WhereNarrow w → EachOk IsNarrowAct (place_given size w)
  given_place size (where_.Place y i) h = given_home size y i
  given_place size (where_.Local i) h = given_home size Long i
  given_place size (where_.At a p) h = h
  given_place size w h = tt

  given_number : (f : Form) → EachOk IsNarrowAct (form_number holes f)
  given_number (form.Hole i) = bind_each IsNarrow IsNarrowAct (constant_of (hole_at holes i) i) number_given (λ t h. h) (constant_narrow (hole_at holes i) i (hole_is holes i n))
  given_number f = tt

  shape_narrow : (k : Option Kind) (f : Form) → FormIsShort f → EachOk IsNarrowAct (shape_given s holes k f)
  unfolding shape_given
  shape_narrow (Some kind.Reg) f short = bind_each WhereNarrow IsNarrowAct (form_where s holes None f) register_given given_register (form_narrow s holes None n tt f short)
  shape_narrow (Some kind.Con) f short = given_number f
  shape_narrow (Some kind.Ea) f short = bind_each WhereNarrow IsNarrowAct (form_where s holes None f) address_given given_address (form_narrow s holes None n tt f short)
  shape_narrow (Some (kind.Value y)) f short =
      bind_each WhereNarrow IsNarrowAct (form_where s holes None f) (λ (w : Where). sourced s None w y >>= value_given)
      (λ w h. bind_each TakenNarrow IsNarrowAct (sourced s None w y) value_given given_value (sourced_narrow s holes None n tt w y h)) (form_narrow s holes None n tt f short)
  shape_narrow (Some (kind.Place y)) f short =
      bind_each WhereNarrow IsNarrowAct (form_where s holes None f) (place_given y) (given_place y) (form_narrow s holes None n tt f short)
  shape_narrow (Some kind.Nothing) f short = tt
  shape_narrow None f short = tt

  pieces_narrow : (k : Option Kind) (o : Option Form) → Each FormIsShort o → EachOk IsNarrowAct (shape_read o >>= shape_given s holes k)
  pieces_narrow k None h = tt
  pieces_narrow k (Some f) h = shape_narrow k f h

  by_narrow : (k : Option Kind) (t : Option Shape) (l : Last) (g : Give) → SomeNarrow t → LastNarrow l → EachOk IsNarrowAct (given_by (given_shape s holes k) t l g)
  by_narrow k t l give.Fresh h j = value_narrow t h
  by_narrow k t l give.Reuse h j = value_narrow t h
  by_narrow k t l give.Scratch h j = deed_narrow l j
  by_narrow k t l give.Nothing h j = deed_narrow l j
  by_narrow k t l (give.Shape x) h j = pieces_narrow k (shape_of_pieces x.pieces) (shape_short x.pieces)

  none_dropped_narrow : (e : EffectShape) (o : Option ℕ) → IsNarrowEffect e → EachOk IsNarrowEffect (none_dropped e o)
  none_dropped_narrow e None h = h
  none_dropped_narrow e (Some line) h = tt

  at_line_narrow : (line : ℕ) (r : Result ActShape TemplateKind) → EachOk IsNarrowAct r → EachOk IsNarrowAct (at_line line r)
  at_line_narrow line (Ok x) h = h
  at_line_narrow line (Err e) h = tt

  ended_narrow : (k : Option Kind) (line : ℕ) (g : Give) (p : Progress) → ProgressNarrow p → EachOk IsNarrowEffect (ended (given_shape s holes k) line g p)
  unfolding ended
  ended_narrow k line g p h =
      bind_each IsNarrowAct IsNarrowEffect (at_line line (given_by (given_shape s holes k) p.own p.last g)) (λ (deed : ActShape). effect_checked p (with_divisors p deed))
      (λ deed j. none_dropped_narrow (with_divisors p deed) (first_dropped (with_divisors p deed) p.reads) (j, h.2))
      (at_line_narrow line (given_by (given_shape s holes k) p.own p.last g) (by_narrow k p.own p.last g h.0 h.1))

  template_narrow : (k : Option Kind) (ls : List Line) (g : Give) (e : EffectShape) → template_found l32_lines s holes k ls g ≡ Ok e → IsNarrowEffect e
  unfolding template_found
  template_narrow k ls g e is =
      of_ok IsNarrowEffect (lines_judged (line_did s holes) true start ls >>= ended (given_shape s holes k) (given_line ls g) g) e is
      (bind_each ProgressNarrow IsNarrowEffect (lines_judged (line_did s holes) true start ls) (ended (given_shape s holes k) (given_line ls g) g)
      (λ p h. ended_narrow k (given_line ls g) g p h) (lines_narrow ls true start (tt, tt, tt)))

token_narrow : (x : Tok) → HoleIsNarrow (hole_of_token x)
token_narrow tok.Zero = omega arith
token_narrow tok.One = omega arith
token_narrow tok.Two = omega arith
token_narrow tok.Four = omega arith
token_narrow tok.Eight = omega arith
token_narrow x = tt

kind_narrow : (k : Option Kind) → HoleIsNarrow (hole_of_kind k)
kind_narrow None = tt
kind_narrow (Some kind.Reg) = tt
kind_narrow (Some (kind.Value y)) = tt
kind_narrow (Some (kind.Place y)) = tt
kind_narrow (Some kind.Con) = tt
kind_narrow (Some kind.Ea) = tt
kind_narrow (Some kind.Nothing) = tt

symbol_narrow : (classes : List Class) (x : Sym) → HoleIsNarrow (hole_of classes x)
symbol_narrow classes (grammar_symbol.Tok t) = token_narrow t
symbol_narrow classes (grammar_symbol.Class c) = kind_narrow (kind_at classes c)

symbols_narrow : (classes : List Class) (right : List Sym) → HolesAreNarrow (holes_of classes right)
symbols_narrow classes [] = tt
symbols_narrow classes (x ∷ right) = (symbol_narrow classes x, symbols_narrow classes right)

saved_narrow : (k : Kind) → HoleIsNarrow (saved_hole k)
saved_narrow kind.Reg = tt
saved_narrow (kind.Value y) = tt
saved_narrow (kind.Place y) = tt
saved_narrow kind.Con = tt
saved_narrow kind.Ea = tt
saved_narrow kind.Nothing = tt

of_rules : (classes : List Class) (rule : Rule) (e : EffectShape) → any.found l32_lines classes rule ≡ Ok e → IsNarrowEffect e
unfolding any.found
of_rules classes rule e is =
    template_narrow (setting_of classes rule) (holes_of classes rule.right) (symbols_narrow classes rule.right) (kind_at classes rule.left) rule.lines rule.give e is

of_spills : (k : Kind) (l : Line) (e : EffectShape) → any.saved_found l32_lines k l ≡ Ok e → IsNarrowEffect e
unfolding any.saved_found
of_spills k l e is = template_narrow (saved_setting k) (saved_hole k ∷ []) (saved_narrow k, tt) None (l ∷ []) (saved_give k) e is

pub effects_are_narrow : EffectsAreNarrow
effects_are_narrow = record { rules = of_rules; spills = of_spills }
