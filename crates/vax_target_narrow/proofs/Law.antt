-- The constants of what a template does are longwords.
use Rattle.std.proofs.Common.{◌≡◌, ℕ, zero, suc, ◌-◌, ◌^◌, ◌<◌, ◌==◌, Bool, true, false, cond, ◌&&◌, Option, Some, None, Result, Ok, Err, List, [], ◌∷◌, arith, slice_get}
use Rattle.std.specs.Prelude.{is_none}
use Rattle.std.specs.List.{AllByRecursion}
use Rattle.gg_base.specs.declared.size.Size.{Size}
use Rattle.gg_base.specs.declared.size.Size.TheVariants.{Byte, Word, Long}
use Rattle.gg_base.specs.Sizes.{bytes_of}
use Rattle.vax_target_writing.specs.tree_core.specs.declared.token.Tok.{Tok}
use Rattle.vax_target_writing.specs.tree_core.specs.declared.token.Tok.TheVariants as tok
use Rattle.md_reader_pieces.specs.declared.piece.Piece.{Piece}
use Rattle.md_reader_pieces.specs.declared.piece.Line.{Line}
use Rattle.vax_target_writing.specs.md_reader.specs.declared.types.Kind.{Kind}
use Rattle.vax_target_writing.specs.md_reader.specs.declared.types.Kind.TheVariants as kind
use Rattle.vax_target_writing.specs.md_reader.specs.declared.types.Class.{Class}
use Rattle.vax_target_writing.specs.md_reader.specs.declared.types.Sym.{Sym}
use Rattle.vax_target_writing.specs.md_reader.specs.declared.types.Sym.TheVariants as grammar_symbol
use Rattle.vax_target_writing.specs.md_reader.specs.declared.types.Give.{Give}
use Rattle.vax_target_writing.specs.md_reader.specs.declared.types.Give.TheVariants as give
use Rattle.vax_target_writing.specs.md_reader.specs.declared.types.Rule.{Rule}
use Rattle.vax_target_writing.specs.md_reader.specs.Patterns.{kind_at}
use Rattle.vax_target_writing.specs.term_core.specs.Shape.{Shape, Constant, LastResult}
use Rattle.vax_target_writing.specs.term_core_accesses.specs.Keeping.{IsNarrow}
use Rattle.vax_target_writing.specs.sel_terms.specs.Effects.{ActShape, EffectShape, Value, PlaceHome, Branch, Push, Call, Save, Jump}
use Rattle.vax_target_writing.specs.sel_terms_meaning.specs.Alike.{AllNarrow, IsNarrowAct, IsNarrowEffect}
use Rattle.vax_target_writing.specs.sel_terms_meaning.proofs.Narrow.{joined_narrow}
use Rattle.vax_target_writing.specs.sel_terms.specs.Same.{same_size}
use Rattle.vax_target_writing.specs.sel_target.specs.declared.fault.TemplateKind.{TemplateKind}
use Rattle.vax_target_writing.specs.sel_target.specs.declared.fault.TemplateKind.TheVariants.{NotInstr, WrongSize, Order}
use Rattle.vax_core.specs.declared.op.Op.{Op}
use Rattle.vax_core.specs.declared.op.Access.{Access}
use Rattle.vax_core.specs.declared.op.Access.TheVariants as accesses
use Rattle.vax_core.specs.declared.op.OperandKind.{OperandKind}
use Rattle.vax_core.specs.Ops.{shape}
use Rattle.vax_target_writing.specs.vax_machine.specs.declared.function.Action.{Action}
use Rattle.vax_target_writing.specs.vax_machine.specs.declared.function.Action.TheVariants as action
use Rattle.vax_target_writing.specs.vax_machine.specs.declared.function.Function.{Function}
use Rattle.vax_target_writing.specs.vax_machine.specs.declared.function.Function.TheVariants as functions
use Rattle.vax_target_writing.specs.vax_machine.specs.Functions.{action_of}
use Rattle.vax_target_writing.specs.vax_templates.specs.declared.form.Number.{Number as Spelled}
use Rattle.vax_target_writing.specs.vax_templates.specs.declared.form.Number.TheVariants as number
use Rattle.vax_target_writing.specs.vax_templates.specs.declared.form.Base.{Base}
use Rattle.vax_target_writing.specs.vax_templates.specs.declared.form.Base.TheVariants as base
use Rattle.vax_target_writing.specs.vax_templates.specs.declared.form.Form.{Form}
use Rattle.vax_target_writing.specs.vax_templates.specs.declared.setting.Hole.{Hole}
use Rattle.vax_target_writing.specs.vax_templates.specs.declared.setting.Hole.TheVariants as hole_kind
use Rattle.vax_target_writing.specs.vax_templates.specs.declared.setting.Own.{Own}
use Rattle.vax_target_writing.specs.vax_templates.specs.declared.setting.Own.TheVariants as own
use Rattle.vax_target_writing.specs.vax_templates.specs.declared.setting.Opening.{Opening}
use Rattle.vax_target_writing.specs.vax_templates.specs.declared.setting.Opening.TheVariants as opening
use Rattle.vax_target_writing.specs.vax_templates.specs.declared.setting.Setting.{Setting}
use Rattle.vax_target_writing.specs.vax_templates.specs.Settings.{hole_of_token, hole_of_kind, hole_of, holes_of, saved_hole, hole_or_other, hole_at, setting_of, saved_setting}
use Rattle.vax_target_writing.specs.vax_templates.specs.Instructions.{Instruction, Relation, Jump as Jumps, Calls, Ret, Operates, marks_behind, instruction_of, shape_of_pieces}
use Rattle.vax_target_writing.specs.vax_templates.specs.Standing as where_
use Rattle.vax_target_writing.specs.vax_templates.specs.Standing.{Where, where_own, where_hole, where_zero, where_deferred, at, displaced}
use Rattle.vax_target_writing.specs.vax_templates.specs.Standing.{pointed, negated, itself, where_base, moved, where_indexed, form_where}
use Rattle.vax_target_writing.specs.vax_templates.specs.Standing.{◌>>=◌}
use Rattle.vax_target_writing.specs.vax_templates.specs.HoleTerms.{constant_of, address_of, absolute_term, number_term, own_value, register_of}
use Rattle.vax_target_writing.specs.vax_templates.specs.HoleTerms.{register_term}
use Rattle.vax_target_writing.specs.vax_templates.specs.Targets.{Target, ToOwn, ToSlot, ToHome, ToMemory, ToZero, ToSaved, own_target}
use Rattle.vax_target_writing.specs.vax_templates.specs.Targets.{memory_target, zero_target, statement_target, targeted}
use Rattle.vax_target_writing.specs.vax_templates.specs.Taking.{Taken, taken_missized, sized, last_result, cut_term, fetched, addressed}
use Rattle.vax_target_writing.specs.vax_templates.specs.Taking.{written, both, taken, evaluated, Arguments, last_of, in_front, all_evaluated}
use Rattle.vax_target_writing.specs.vax_templates.specs.Giving.{Given, Computes, Divides, Compares, Tests, extended, truncated, given}
use Rattle.vax_target_writing.specs.vax_templates.specs.Deeds.{Last, Plain, Compared, Tested, Returning, Ended, Deed, leaves, ends}
use Rattle.vax_target_writing.specs.vax_templates.specs.Deeds.{ends_statement, is_relation, branches, is_movl, is_last_result, put, divided}
use Rattle.vax_target_writing.specs.vax_templates.specs.Deeds.{computed, acted}
use Rattle.vax_target_writing.specs.vax_templates.specs.Judging.{is_disordered, in_order, with_reads, checked, operated, instruction_did}
use Rattle.vax_target_writing.specs.vax_templates.specs.Judging.{returned, did_behind, read, line_did}
use Rattle.vax_target_writing.specs.vax_templates.specs.Found as found_
use Rattle.vax_target_writing.specs.vax_templates.specs.Progress.{Progress, start, kept_or_put, at_line, kept, judged}
use Rattle.vax_target_writing.specs.vax_templates.specs.Progress.{lines_judged}
use Rattle.vax_target_writing.specs.vax_templates.specs.GiveLines.{left_value, last_deed, register_given, number_given, base_number}
use Rattle.vax_target_writing.specs.vax_templates.specs.GiveLines.{address_given, value_given, home_given, place_given}
use Rattle.vax_target_writing.specs.vax_templates.specs.GiveLines.{shape_given, shape_read, given_by, given_line}
use Rattle.vax_target_writing.specs.vax_templates.specs.Dropped.{first_dropped, none_dropped}
use Rattle.vax_target_writing.specs.vax_templates.specs.Found.{with_divisors, ended, template_found, found, saved_found, saved_give}
use Rattle.vax_target_narrow.specs.Laws.{EffectsAreNarrow}
use Rattle.vax_target_writing.proofs.Each.{Each, EachOk, bind_each, if_ok, of_ok}
use Rattle.vax_target_writing.proofs.Longs.{IsLongNumber, IsLongBase, IsLongForm}
use Rattle.vax_target_writing.proofs.Lines.{IsWell, read_well, shape_long}

-- ---- what is narrow

abbrev HoleIsNarrow : Hole → Type 0
HoleIsNarrow (hole_kind.Literal n) = n < 2 ^ 32
HoleIsNarrow h = Unit {0}

abbrev HolesAreNarrow : List Hole → Type 0
HolesAreNarrow holes = AllByRecursion HoleIsNarrow holes

abbrev SomeNarrow : Option Shape → Type 0
SomeNarrow None = Unit {0}
SomeNarrow (Some t) = IsNarrow t

abbrev WhereNarrow : Where → Type 0
WhereNarrow (where_.Immediate t) = IsNarrow t
WhereNarrow (where_.Register t) = IsNarrow t
WhereNarrow (where_.At a p) = IsNarrow a
WhereNarrow w = Unit {0}

abbrev TargetNarrow : Target → Type 0
TargetNarrow (ToMemory z a) = IsNarrow a
TargetNarrow t = Unit {0}

abbrev AimNarrow : Option Target → Type 0
AimNarrow None = Unit {0}
AimNarrow (Some t) = TargetNarrow t

abbrev TakenNarrow : Taken → Type 0
TakenNarrow t = IsNarrow t.term × AimNarrow t.target

abbrev ArgumentsNarrow : Arguments → Type 0
ArgumentsNarrow x = IsNarrow x.first × IsNarrow x.second × AimNarrow x.target

abbrev GivenNarrow : Given → Type 0
GivenNarrow (Computes t) = IsNarrow t
GivenNarrow (Divides t d) = IsNarrow t × IsNarrow d
GivenNarrow (Compares a b) = IsNarrow a × IsNarrow b
GivenNarrow (Tests t) = IsNarrow t

abbrev LastNarrow : Last → Type 0
LastNarrow Plain = Unit {0}
LastNarrow (Compared a b) = IsNarrow a × IsNarrow b
LastNarrow (Tested t) = IsNarrow t
LastNarrow (Returning t) = IsNarrow t
LastNarrow (Ended deed) = IsNarrowAct deed

abbrev DeedNarrow : Deed → Type 0
DeedNarrow d = SomeNarrow d.own × LastNarrow d.last × AllNarrow d.divisors

abbrev ProgressNarrow : Progress → Type 0
ProgressNarrow p = SomeNarrow p.own × LastNarrow p.last × AllNarrow p.divisors

-- ---- operands

hole_nth : (holes : List Hole) (k : ℕ) → HolesAreNarrow holes → HoleIsNarrow (hole_or_other (slice_get holes k))
hole_nth [] k h = tt
hole_nth (x ∷ holes) zero h = h.0
hole_nth (x ∷ holes) (suc k) h = hole_nth holes k h.1

hole_is : (holes : List Hole) (i : ℕ) → HolesAreNarrow holes → HoleIsNarrow (hole_at holes i)
hole_is holes i h = by (i == 0) where
  by : (b : Bool) → HoleIsNarrow (cond b hole_kind.Other (hole_or_other (slice_get holes (i - 1))))
  by true = tt
  by false = hole_nth holes (i - 1) h

constant_narrow : (h : Hole) (i : ℕ) → HoleIsNarrow h → EachOk IsNarrow (constant_of h i)
constant_narrow hole_kind.Constant i k = tt
constant_narrow (hole_kind.Literal n) i k = k
constant_narrow h i k = tt

address_narrow : (h : Hole) (i : ℕ) → HoleIsNarrow h → EachOk IsNarrow (address_of h i)
address_narrow hole_kind.Object i k = tt
address_narrow hole_kind.Constant i k = tt
address_narrow (hole_kind.Literal n) i k = k
address_narrow h i k = tt

module _ (s : Setting) (holes : List Hole) (zero' : Option Shape) (n : HolesAreNarrow holes) (z : SomeNarrow zero') where
  number_narrow : (x : Spelled) → IsLongNumber x → EachOk IsNarrow (number_term holes x)
  number_narrow (number.Itself k) long = long
  number_narrow (number.Symbol i) long = address_narrow (hole_at holes i) i (hole_is holes i n)

  absolute_narrow : (x : Spelled) → IsLongNumber x → EachOk IsNarrow (absolute_term holes x)
  absolute_narrow (number.Itself k) long = long
  absolute_narrow (number.Symbol i) long = constant_narrow (hole_at holes i) i (hole_is holes i n)

  own_narrow : (o : Own) (t : Option Shape) → SomeNarrow t → EachOk IsNarrow (own_value o t)
  own_narrow own.Register (Some t) h = h
  own_narrow own.Register None h = tt
  own_narrow own.Nothing t h = tt
  own_narrow (own.Slot y) t h = tt

  of_register : (h : Hole) (i : ℕ) → EachOk IsNarrow (register_of h i)
  of_register hole_kind.Register i = tt
  of_register h i = tt

  register_narrow : (i : ℕ) → EachOk IsNarrow (register_term s holes zero' i)
  register_narrow i = if_ok IsNarrow (i == 0) (own_value s.own zero') (register_of (hole_at holes i) i) (λ e. own_narrow s.own zero' z) (λ e. of_register (hole_at holes i) i)

  where_own_narrow : (o : Own) → EachOk WhereNarrow (where_own o)
  where_own_narrow own.Nothing = tt
  where_own_narrow own.Register = tt
  where_own_narrow (own.Slot y) = tt

  where_hole_narrow : (h : Hole) (i : ℕ) → EachOk WhereNarrow (where_hole h i)
  where_hole_narrow hole_kind.Register i = tt
  where_hole_narrow (hole_kind.Value y) i = tt
  where_hole_narrow (hole_kind.Place y) i = tt
  where_hole_narrow hole_kind.Local i = tt
  where_hole_narrow (hole_kind.SavedPlace y) i = tt
  where_hole_narrow hole_kind.Address i = tt
  where_hole_narrow hole_kind.Object i = tt
  where_hole_narrow hole_kind.Saved i = tt
  where_hole_narrow h i = tt

  where_zero_narrow : (o : Opening) → EachOk WhereNarrow (where_zero o)
  where_zero_narrow opening.Other = tt
  where_zero_narrow opening.Save = tt
  where_zero_narrow opening.Return = tt

  where_deferred_narrow : (h : Hole) (i : ℕ) → EachOk WhereNarrow (where_deferred h i)
  where_deferred_narrow hole_kind.Local i = tt
  where_deferred_narrow hole_kind.Object i = tt
  where_deferred_narrow h i = tt

  displaced_narrow : (d r : Result Shape TemplateKind) → EachOk IsNarrow d → EachOk IsNarrow r → EachOk IsNarrow (displaced d r)
  displaced_narrow (Ok a) (Ok b) h k = (h, k)
  displaced_narrow (Ok a) (Err e) h k = tt
  displaced_narrow (Err e) r h k = tt

  base_narrow : (b : Base) → IsLongBase b → EachOk WhereNarrow (where_base s holes zero' b)
  unfolding where_base
  base_narrow base.RegisterZero long = where_zero_narrow s.opening
  base_narrow (base.Hole i) long = if_ok WhereNarrow (i == 0) (where_own s.own) (where_hole (hole_at holes i) i) (λ e. where_own_narrow s.own) (λ e. where_hole_narrow (hole_at holes i) i)
  base_narrow (base.Immediate x) long = bind_each IsNarrow WhereNarrow (number_term holes x) itself (λ t h. h) (number_narrow x long)
  base_narrow (base.Negative i) long = bind_each IsNarrow WhereNarrow (constant_of (hole_at holes i) i) negated (λ t h. h) (constant_narrow (hole_at holes i) i (hole_is holes i n))
  base_narrow (base.RegisterDeferred i) long = bind_each IsNarrow WhereNarrow (register_term s holes zero' i) at (λ t h. h) (register_narrow i)
  base_narrow (base.Displacement x i) long =
      bind_each IsNarrow WhereNarrow (displaced (number_term holes x) (register_term s holes zero' i)) at (λ t h. h)
      (displaced_narrow (number_term holes x) (register_term s holes zero' i) (number_narrow x long) (register_narrow i))
  base_narrow (base.DisplacementDeferred x i) long =
      bind_each IsNarrow WhereNarrow (displaced (number_term holes x) (register_term s holes zero' i)) pointed (λ t h. h)
      (displaced_narrow (number_term holes x) (register_term s holes zero' i) (number_narrow x long) (register_narrow i))
  base_narrow (base.Absolute x) long = bind_each IsNarrow WhereNarrow (absolute_term holes x) at (λ t h. h) (absolute_narrow x long)
  base_narrow (base.Deferred i) long = where_deferred_narrow (hole_at holes i) i

  bytes_narrow : (size : Size) → bytes_of size < 2 ^ 32
  bytes_narrow Byte = omega arith
  bytes_narrow Word = omega arith
  bytes_narrow Long = omega arith

  moved_narrow : (size : Size) (w : Where) (t : Shape) → WhereNarrow w → IsNarrow t → EachOk WhereNarrow (moved size w t)
  moved_narrow size (where_.At a p) t h k = (h, (bytes_narrow size, k))
  moved_narrow size w t h k = tt

  indexed_narrow : (x : Option ℕ) (size : Size) (w : Where) → WhereNarrow w → EachOk WhereNarrow (where_indexed s holes zero' x size w)
  indexed_narrow None size w h = h
  indexed_narrow (Some i) size w h = bind_each IsNarrow WhereNarrow (register_term s holes zero' i) (moved size w) (λ t k. moved_narrow size w t h k) (register_narrow i)

  form_narrow : (f : Form) (size : Size) → IsLongForm f → EachOk WhereNarrow (form_where s holes zero' f size)
  unfolding form_where
  form_narrow f size long =
      bind_each WhereNarrow WhereNarrow (where_base s holes zero' f.base) (where_indexed s holes zero' f.index size) (λ w h. indexed_narrow f.index size w h) (base_narrow f.base long)

  truncated_narrow : (size : Size) (t : Shape) → IsNarrow t → IsNarrow (truncated size t)
  truncated_narrow Byte t h = h
  truncated_narrow Word t h = h
  truncated_narrow Long t h = h

  sized_narrow : (y size : Size) (t : Taken) → TakenNarrow t → TakenNarrow (sized y size t)
  sized_narrow y size t h = by (same_size y size) where
    by : (b : Bool) → TakenNarrow (cond b t taken_missized)
    by true = h
    by false = (omega arith, tt)

  result_narrow : (o : Opening) (size : Size) → EachOk TakenNarrow (last_result o zero' size)
  result_narrow opening.Save size = saved zero' where
    saved : (t : Option Shape) → EachOk TakenNarrow (last_result opening.Save t size)
    saved None = (truncated_narrow size LastResult tt, tt)
    saved (Some t) = tt
  result_narrow opening.Return size = tt
  result_narrow opening.Other size = tt

  fetched_narrow : (w : Where) (size : Size) → WhereNarrow w → EachOk TakenNarrow (fetched s zero' w size)
  unfolding fetched
  fetched_narrow (where_.Immediate t) size h = (truncated_narrow size t h, tt)
  fetched_narrow (where_.Register t) size h = (truncated_narrow size t h, tt)
  fetched_narrow where_.OwnRegister size h = bind_each IsNarrow TakenNarrow (own_value s.own zero') (cut_term size) (λ t k. (truncated_narrow size t k, tt)) (own_narrow s.own zero' z)
  fetched_narrow where_.RegisterZero size h = result_narrow s.opening size
  fetched_narrow (where_.Value y i) size h = sized_narrow y size _ (tt, tt)
  fetched_narrow (where_.Place y i) size h = sized_narrow y size _ (tt, tt)
  fetched_narrow (where_.Local i) size h = sized_narrow Long size _ (tt, tt)
  fetched_narrow (where_.SavedPlace y i) size h = sized_narrow y size _ (tt, tt)
  fetched_narrow (where_.Saved i) size h = tt
  fetched_narrow (where_.At a p) size h = (h, tt)

  addressed_narrow : (w : Where) (size : Size) → WhereNarrow w → EachOk TakenNarrow (addressed w size)
  addressed_narrow (where_.At a p) size h = (h, tt)
  addressed_narrow (where_.SavedPlace y i) size h = sized_narrow y size _ (tt, tt)
  addressed_narrow w size h = tt

  abbrev Aimed : Target × Bool → Type 0
  Aimed x = TargetNarrow x.0

  own_aimed : (o : Own) (size : Size) → EachOk Aimed (own_target o size)
  own_aimed own.Nothing size = tt
  own_aimed own.Register Byte = tt
  own_aimed own.Register Word = tt
  own_aimed own.Register Long = tt
  own_aimed (own.Slot y) size = tt

  memory_aimed : (o : Own) (a : Shape) (size : Size) → IsNarrow a → EachOk Aimed (memory_target o a size)
  memory_aimed own.Nothing a size h = h
  memory_aimed own.Register a size h = h
  memory_aimed (own.Slot y) a size h = tt

  zero_aimed : (o : Opening) → EachOk Aimed (zero_target o)
  zero_aimed opening.Return = tt
  zero_aimed opening.Save = tt
  zero_aimed opening.Other = tt

  statement_aimed : (w : Where) (size : Size) → WhereNarrow w → EachOk Aimed (statement_target s w size)
  statement_aimed (where_.Place y i) size h = tt
  statement_aimed (where_.Local i) size h = tt
  statement_aimed (where_.Saved i) size h = tt
  statement_aimed (where_.At a p) size h = memory_aimed s.own a size h
  statement_aimed where_.RegisterZero size h = zero_aimed s.opening
  statement_aimed w size h = tt

  targeted_narrow : (w : Where) (size : Size) → WhereNarrow w → EachOk Aimed (targeted s w size)
  unfolding targeted
  targeted_narrow where_.OwnRegister size h = own_aimed s.own size
  targeted_narrow w size h = if_ok Aimed s.is_statement (statement_target s w size) (Err NotInstr) (λ e. statement_aimed w size h) (λ e. tt)

  taken_narrow : (a : Access) (w : Where) (size : Size) → WhereNarrow w → EachOk TakenNarrow (taken s zero' a w size)
  unfolding taken
  taken_narrow accesses.Read w size h = fetched_narrow w size h
  taken_narrow accesses.Modify w size h =
      bind_each TakenNarrow TakenNarrow (fetched s zero' w size) (λ (t : Taken). targeted s w size >>= both t)
      (λ t k. bind_each Aimed TakenNarrow (targeted s w size) (both t) (λ x j. (k.0, j)) (targeted_narrow w size h)) (fetched_narrow w size h)
  taken_narrow accesses.Write w size h = bind_each Aimed TakenNarrow (targeted s w size) written (λ x j. (omega arith, j)) (targeted_narrow w size h)
  taken_narrow accesses.Address w size h = addressed_narrow w size h
  taken_narrow accesses.Count w size h = tt

  evaluated_narrow : (k : OperandKind) (f : Form) → IsLongForm f → EachOk TakenNarrow (evaluated s holes zero' k f)
  unfolding evaluated
  evaluated_narrow k f long =
      bind_each WhereNarrow TakenNarrow (form_where s holes zero' f k.size) (λ (w : Where). taken s zero' k.access w k.size)
      (λ w h. taken_narrow k.access w k.size h) (form_narrow f k.size long)

  front_narrow : (a b : Option Target) → AimNarrow a → AimNarrow b → AimNarrow (last_of a b)
  front_narrow a None h k = h
  front_narrow a (Some t) h k = k

  all_narrow : (ks : List OperandKind) (fs : List Form) → AllByRecursion IsLongForm fs → EachOk ArgumentsNarrow (all_evaluated s holes zero' ks fs)
  all_narrow [] fs long = (omega arith, (omega arith), tt)
  all_narrow (k ∷ ks) [] long = tt
  all_narrow (k ∷ ks) (f ∷ fs) long =
      bind_each TakenNarrow ArgumentsNarrow (evaluated s holes zero' k f) (λ (t : Taken). all_evaluated s holes zero' ks fs >>= in_front t)
      (λ t h. bind_each ArgumentsNarrow ArgumentsNarrow (all_evaluated s holes zero' ks fs) (in_front t) (λ x j. (h.0, j.0, front_narrow t.target x.target h.1 j.2))
      (all_narrow ks fs long.1)) (evaluated_narrow k f long.0)

  -- ---- instructions

  computed_put : (op : Op) (to : Option Target) (t : Shape) → AimNarrow to → IsNarrow t → EachOk DeedNarrow (put op to t)
  computed_put op None t a h = tt
  computed_put op (Some ToOwn) t a h = (h, tt, tt)
  computed_put op (Some (ToSlot y)) t a h = (tt, h, tt)
  computed_put op (Some (ToHome y i)) t a h = (tt, h, tt)
  computed_put op (Some (ToMemory y b)) t a h = (tt, (a, h), tt)
  computed_put op (Some ToZero) t a h = if_ok DeedNarrow (is_movl op) (Ok (leaves (Returning t))) (Err NotInstr) (λ e. (tt, h, tt)) (λ e. tt)
  computed_put op (Some (ToSaved i)) t a h = if_ok DeedNarrow (is_movl op && is_last_result t) (ends (Save i)) (Err NotInstr) (λ e. (tt, tt, tt)) (λ e. tt)

  computed_narrow : (op : Op) (to : Option Target) (g : Given) → AimNarrow to → GivenNarrow g → EachOk DeedNarrow (computed op to g)
  computed_narrow op to (Computes t) a h = computed_put op to t a h
  computed_narrow op to (Divides t d) a h = bind_each DeedNarrow DeedNarrow (put op to t) (divided d) (λ x k. (k.0, k.1, (h.1, tt))) (computed_put op to t a h.0)
  computed_narrow op to (Compares x y) a h = (tt, h, tt)
  computed_narrow op to (Tests t) a h = (tt, h, tt)

  extended_narrow : (size : Size) (t : Shape) → IsNarrow t → IsNarrow (extended size t)
  extended_narrow Byte t h = h
  extended_narrow Word t h = h
  extended_narrow Long t h = h

  given_narrow : (f : Function) (a b : Shape) → IsNarrow a → IsNarrow b → GivenNarrow (given f a b)
  given_narrow (functions.Copy size) a b h k = h
  given_narrow functions.Clear a b h k = omega arith
  given_narrow functions.Negate a b h k = h
  given_narrow functions.Complement a b h k = h
  given_narrow (functions.SignExtend size) a b h k = extended_narrow size a h
  given_narrow (functions.Truncate size) a b h k = truncated_narrow size a h
  given_narrow functions.Add a b h k = (h, k)
  given_narrow functions.Subtract a b h k = (k, h)
  given_narrow functions.Multiply a b h k = (h, k)
  given_narrow functions.Divide a b h k = ((k, h), h)
  given_narrow functions.Increment a b h k = (h, (omega arith))
  given_narrow functions.Decrement a b h k = (h, (omega arith))
  given_narrow functions.BitSet a b h k = (h, k)
  given_narrow functions.BitClear a b h k = (k, h)
  given_narrow functions.ExclusiveOr a b h k = (h, k)
  given_narrow functions.BitTest a b h k = (h, k)
  given_narrow functions.Shift a b h k = (h, k)
  given_narrow (functions.Compare size) a b h k = (extended_narrow size a h, extended_narrow size b k)
  given_narrow (functions.CompareWithZero size) a b h k = (extended_narrow size a h, (omega arith))

  statement_narrow : (deed : ActShape) → IsNarrowAct deed → EachOk DeedNarrow (ends_statement s deed)
  statement_narrow deed h = if_ok DeedNarrow s.is_statement (ends deed) (Err NotInstr) (λ e. (tt, h, tt)) (λ e. tt)

  acted_narrow : (a : Action) (op : Op) (x : Arguments) → ArgumentsNarrow x → EachOk DeedNarrow (acted s a op x)
  acted_narrow (action.Compute f) op x h = computed_narrow op x.target (given f x.first x.second) h.2 (given_narrow f x.first x.second h.0 h.1)
  acted_narrow action.Push op x h = statement_narrow (Push x.first) h.0
  acted_narrow (action.Branch t) op x h = tt
  acted_narrow action.Call op x h = tt
  acted_narrow action.Return op x h = tt

  ordered_narrow : (disordered : Bool) (d : Deed) → DeedNarrow d → EachOk DeedNarrow (in_order disordered d)
  ordered_narrow disordered d h =
      if_ok DeedNarrow d.missized (Err WrongSize) (cond disordered (Err Order) (Ok d)) (λ e. tt) (λ e. if_ok DeedNarrow disordered (Err Order) (Ok d) (λ f. tt) (λ f. h))

  operated_narrow : (is_first : Bool) (op : Op) (fs : List Form) → AllByRecursion IsLongForm fs → EachOk DeedNarrow (operated s holes is_first zero' op fs)
  unfolding operated
  operated_narrow is_first op fs long =
      bind_each ArgumentsNarrow DeedNarrow (all_evaluated s holes zero' (shape op).operands fs)
      (λ (x : Arguments). acted s (action_of op) op x >>= checked s holes is_first zero' fs x)
      (λ x h. bind_each DeedNarrow DeedNarrow (acted s (action_of op) op x) (checked s holes is_first zero' fs x)
      (λ d k. ordered_narrow (is_disordered s holes is_first zero' fs d) (with_reads x d) k) (acted_narrow (action_of op) op x h))
      (all_narrow (shape op).operands fs long)

  branched_narrow : (i : ℕ) (l : Last) → LastNarrow l → EachOk DeedNarrow (branches s i l)
  branched_narrow i (Compared a b) h = statement_narrow (Branch i a b) h
  branched_narrow i (Tested t) h =
      if_ok DeedNarrow s.is_signed (ends_statement s (Branch i t (Constant 0))) (Err NotInstr) (λ e. statement_narrow (Branch i t (Constant 0)) (h, (omega arith))) (λ e. tt)
  branched_narrow i Plain h = tt
  branched_narrow i (Returning t) h = tt
  branched_narrow i (Ended deed) h = tt

  instruction_narrow : (ps : List Piece) (is_first : Bool) (l : Last) (i : Instruction) → LastNarrow l → IsWell (marks_behind ps) i →
      EachOk DeedNarrow (instruction_did s holes is_first zero' l i)
  instruction_narrow ps is_first l (Relation i) h w = if_ok DeedNarrow (is_relation (hole_at holes i)) (branches s i l) (Err NotInstr) (λ e. branched_narrow i l h) (λ e. tt)
  instruction_narrow ps is_first l Jumps h w = statement_narrow Jump tt
  instruction_narrow ps is_first l Calls h w = statement_narrow Call tt
  instruction_narrow ps is_first l Ret h w = tt
  instruction_narrow ps is_first l (Operates op fs) h w = operated_narrow is_first op fs w.longs

  behind_narrow : (ps : List Piece) (is_first : Bool) (l : Last) (i : Instruction) → LastNarrow l → IsWell (marks_behind ps) i →
      EachOk DeedNarrow (did_behind s holes is_first zero' l i)
  behind_narrow ps is_first Plain i h w = instruction_narrow ps is_first Plain i h w
  behind_narrow ps is_first (Compared a b) i h w = instruction_narrow ps is_first (Compared a b) i h w
  behind_narrow ps is_first (Tested t) i h w = instruction_narrow ps is_first (Tested t) i h w
  behind_narrow ps is_first (Returning t) i h w = back i where
    back : (i : Instruction) → EachOk DeedNarrow (returned t i)
    back Ret = (tt, h, tt)
    back (Relation i) = tt
    back Jumps = tt
    back Calls = tt
    back (Operates op fs) = tt
  behind_narrow ps is_first (Ended deed) i h w = tt

  line_narrow : (ps : List Piece) (is_first : Bool) (l : Last) → LastNarrow l → EachOk DeedNarrow (line_did s holes is_first zero' l ps)
  unfolding line_did
  line_narrow ps is_first l h = by (instruction_of ps) (read_well ps) where
    by : (o : Option Instruction) → Each (IsWell (marks_behind ps)) o → EachOk DeedNarrow (read o >>= did_behind s holes is_first zero' l)
    by None w = tt
    by (Some i) w = behind_narrow ps is_first l i h w

-- ---- templates

own_kept : (a b : Option Shape) → SomeNarrow a → SomeNarrow b → SomeNarrow (kept_or_put a b)
own_kept a None h k = h
own_kept a (Some t) h k = k

module _ (s : Setting) (holes : List Hole) (n : HolesAreNarrow holes) where
  kept_narrow : (line : ℕ) (p : Progress) (r : Result Deed TemplateKind) → ProgressNarrow p → EachOk DeedNarrow r → EachOk ProgressNarrow (at_line line r >>= kept line p)
  kept_narrow line p (Ok d) h k = (own_kept p.own d.own h.0 k.0, k.1, joined_narrow p.divisors d.divisors h.2 k.2)
  kept_narrow line p (Err e) h k = tt

  lines_narrow : (ls : List Line) (is_first : Bool) (p : Progress) → ProgressNarrow p → EachOk ProgressNarrow (lines_judged s holes is_first p ls)
  lines_narrow [] is_first p h = h
  lines_narrow (l ∷ ls) is_first p h =
      bind_each ProgressNarrow ProgressNarrow (judged s holes is_first l p) (λ (x : Progress). lines_judged s holes false x ls)
      (λ x k. lines_narrow ls false x k)
      (kept_narrow l.line p (line_did s holes is_first p.own p.last l.pieces) h (line_narrow s holes p.own n h.0 l.pieces is_first p.last h.1))

  value_narrow : (t : Option Shape) → SomeNarrow t → EachOk IsNarrowAct (left_value t)
  value_narrow None h = tt
  value_narrow (Some t) h = h

  deed_narrow : (l : Last) → LastNarrow l → EachOk IsNarrowAct (last_deed l)
  deed_narrow (Ended deed) h = h
  deed_narrow l h = tt

  given_register : (w : Where) → WhereNarrow w → EachOk IsNarrowAct (register_given w)
  given_register (where_.Register t) h = h
  given_register w h = tt

  given_address : (w : Where) → WhereNarrow w → EachOk IsNarrowAct (address_given w)
  given_address (where_.At a p) h = h
  given_address w h = tt

  given_value : (t : Taken) → TakenNarrow t → EachOk IsNarrowAct (value_given t)
  given_value t h = if_ok IsNarrowAct t.missized (Err WrongSize) (Ok (Value t.term)) (λ e. tt) (λ e. h.0)

  given_home : (size has : Size) (i : ℕ) → EachOk IsNarrowAct (home_given size has i)
  given_home size has i = if_ok IsNarrowAct (same_size has size) (Ok (PlaceHome size i)) (Err WrongSize) (λ e. tt) (λ e. tt)

  given_place : (size : Size) (w : Where) → WhereNarrow w → EachOk IsNarrowAct (place_given size w)
  given_place size (where_.Place y i) h = given_home size y i
  given_place size (where_.Local i) h = given_home size Long i
  given_place size (where_.At a p) h = h
  given_place size w h = tt

  given_number : (b : Base) → EachOk IsNarrowAct (base_number holes b)
  given_number (base.Hole i) = bind_each IsNarrow IsNarrowAct (constant_of (hole_at holes i) i) number_given (λ t h. h) (constant_narrow (hole_at holes i) i (hole_is holes i n))
  given_number b = tt

  shape_narrow : (k : Option Kind) (f : Form) → IsLongForm f → EachOk IsNarrowAct (shape_given s holes k f)
  unfolding shape_given
  shape_narrow (Some kind.Reg) f long = bind_each WhereNarrow IsNarrowAct (form_where s holes None f Long) register_given given_register (form_narrow s holes None n tt f Long long)
  shape_narrow (Some kind.Con) f long = if_ok IsNarrowAct (is_none f.index) (base_number holes f.base) (Err NotInstr) (λ e. given_number f.base) (λ e. tt)
  shape_narrow (Some kind.Ea) f long =
      if_ok IsNarrowAct (is_none f.index) (form_where s holes None f Byte >>= address_given) (Err NotInstr)
      (λ e. bind_each WhereNarrow IsNarrowAct (form_where s holes None f Byte) address_given given_address (form_narrow s holes None n tt f Byte long)) (λ e. tt)
  shape_narrow (Some (kind.Value y)) f long =
      bind_each WhereNarrow IsNarrowAct (form_where s holes None f y) (λ (w : Where). fetched s None w y >>= value_given)
      (λ w h. bind_each TakenNarrow IsNarrowAct (fetched s None w y) value_given given_value (fetched_narrow s holes None n tt w y h)) (form_narrow s holes None n tt f y long)
  shape_narrow (Some (kind.Place y)) f long =
      bind_each WhereNarrow IsNarrowAct (form_where s holes None f y) (place_given y) (given_place y) (form_narrow s holes None n tt f y long)
  shape_narrow (Some kind.Nothing) f long = tt
  shape_narrow None f long = tt

  pieces_narrow : (k : Option Kind) (o : Option Form) → Each IsLongForm o → EachOk IsNarrowAct (shape_read o >>= shape_given s holes k)
  pieces_narrow k None h = tt
  pieces_narrow k (Some f) h = shape_narrow k f h

  by_narrow : (k : Option Kind) (t : Option Shape) (l : Last) (g : Give) → SomeNarrow t → LastNarrow l → EachOk IsNarrowAct (given_by s holes k t l g)
  by_narrow k t l give.Fresh h j = value_narrow t h
  by_narrow k t l give.Reuse h j = value_narrow t h
  by_narrow k t l give.Scratch h j = deed_narrow l j
  by_narrow k t l give.Nothing h j = deed_narrow l j
  by_narrow k t l (give.Shape x) h j = pieces_narrow k (shape_of_pieces x.pieces) (shape_long x.pieces)

  none_dropped_narrow : (e : EffectShape) (o : Option ℕ) → IsNarrowEffect e → EachOk IsNarrowEffect (none_dropped e o)
  none_dropped_narrow e None h = h
  none_dropped_narrow e (Some line) h = tt

  at_line_narrow : (line : ℕ) (r : Result ActShape TemplateKind) → EachOk IsNarrowAct r → EachOk IsNarrowAct (at_line line r)
  at_line_narrow line (Ok x) h = h
  at_line_narrow line (Err e) h = tt

  ended_narrow : (k : Option Kind) (line : ℕ) (g : Give) (p : Progress) → ProgressNarrow p → EachOk IsNarrowEffect (ended s holes k line g p)
  unfolding ended
  ended_narrow k line g p h =
      bind_each IsNarrowAct IsNarrowEffect (at_line line (given_by s holes k p.own p.last g)) (λ (deed : ActShape). found_.checked p (with_divisors p deed))
      (λ deed j. none_dropped_narrow (with_divisors p deed) (first_dropped (with_divisors p deed) p.reads) (j, h.2))
      (at_line_narrow line (given_by s holes k p.own p.last g) (by_narrow k p.own p.last g h.0 h.1))

  template_narrow : (k : Option Kind) (ls : List Line) (g : Give) (e : EffectShape) → template_found s holes k ls g ≡ Ok e → IsNarrowEffect e
  unfolding template_found
  template_narrow k ls g e is =
      of_ok IsNarrowEffect (lines_judged s holes true start ls >>= ended s holes k (given_line ls g) g) e is
      (bind_each ProgressNarrow IsNarrowEffect (lines_judged s holes true start ls) (ended s holes k (given_line ls g) g)
      (λ p h. ended_narrow k (given_line ls g) g p h) (lines_narrow ls true start (tt, tt, tt)))

token_narrow : (x : Tok) → HoleIsNarrow (hole_of_token x)
token_narrow tok.Zero = omega arith
token_narrow tok.One = omega arith
token_narrow tok.Two = omega arith
token_narrow tok.Four = omega arith
token_narrow tok.Eight = omega arith
token_narrow x = tt

kind_narrow : (k : Option Kind) → HoleIsNarrow (hole_of_kind k)
kind_narrow None = tt
kind_narrow (Some kind.Reg) = tt
kind_narrow (Some (kind.Value y)) = tt
kind_narrow (Some (kind.Place y)) = tt
kind_narrow (Some kind.Con) = tt
kind_narrow (Some kind.Ea) = tt
kind_narrow (Some kind.Nothing) = tt

symbol_narrow : (classes : List Class) (x : Sym) → HoleIsNarrow (hole_of classes x)
symbol_narrow classes (grammar_symbol.Tok t) = token_narrow t
symbol_narrow classes (grammar_symbol.Class c) = kind_narrow (kind_at classes c)

symbols_narrow : (classes : List Class) (right : List Sym) → HolesAreNarrow (holes_of classes right)
symbols_narrow classes [] = tt
symbols_narrow classes (x ∷ right) = (symbol_narrow classes x, symbols_narrow classes right)

saved_narrow : (k : Kind) → HoleIsNarrow (saved_hole k)
saved_narrow kind.Reg = tt
saved_narrow (kind.Value y) = tt
saved_narrow (kind.Place y) = tt
saved_narrow kind.Con = tt
saved_narrow kind.Ea = tt
saved_narrow kind.Nothing = tt

of_rules : (classes : List Class) (rule : Rule) (e : EffectShape) → found classes rule ≡ Ok e → IsNarrowEffect e
unfolding found
of_rules classes rule e is =
    template_narrow (setting_of classes rule) (holes_of classes rule.right) (symbols_narrow classes rule.right) (kind_at classes rule.left) rule.lines rule.give e is

of_spills : (k : Kind) (l : Line) (e : EffectShape) → saved_found k l ≡ Ok e → IsNarrowEffect e
unfolding saved_found
of_spills k l e is = template_narrow (saved_setting k) (saved_hole k ∷ []) (saved_narrow k, tt) None (l ∷ []) (saved_give k) e is

pub effects_are_narrow : EffectsAreNarrow
effects_are_narrow = record { rules = of_rules; spills = of_spills }
