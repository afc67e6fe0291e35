-- How deep the terms nest of what a line of a template does: at most six deeper than what stands before it.
use Rattle.std.proofs.Common.{◌≤◌, ℕ, ◌+◌, ◌==◌, Bool, true, false, cond, ◌&&◌, Option, Some, None, Result, Ok, Err, List, [], ◌∷◌, arith}
use Rattle.gg_base.specs.declared.size.Size.{Size}
use Rattle.gg_base.specs.declared.size.Size.TheVariants.{Byte, Word, Long}
use Rattle.md_reader_pieces.specs.declared.piece.Piece.{Piece}
use Rattle.term_core.specs.Shape.{Shape, Constant, LastResult}
use Rattle.sel_terms.specs.Effects.{ActShape, Branch, Push, Call, Save, Jump}
use Rattle.sel_terms.specs.Same.{same_size}
use Rattle.sel_terms_depth.specs.Depth.{depth, act_depth, AreWithin}
use Rattle.sel_target.specs.declared.fault.TemplateKind.{TemplateKind}
use Rattle.sel_target.specs.declared.fault.TemplateKind.TheVariants.{NotInstr, WrongSize, Order}
use Rattle.vax_core.specs.declared.op.Op.{Op}
use Rattle.vax_core.specs.declared.op.Access.{Access}
use Rattle.vax_core.specs.declared.op.Access.TheVariants as accesses
use Rattle.vax_core.specs.declared.op.OperandKind.{OperandKind}
use Rattle.vax_core.specs.Ops.{shape}
use Rattle.vax_machine.specs.declared.function.Action.{Action}
use Rattle.vax_machine.specs.declared.function.Action.TheVariants as action
use Rattle.vax_machine.specs.declared.function.Function.{Function}
use Rattle.vax_machine.specs.declared.function.Function.TheVariants as functions
use Rattle.vax_machine.specs.Functions.{action_of}
use Rattle.vax_templates.specs.declared.form.Number.{Number as Spelled}
use Rattle.vax_templates.specs.declared.form.Number.TheVariants as number
use Rattle.vax_templates.specs.declared.form.Base.{Base}
use Rattle.vax_templates.specs.declared.form.Base.TheVariants as base
use Rattle.vax_templates.specs.declared.form.Form.{Form}
use Rattle.vax_templates.specs.declared.setting.Hole.{Hole}
use Rattle.vax_templates.specs.declared.setting.Hole.TheVariants as hole_kind
use Rattle.vax_templates.specs.declared.setting.Own.{Own}
use Rattle.vax_templates.specs.declared.setting.Own.TheVariants as own
use Rattle.vax_templates.specs.declared.setting.Opening.{Opening}
use Rattle.vax_templates.specs.declared.setting.Opening.TheVariants as opening
use Rattle.vax_templates.specs.declared.setting.Setting.{Setting}
use Rattle.vax_templates.specs.Settings.{hole_at}
use Rattle.vax_templates.specs.Instructions.{Instruction, Relation, Jump as Jumps, Calls, Ret, Operates, instruction_of}
use Rattle.vax_templates.specs.Standing as where_
use Rattle.vax_templates.specs.Standing.{Where, where_own, where_hole, where_zero, where_deferred, at, displaced}
use Rattle.vax_templates.specs.Standing.{pointed, negated, itself, where_base, moved, where_indexed, form_where}
use Rattle.vax_templates.specs.Standing.{◌>>=◌}
use Rattle.vax_templates.specs.HoleTerms.{constant_of, address_of, absolute_term, number_term, own_value, register_of}
use Rattle.vax_templates.specs.HoleTerms.{register_term}
use Rattle.vax_templates.specs.Targets.{Target, ToOwn, ToSlot, ToHome, ToMemory, ToZero, ToSaved, own_target}
use Rattle.vax_templates.specs.Targets.{memory_target, zero_target, statement_target, targeted}
use Rattle.vax_templates.specs.Taking.{Taken, taken_missized, sized, last_result, cut_term, fetched, addressed}
use Rattle.vax_templates.specs.Taking.{written, both, taken, evaluated, Arguments, last_of, in_front, all_evaluated}
use Rattle.vax_templates.specs.Giving.{Given, Computes, Divides, Compares, Tests, extended, truncated, given}
use Rattle.vax_templates.specs.Deeds.{Last, Plain, Compared, Tested, Returning, Ended, Deed, leaves, ends}
use Rattle.vax_templates.specs.Deeds.{ends_statement, is_relation, branches, is_movl, is_last_result, put, divided}
use Rattle.vax_templates.specs.Deeds.{computed, acted}
use Rattle.vax_templates.specs.Judging.{is_disordered, in_order, with_reads, checked, operated, instruction_did}
use Rattle.vax_templates.specs.Judging.{returned, did_behind, read, line_did}
use Rattle.vax_target_writing.proofs.Each.{EachOk, bind_each, if_ok}

-- ---- what nests no deeper than n

abbrev pub Within : ℕ → Shape → Type 0
Within n t = depth t ≤ n

abbrev pub ActWithin : ℕ → ActShape → Type 0
ActWithin n a = act_depth a ≤ n

abbrev pub SomeWithin : ℕ → Option Shape → Type 0
SomeWithin n None = Unit {0}
SomeWithin n (Some t) = depth t ≤ n

abbrev pub WhereWithin : ℕ → Where → Type 0
WhereWithin n (where_.Immediate t) = depth t ≤ n
WhereWithin n (where_.Register t) = depth t ≤ n
WhereWithin n (where_.At a p) = depth a ≤ n
WhereWithin n w = Unit {0}

abbrev TargetWithin : ℕ → Target → Type 0
TargetWithin n (ToMemory z a) = depth a ≤ n
TargetWithin n t = Unit {0}

abbrev AimWithin : ℕ → Option Target → Type 0
AimWithin n None = Unit {0}
AimWithin n (Some t) = TargetWithin n t

abbrev pub TakenWithin : ℕ → Taken → Type 0
TakenWithin n t = (depth t.term ≤ n) × AimWithin n t.target

abbrev ArgumentsWithin : ℕ → Arguments → Type 0
ArgumentsWithin n x = (depth x.first ≤ n) × (depth x.second ≤ n) × AimWithin n x.target

abbrev GivenWithin : ℕ → Given → Type 0
GivenWithin n (Computes t) = depth t ≤ n
GivenWithin n (Divides t d) = (depth t ≤ n) × (depth d ≤ n)
GivenWithin n (Compares a b) = (depth a ≤ n) × (depth b ≤ n)
GivenWithin n (Tests t) = depth t ≤ n

abbrev pub LastWithin : ℕ → Last → Type 0
LastWithin n Plain = Unit {0}
LastWithin n (Compared a b) = (depth a ≤ n) × (depth b ≤ n)
LastWithin n (Tested t) = depth t ≤ n
LastWithin n (Returning t) = depth t ≤ n
LastWithin n (Ended deed) = act_depth deed ≤ n

abbrev pub DeedWithin : ℕ → Deed → Type 0
DeedWithin n d = SomeWithin n d.own × LastWithin n d.last × AreWithin n d.divisors

-- ---- operands, where no number and no value of `%0` nests deeper than m

pub constant_within : (m : ℕ) → 1 ≤ m → (h : Hole) (i : ℕ) → EachOk (Within m) (constant_of h i)
constant_within m l hole_kind.Constant i = l
constant_within m l (hole_kind.Literal n) i = l
constant_within m l h i = tt

address_within : (m : ℕ) → 1 ≤ m → (h : Hole) (i : ℕ) → EachOk (Within m) (address_of h i)
address_within m l hole_kind.Object i = l
address_within m l hole_kind.Constant i = l
address_within m l (hole_kind.Literal n) i = l
address_within m l h i = tt

module _ (s : Setting) (holes : List Hole) (zero' : Option Shape) (m : ℕ) (l : 1 ≤ m) (z : SomeWithin m zero') where
  number_within : (x : Spelled) → EachOk (Within m) (number_term holes x)
  number_within (number.Itself k) = l
  number_within (number.Symbol i) = address_within m l (hole_at holes i) i

  absolute_within : (x : Spelled) → EachOk (Within m) (absolute_term holes x)
  absolute_within (number.Itself k) = l
  absolute_within (number.Symbol i) = constant_within m l (hole_at holes i) i

  own_within : (o : Own) (t : Option Shape) → SomeWithin m t → EachOk (Within m) (own_value o t)
  own_within own.Register (Some t) h = h
  own_within own.Register None h = tt
  own_within own.Nothing t h = tt
  own_within (own.Slot y) t h = tt

  of_register : (h : Hole) (i : ℕ) → EachOk (Within m) (register_of h i)
  of_register hole_kind.Register i = l
  of_register h i = tt

  register_within : (i : ℕ) → EachOk (Within m) (register_term s holes zero' i)
  register_within i =
      if_ok (Within m) (i == 0) (own_value s.own zero') (register_of (hole_at holes i) i) (λ e. own_within s.own zero' z) (λ e. of_register (hole_at holes i) i)

  where_own_within : (o : Own) → EachOk (WhereWithin (2 + m)) (where_own o)
  where_own_within own.Nothing = tt
  where_own_within own.Register = tt
  where_own_within (own.Slot y) = tt

  where_hole_within : (h : Hole) (i : ℕ) → EachOk (WhereWithin (2 + m)) (where_hole h i)
  where_hole_within hole_kind.Register i = omega arith
  where_hole_within (hole_kind.Value y) i = tt
  where_hole_within (hole_kind.Place y) i = tt
  where_hole_within hole_kind.Local i = tt
  where_hole_within (hole_kind.SavedPlace y) i = tt
  where_hole_within hole_kind.Address i = omega arith
  where_hole_within hole_kind.Object i = omega arith
  where_hole_within hole_kind.Saved i = tt
  where_hole_within h i = tt

  where_zero_within : (o : Opening) → EachOk (WhereWithin (2 + m)) (where_zero o)
  where_zero_within opening.Other = tt
  where_zero_within opening.Save = tt
  where_zero_within opening.Return = tt

  where_deferred_within : (h : Hole) (i : ℕ) → EachOk (WhereWithin (2 + m)) (where_deferred h i)
  where_deferred_within hole_kind.Local i = omega arith
  where_deferred_within hole_kind.Object i = omega arith
  where_deferred_within h i = tt

  displaced_within : (d r : Result Shape TemplateKind) → EachOk (Within m) d → EachOk (Within m) r → EachOk (Within (1 + m)) (displaced d r)
  displaced_within (Ok a) (Ok b) h k = omega (arith, h, k)
  displaced_within (Ok a) (Err e) h k = tt
  displaced_within (Err e) r h k = tt

  base_within : (b : Base) → EachOk (WhereWithin (2 + m)) (where_base s holes zero' b)
  unfolding where_base
  base_within base.RegisterZero = where_zero_within s.opening
  base_within (base.Hole i) =
      if_ok (WhereWithin (2 + m)) (i == 0) (where_own s.own) (where_hole (hole_at holes i) i) (λ e. where_own_within s.own) (λ e. where_hole_within (hole_at holes i) i)
  base_within (base.Immediate x) = bind_each (Within m) (WhereWithin (2 + m)) (number_term holes x) itself (λ t h. omega (arith, h)) (number_within x)
  base_within (base.Negative i) =
      bind_each (Within m) (WhereWithin (2 + m)) (constant_of (hole_at holes i) i) negated (λ t h. omega (arith, h)) (constant_within m l (hole_at holes i) i)
  base_within (base.RegisterDeferred i) = bind_each (Within m) (WhereWithin (2 + m)) (register_term s holes zero' i) at (λ t h. omega (arith, h)) (register_within i)
  base_within (base.Displacement x i) =
      bind_each (Within (1 + m)) (WhereWithin (2 + m)) (displaced (number_term holes x) (register_term s holes zero' i)) at (λ t h. omega (arith, h))
      (displaced_within (number_term holes x) (register_term s holes zero' i) (number_within x) (register_within i))
  base_within (base.DisplacementDeferred x i) =
      bind_each (Within (1 + m)) (WhereWithin (2 + m)) (displaced (number_term holes x) (register_term s holes zero' i)) pointed (λ t h. omega (arith, h))
      (displaced_within (number_term holes x) (register_term s holes zero' i) (number_within x) (register_within i))
  base_within (base.Absolute x) = bind_each (Within m) (WhereWithin (2 + m)) (absolute_term holes x) at (λ t h. omega (arith, h)) (absolute_within x)
  base_within (base.Deferred i) = where_deferred_within (hole_at holes i) i

  moved_within : (size : Size) (w : Where) (t : Shape) → WhereWithin (2 + m) w → Within m t → EachOk (WhereWithin (3 + m)) (moved size w t)
  moved_within size (where_.At a p) t h k = omega (arith, h, k, l)
  moved_within size w t h k = tt

  deeper : (w : Where) → WhereWithin (2 + m) w → WhereWithin (3 + m) w
  deeper (where_.Immediate t) h = omega (arith, h)
  deeper (where_.Register t) h = omega (arith, h)
  deeper (where_.At a p) h = omega (arith, h)
  deeper w h = tt

  indexed_within : (x : Option ℕ) (size : Size) (w : Where) → WhereWithin (2 + m) w → EachOk (WhereWithin (3 + m)) (where_indexed s holes zero' x size w)
  indexed_within None size w h = deeper w h
  indexed_within (Some i) size w h =
      bind_each (Within m) (WhereWithin (3 + m)) (register_term s holes zero' i) (moved size w) (λ t k. moved_within size w t h k) (register_within i)

  pub form_within : (f : Form) (size : Size) → EachOk (WhereWithin (3 + m)) (form_where s holes zero' f size)
  unfolding form_where
  form_within f size =
      bind_each (WhereWithin (2 + m)) (WhereWithin (3 + m)) (where_base s holes zero' f.base) (where_indexed s holes zero' f.index size)
      (λ w h. indexed_within f.index size w h) (base_within f.base)

  cut_within : (n : ℕ) (size : Size) (t : Shape) → depth t ≤ n → depth (truncated size t) ≤ 1 + n
  cut_within n Byte t h = omega (arith, h)
  cut_within n Word t h = omega (arith, h)
  cut_within n Long t h = omega (arith, h)

  sized_within : (y size : Size) (t : Taken) → TakenWithin (4 + m) t → TakenWithin (4 + m) (sized y size t)
  sized_within y size t h = by (same_size y size) where
    by : (b : Bool) → TakenWithin (4 + m) (cond b t taken_missized)
    by true = h
    by false = (omega arith, tt)

  result_within : (o : Opening) (size : Size) → EachOk (TakenWithin (4 + m)) (last_result o zero' size)
  result_within opening.Save size = saved zero' where
    saved : (t : Option Shape) → EachOk (TakenWithin (4 + m)) (last_result opening.Save t size)
    saved None = (omega (arith, cut_within 1 size LastResult (omega arith)), tt)
    saved (Some t) = tt
  result_within opening.Return size = tt
  result_within opening.Other size = tt

  pub fetched_within : (w : Where) (size : Size) → WhereWithin (3 + m) w → EachOk (TakenWithin (4 + m)) (fetched s zero' w size)
  unfolding fetched
  fetched_within (where_.Immediate t) size h = (omega (arith, cut_within (3 + m) size t h), tt)
  fetched_within (where_.Register t) size h = (omega (arith, cut_within (3 + m) size t h), tt)
  fetched_within where_.OwnRegister size h =
      bind_each (Within m) (TakenWithin (4 + m)) (own_value s.own zero') (cut_term size) (λ t k. (omega (arith, cut_within m size t k), tt)) (own_within s.own zero' z)
  fetched_within where_.RegisterZero size h = result_within s.opening size
  fetched_within (where_.Value y i) size h = sized_within y size _ (omega arith, tt)
  fetched_within (where_.Place y i) size h = sized_within y size _ (omega arith, tt)
  fetched_within (where_.Local i) size h = sized_within Long size _ (omega arith, tt)
  fetched_within (where_.SavedPlace y i) size h = sized_within y size _ (omega arith, tt)
  fetched_within (where_.Saved i) size h = tt
  fetched_within (where_.At a p) size h = (omega (arith, h), tt)

  addressed_within : (w : Where) (size : Size) → WhereWithin (3 + m) w → EachOk (TakenWithin (4 + m)) (addressed w size)
  addressed_within (where_.At a p) size h = (omega (arith, h), tt)
  addressed_within (where_.SavedPlace y i) size h = sized_within y size _ (omega arith, tt)
  addressed_within w size h = tt

  abbrev Aimed : Target × Bool → Type 0
  Aimed x = TargetWithin (4 + m) x.0

  own_aimed : (o : Own) (size : Size) → EachOk Aimed (own_target o size)
  own_aimed own.Nothing size = tt
  own_aimed own.Register Byte = tt
  own_aimed own.Register Word = tt
  own_aimed own.Register Long = tt
  own_aimed (own.Slot y) size = tt

  memory_aimed : (o : Own) (a : Shape) (size : Size) → Within (3 + m) a → EachOk Aimed (memory_target o a size)
  memory_aimed own.Nothing a size h = omega (arith, h)
  memory_aimed own.Register a size h = omega (arith, h)
  memory_aimed (own.Slot y) a size h = tt

  zero_aimed : (o : Opening) → EachOk Aimed (zero_target o)
  zero_aimed opening.Return = tt
  zero_aimed opening.Save = tt
  zero_aimed opening.Other = tt

  statement_aimed : (w : Where) (size : Size) → WhereWithin (3 + m) w → EachOk Aimed (statement_target s w size)
  statement_aimed (where_.Place y i) size h = tt
  statement_aimed (where_.Local i) size h = tt
  statement_aimed (where_.Saved i) size h = tt
  statement_aimed (where_.At a p) size h = memory_aimed s.own a size h
  statement_aimed where_.RegisterZero size h = zero_aimed s.opening
  statement_aimed w size h = tt

  targeted_within : (w : Where) (size : Size) → WhereWithin (3 + m) w → EachOk Aimed (targeted s w size)
  unfolding targeted
  targeted_within where_.OwnRegister size h = own_aimed s.own size
  targeted_within w size h = if_ok Aimed s.is_statement (statement_target s w size) (Err NotInstr) (λ e. statement_aimed w size h) (λ e. tt)

  taken_within : (a : Access) (w : Where) (size : Size) → WhereWithin (3 + m) w → EachOk (TakenWithin (4 + m)) (taken s zero' a w size)
  unfolding taken
  taken_within accesses.Read w size h = fetched_within w size h
  taken_within accesses.Modify w size h =
      bind_each (TakenWithin (4 + m)) (TakenWithin (4 + m)) (fetched s zero' w size) (λ (t : Taken). targeted s w size >>= both t)
      (λ t k. bind_each Aimed (TakenWithin (4 + m)) (targeted s w size) (both t) (λ x j. (k.0, j)) (targeted_within w size h)) (fetched_within w size h)
  taken_within accesses.Write w size h = bind_each Aimed (TakenWithin (4 + m)) (targeted s w size) written (λ x j. (omega arith, j)) (targeted_within w size h)
  taken_within accesses.Address w size h = addressed_within w size h
  taken_within accesses.Count w size h = tt

  evaluated_within : (k : OperandKind) (f : Form) → EachOk (TakenWithin (4 + m)) (evaluated s holes zero' k f)
  unfolding evaluated
  evaluated_within k f =
      bind_each (WhereWithin (3 + m)) (TakenWithin (4 + m)) (form_where s holes zero' f k.size) (λ (w : Where). taken s zero' k.access w k.size)
      (λ w h. taken_within k.access w k.size h) (form_within f k.size)

  front_within : (a b : Option Target) → AimWithin (4 + m) a → AimWithin (4 + m) b → AimWithin (4 + m) (last_of a b)
  front_within a None h k = h
  front_within a (Some t) h k = k

  all_within : (ks : List OperandKind) (fs : List Form) → EachOk (ArgumentsWithin (4 + m)) (all_evaluated s holes zero' ks fs)
  all_within [] fs = (omega arith, (omega arith), tt)
  all_within (k ∷ ks) [] = tt
  all_within (k ∷ ks) (f ∷ fs) =
      bind_each (TakenWithin (4 + m)) (ArgumentsWithin (4 + m)) (evaluated s holes zero' k f) (λ (t : Taken). all_evaluated s holes zero' ks fs >>= in_front t)
      (λ t h. bind_each (ArgumentsWithin (4 + m)) (ArgumentsWithin (4 + m)) (all_evaluated s holes zero' ks fs) (in_front t)
      (λ x j. (h.0, j.0, front_within t.target x.target h.1 j.2)) (all_within ks fs)) (evaluated_within k f)

  -- ---- instructions

  computed_put : (op : Op) (to : Option Target) (t : Shape) → AimWithin (4 + m) to → Within (6 + m) t → EachOk (DeedWithin (6 + m)) (put op to t)
  computed_put op None t a h = tt
  computed_put op (Some ToOwn) t a h = (h, tt, tt)
  computed_put op (Some (ToSlot y)) t a h = (tt, h, tt)
  computed_put op (Some (ToHome y i)) t a h = (tt, h, tt)
  computed_put op (Some (ToMemory y b)) t a h = (tt, omega (arith, a, h), tt)
  computed_put op (Some ToZero) t a h = if_ok (DeedWithin (6 + m)) (is_movl op) (Ok (leaves (Returning t))) (Err NotInstr) (λ e. (tt, h, tt)) (λ e. tt)
  computed_put op (Some (ToSaved i)) t a h =
      if_ok (DeedWithin (6 + m)) (is_movl op && is_last_result t) (ends (Save i)) (Err NotInstr) (λ e. (tt, omega arith, tt)) (λ e. tt)

  computed_within : (op : Op) (to : Option Target) (g : Given) → AimWithin (4 + m) to → GivenWithin (6 + m) g → EachOk (DeedWithin (6 + m)) (computed op to g)
  computed_within op to (Computes t) a h = computed_put op to t a h
  computed_within op to (Divides t d) a h =
      bind_each (DeedWithin (6 + m)) (DeedWithin (6 + m)) (put op to t) (divided d) (λ x k. (k.0, k.1, (h.1, tt))) (computed_put op to t a h.0)
  computed_within op to (Compares x y) a h = (tt, h, tt)
  computed_within op to (Tests t) a h = (tt, h, tt)

  extended_within : (size : Size) (t : Shape) → Within (4 + m) t → Within (6 + m) (extended size t)
  extended_within Byte t h = omega (arith, h)
  extended_within Word t h = omega (arith, h)
  extended_within Long t h = omega (arith, h)

  truncated_within : (size : Size) (t : Shape) → Within (4 + m) t → Within (6 + m) (truncated size t)
  truncated_within Byte t h = omega (arith, h)
  truncated_within Word t h = omega (arith, h)
  truncated_within Long t h = omega (arith, h)

  given_within : (f : Function) (a b : Shape) → Within (4 + m) a → Within (4 + m) b → GivenWithin (6 + m) (given f a b)
  given_within (functions.Copy size) a b h k = omega (arith, h)
  given_within functions.Clear a b h k = omega arith
  given_within functions.Negate a b h k = omega (arith, h)
  given_within functions.Complement a b h k = omega (arith, h)
  given_within (functions.SignExtend size) a b h k = extended_within size a h
  given_within (functions.Truncate size) a b h k = truncated_within size a h
  given_within functions.Add a b h k = omega (arith, h, k)
  given_within functions.Subtract a b h k = omega (arith, h, k)
  given_within functions.Multiply a b h k = omega (arith, h, k)
  given_within functions.Divide a b h k = (omega (arith, h, k), omega (arith, h))
  given_within functions.Increment a b h k = omega (arith, h)
  given_within functions.Decrement a b h k = omega (arith, h)
  given_within functions.BitSet a b h k = omega (arith, h, k)
  given_within functions.BitClear a b h k = omega (arith, h, k)
  given_within functions.ExclusiveOr a b h k = omega (arith, h, k)
  given_within functions.BitTest a b h k = omega (arith, h, k)
  given_within functions.Shift a b h k = omega (arith, h, k)
  given_within (functions.Compare size) a b h k = (extended_within size a h, extended_within size b k)
  given_within (functions.CompareWithZero size) a b h k = (extended_within size a h, omega arith)

  statement_within : (deed : ActShape) → ActWithin (6 + m) deed → EachOk (DeedWithin (6 + m)) (ends_statement s deed)
  statement_within deed h = if_ok (DeedWithin (6 + m)) s.is_statement (ends deed) (Err NotInstr) (λ e. (tt, h, tt)) (λ e. tt)

  acted_within : (a : Action) (op : Op) (x : Arguments) → ArgumentsWithin (4 + m) x → EachOk (DeedWithin (6 + m)) (acted s a op x)
  acted_within (action.Compute f) op x h = computed_within op x.target (given f x.first x.second) h.2 (given_within f x.first x.second h.0 h.1)
  acted_within action.Push op x h = statement_within (Push x.first) (omega (arith, h.0))
  acted_within (action.Branch t) op x h = tt
  acted_within action.Call op x h = tt
  acted_within action.Return op x h = tt

  ordered_within : (disordered : Bool) (d : Deed) → DeedWithin (6 + m) d → EachOk (DeedWithin (6 + m)) (in_order disordered d)
  ordered_within disordered d h =
      if_ok (DeedWithin (6 + m)) d.missized (Err WrongSize) (cond disordered (Err Order) (Ok d)) (λ e. tt)
      (λ e. if_ok (DeedWithin (6 + m)) disordered (Err Order) (Ok d) (λ f. tt) (λ f. h))

  operated_within : (is_first : Bool) (op : Op) (fs : List Form) → EachOk (DeedWithin (6 + m)) (operated s holes is_first zero' op fs)
  unfolding operated
  operated_within is_first op fs =
      bind_each (ArgumentsWithin (4 + m)) (DeedWithin (6 + m)) (all_evaluated s holes zero' (shape op).operands fs)
      (λ (x : Arguments). acted s (action_of op) op x >>= checked s holes is_first zero' fs x)
      (λ x h. bind_each (DeedWithin (6 + m)) (DeedWithin (6 + m)) (acted s (action_of op) op x) (checked s holes is_first zero' fs x)
      (λ d k. ordered_within (is_disordered s holes is_first zero' fs d) (with_reads x d) k) (acted_within (action_of op) op x h))
      (all_within (shape op).operands fs)

  branched_within : (i : ℕ) (left : Last) → LastWithin m left → EachOk (DeedWithin (6 + m)) (branches s i left)
  branched_within i (Compared a b) h = statement_within (Branch i a b) (omega (arith, h.0, h.1))
  branched_within i (Tested t) h =
      if_ok (DeedWithin (6 + m)) s.is_signed (ends_statement s (Branch i t (Constant 0))) (Err NotInstr)
      (λ e. statement_within (Branch i t (Constant 0)) (omega (arith, h))) (λ e. tt)
  branched_within i Plain h = tt
  branched_within i (Returning t) h = tt
  branched_within i (Ended deed) h = tt

  instruction_within : (is_first : Bool) (left : Last) (i : Instruction) → LastWithin m left → EachOk (DeedWithin (6 + m)) (instruction_did s holes is_first zero' left i)
  instruction_within is_first left (Relation i) h =
      if_ok (DeedWithin (6 + m)) (is_relation (hole_at holes i)) (branches s i left) (Err NotInstr) (λ e. branched_within i left h) (λ e. tt)
  instruction_within is_first left Jumps h = statement_within Jump (omega arith)
  instruction_within is_first left Calls h = statement_within Call (omega arith)
  instruction_within is_first left Ret h = tt
  instruction_within is_first left (Operates op fs) h = operated_within is_first op fs

  behind_within : (is_first : Bool) (left : Last) (i : Instruction) → LastWithin m left → EachOk (DeedWithin (6 + m)) (did_behind s holes is_first zero' left i)
  behind_within is_first Plain i h = instruction_within is_first Plain i h
  behind_within is_first (Compared a b) i h = instruction_within is_first (Compared a b) i h
  behind_within is_first (Tested t) i h = instruction_within is_first (Tested t) i h
  behind_within is_first (Returning t) i h = back i where
    back : (i : Instruction) → EachOk (DeedWithin (6 + m)) (returned t i)
    back Ret = (tt, omega (arith, h), tt)
    back (Relation i) = tt
    back Jumps = tt
    back Calls = tt
    back (Operates op fs) = tt
  behind_within is_first (Ended deed) i h = tt

  pub line_within : (ps : List Piece) (is_first : Bool) (left : Last) → LastWithin m left → EachOk (DeedWithin (6 + m)) (line_did s holes is_first zero' left ps)
  unfolding line_did
  line_within ps is_first left h = by (instruction_of ps) where
    by : (o : Option Instruction) → EachOk (DeedWithin (6 + m)) (read o >>= did_behind s holes is_first zero' left)
    by None = tt
    by (Some i) = behind_within is_first left i h
