-- An operand that stands at a symbol's place is that of a symbol that is a place.
use Rattle.std.proofs.Common.{ℕ, ◌==◌, Bool, true, false, cond, Option, Some, None, Result, Ok, Err, List, [], ◌∷◌}
use Rattle.gg_base.specs.declared.size.Size.{Size}
use Rattle.gg_base.specs.declared.size.Size.TheVariants.{Long}
use Rattle.term_core.specs.Shape.{Shape, Symbol, Memory}
use Rattle.vax_templates.specs.sel_terms.specs.Same.{same_size}
use Rattle.vax_templates.specs.sel_target.specs.declared.fault.TemplateKind.{TemplateKind}
use Rattle.vax_templates.specs.sel_target.specs.declared.fault.TemplateKind.TheVariants.{NotInstr}
use Rattle.vax_core.specs.declared.op.Access.{Access}
use Rattle.vax_core.specs.declared.op.Access.TheVariants as accesses
use Rattle.vax_core.specs.declared.op.OperandKind.{OperandKind}
use Rattle.vax_templates.specs.declared.form.Base.{Base}
use Rattle.vax_templates.specs.declared.form.Base.TheVariants as base
use Rattle.vax_templates.specs.declared.form.Form.{Form}
use Rattle.vax_templates.specs.declared.setting.Hole.{Hole}
use Rattle.vax_templates.specs.declared.setting.Hole.TheVariants as hole_kind
use Rattle.vax_templates.specs.declared.setting.Own.{Own}
use Rattle.vax_templates.specs.declared.setting.Own.TheVariants as own
use Rattle.vax_templates.specs.declared.setting.Opening.{Opening}
use Rattle.vax_templates.specs.declared.setting.Opening.TheVariants as opening
use Rattle.vax_templates.specs.declared.setting.Setting.{Setting}
use Rattle.vax_templates.specs.Settings.{hole_at}
use Rattle.vax_templates.specs.Standing.{Where, Immediate, Register, OwnRegister, RegisterZero, Value, Place, Local}
use Rattle.vax_templates.specs.Standing.{SavedPlace, Saved, At, where_own, where_hole, where_zero, where_deferred, at}
use Rattle.vax_templates.specs.Standing.{displaced, pointed, negated, itself, where_base, moved, where_indexed}
use Rattle.vax_templates.specs.Standing.{form_where, ◌>>=◌}
use Rattle.vax_templates.specs.HoleTerms.{constant_of, number_term, absolute_term, register_term, own_value}
use Rattle.vax_templates.specs.Targets.{Target, ToOwn, ToHome, is_long, own_target, memory_target, zero_target}
use Rattle.vax_templates.specs.Targets.{statement_target, targeted}
use Rattle.vax_templates.specs.Taking.{Taken, taken_term, taken_read, taken_missized, sized, last_result, cut_term}
use Rattle.vax_templates.specs.Taking.{fetched, addressed, written, both, taken, evaluated, Arguments, last_of}
use Rattle.vax_templates.specs.Taking.{in_front, all_evaluated}
use Rattle.vax_target_writing.proofs.Each.{EachOk, bind_each, if_ok}

-- a symbol that is a place
abbrev pub IsPlace : Hole → Type 0
IsPlace (hole_kind.Place z) = Unit {0}
IsPlace hole_kind.Local = Unit {0}
IsPlace h = ⊥

module _ (s : Setting) (roles : List Hole) (zero : Option Shape) where
  abbrev Home : Where → Type 0
  Home (Place z i) = IsPlace (hole_at roles i)
  Home (Local i) = IsPlace (hole_at roles i)
  Home w = Unit {0}

  hole_home : (r : Hole) (i : ℕ) → (IsPlace r → IsPlace (hole_at roles i)) → EachOk Home (where_hole r i)
  hole_home (hole_kind.Place z) i k = k tt
  hole_home hole_kind.Local i k = k tt
  hole_home r i k = tt

  own_home : (x : Own) → EachOk Home (where_own x)
  own_home own.Nothing = tt
  own_home x = tt

  zero_home : (x : Opening) → EachOk Home (where_zero x)
  zero_home opening.Other = tt
  zero_home x = tt

  deferred_home : (r : Hole) (i : ℕ) → EachOk Home (where_deferred r i)
  deferred_home hole_kind.Local i = tt
  deferred_home hole_kind.Object i = tt
  deferred_home r i = tt

  memory_home : (r : Result Shape TemplateKind) (g : Shape → Result Where TemplateKind) → ((t : Shape) → EachOk Home (g t)) → EachOk Home (r >>= g)
  memory_home (Ok t) g h = h t
  memory_home (Err e) g h = tt

  base_home : (b : Base) → EachOk Home (where_base s roles zero b)
  unfolding where_base
  base_home base.RegisterZero = zero_home s.opening
  base_home (base.Hole i) = if_ok Home (i == 0) (where_own s.own) (where_hole (hole_at roles i) i) (λ e. own_home s.own) (λ e. hole_home (hole_at roles i) i (λ p. p))
  base_home (base.Immediate n) = memory_home (number_term roles n) itself (λ t. tt)
  base_home (base.Negative i) = memory_home (constant_of (hole_at roles i) i) negated (λ t. tt)
  base_home (base.RegisterDeferred i) = memory_home (register_term s roles zero i) at (λ t. tt)
  base_home (base.Displacement n i) = memory_home (displaced (number_term roles n) (register_term s roles zero i)) at (λ t. tt)
  base_home (base.DisplacementDeferred n i) = memory_home (displaced (number_term roles n) (register_term s roles zero i)) pointed (λ t. tt)
  base_home (base.Absolute n) = memory_home (absolute_term roles n) at (λ t. tt)
  base_home (base.Deferred i) = deferred_home (hole_at roles i) i

  moved_home : (size : Size) (u : Where) (t : Shape) → EachOk Home (moved size u t)
  moved_home size (At a p) t = tt
  moved_home size u t = tt

  indexed_home : (x : Option ℕ) (size : Size) (u : Where) → Home u → EachOk Home (where_indexed s roles zero x size u)
  indexed_home None size u h = h
  indexed_home (Some i) size u h = memory_home (register_term s roles zero i) (moved size u) (λ t. moved_home size u t)

  form_home : (f : Form) (size : Size) → EachOk Home (form_where s roles zero f size)
  unfolding form_where
  form_home f size = bind_each Home Home (where_base s roles zero f.base) (where_indexed s roles zero f.index size) (λ w h. indexed_home f.index size w h) (base_home f.base)

  -- ---- what is written

  abbrev To : Target → Type 0
  To (ToHome z i) = IsPlace (hole_at roles i)
  To t = Unit {0}

  abbrev pub ToSome : Option Target → Type 0
  ToSome None = Unit {0}
  ToSome (Some t) = To t

  memory_to : (x : Own) (a : Shape) (size : Size) → EachOk (λ (y : Target × Bool). To y.0) (memory_target x a size)
  memory_to (own.Slot z) a size = tt
  memory_to x a size = tt

  zero_to : (x : Opening) → EachOk (λ (y : Target × Bool). To y.0) (zero_target x)
  zero_to opening.Return = tt
  zero_to x = tt

  own_to : (x : Own) (size : Size) → EachOk (λ (y : Target × Bool). To y.0) (own_target x size)
  own_to own.Nothing size = tt
  own_to own.Register size = if_ok (λ (y : Target × Bool). To y.0) (is_long size) (Ok (ToOwn, false)) (Err NotInstr) (λ e. tt) (λ e. tt)
  own_to (own.Slot z) size = tt

  statement_to : (w : Where) (size : Size) → Home w → EachOk (λ (y : Target × Bool). To y.0) (statement_target s w size)
  statement_to (Place z i) size h = h
  statement_to (Local i) size h = h
  statement_to (Saved i) size h = tt
  statement_to (At a p) size h = memory_to s.own a size
  statement_to RegisterZero size h = zero_to s.opening
  statement_to w size h = tt

  targeted_to : (w : Where) (size : Size) → Home w → EachOk (λ (y : Target × Bool). To y.0) (targeted s w size)
  unfolding targeted
  targeted_to OwnRegister size h = own_to s.own size
  targeted_to w size h = if_ok (λ (y : Target × Bool). To y.0) s.is_statement (statement_target s w size) (Err NotInstr) (λ e. statement_to w size h) (λ e. tt)

  abbrev TakenTo : Taken → Type 0
  TakenTo t = ToSome t.target

  sized_to : (z size : Size) (t : Taken) → TakenTo t → TakenTo (sized z size t)
  sized_to z size t h = by (same_size z size)
    where
      by : (b : Bool) → TakenTo (cond b t taken_missized)
      by true = h
      by false = tt

  cut_to : (r : Result Shape TemplateKind) (size : Size) → EachOk TakenTo (r >>= cut_term size)
  cut_to (Ok t) size = tt
  cut_to (Err e) size = tt

  result_to : (x : Opening) (o : Option Shape) (size : Size) → EachOk TakenTo (last_result x o size)
  result_to opening.Save None size = tt
  result_to x o size = tt

  fetched_to : (w : Where) (size : Size) → EachOk TakenTo (fetched s zero w size)
  unfolding fetched
  fetched_to (Immediate t) size = tt
  fetched_to (Register t) size = tt
  fetched_to OwnRegister size = cut_to (own_value s.own zero) size
  fetched_to RegisterZero size = result_to s.opening zero size
  fetched_to (Value z i) size = sized_to z size (taken_term (Symbol i)) tt
  fetched_to (Place z i) size = sized_to z size (taken_read (Symbol i)) tt
  fetched_to (Local i) size = sized_to Long size (taken_term (Symbol i)) tt
  fetched_to (SavedPlace z i) size = sized_to z size (taken_read (Memory z (Symbol i))) tt
  fetched_to (Saved i) size = tt
  fetched_to (At a p) size = tt

  addressed_to : (w : Where) (size : Size) → EachOk TakenTo (addressed w size)
  addressed_to (At a p) size = tt
  addressed_to (SavedPlace z i) size = sized_to z size (taken_term (Symbol i)) tt
  addressed_to w size = tt

  taken_to : (a : Access) (w : Where) (size : Size) → Home w → EachOk TakenTo (taken s zero a w size)
  unfolding taken
  taken_to accesses.Read w size h = fetched_to w size
  taken_to accesses.Modify w size h =
      bind_each TakenTo TakenTo (fetched s zero w size) (λ (t : Taken). targeted s w size >>= both t)
      (λ t k. bind_each (λ (y : Target × Bool). To y.0) TakenTo (targeted s w size) (both t) (λ y m. m) (targeted_to w size h)) (fetched_to w size)
  taken_to accesses.Write w size h = bind_each (λ (y : Target × Bool). To y.0) TakenTo (targeted s w size) written (λ y m. m) (targeted_to w size h)
  taken_to accesses.Address w size h = addressed_to w size
  taken_to accesses.Count w size h = tt

  evaluated_to : (k : OperandKind) (f : Form) → EachOk TakenTo (evaluated s roles zero k f)
  unfolding evaluated
  evaluated_to k f = bind_each Home TakenTo (form_where s roles zero f k.size) (λ (w : Where). taken s zero k.access w k.size) (λ w h. taken_to k.access w k.size h) (form_home f k.size)

  last_to : (a b : Option Target) → ToSome a → ToSome b → ToSome (last_of a b)
  last_to a None h k = h
  last_to a (Some t) h k = k

  pub all_to : (ks : List OperandKind) (fs : List Form) → EachOk (λ (x : Arguments). ToSome x.target) (all_evaluated s roles zero ks fs)
  all_to [] fs = tt
  all_to (k ∷ ks) [] = tt
  all_to (k ∷ ks) (f ∷ fs) =
      bind_each TakenTo (λ (x : Arguments). ToSome x.target) (evaluated s roles zero k f) (λ (t : Taken). all_evaluated s roles zero ks fs >>= in_front t)
      (λ t h. bind_each (λ (x : Arguments). ToSome x.target) (λ (x : Arguments). ToSome x.target) (all_evaluated s roles zero ks fs) (in_front t) (λ x m. last_to t.target x.target h m)
      (all_to ks fs))
      (evaluated_to k f)
