-- The lines of a statement end in its act.
use Rattle.std.proofs.Common.{◌≡◌, ℕ, ◌≤◌, inl, inr, Bool, true, false, cond, List, map, Option, Some, None, Result, Ok, Err, refl, sym, ap, subst, arith}
use Rattle.std.specs.Prelude.{is_none}
use Rattle.gg_base.specs.declared.size.Size.{Size}
use Rattle.gg_base.specs.declared.size.Size.TheVariants.{Long, Byte}
use Rattle.gg_base.proofs.Facts.{err_ok, ok_same}
use Rattle.tree_core.specs.declared.program.TreeProgram.{TreeProgram}
use Rattle.tree_meaning.specs.State.{State as Trees, Extent}
use Rattle.md_reader.specs.declared.types.Kind.{Kind}
use Rattle.md_reader.specs.declared.types.Kind.TheVariants as kind
use Rattle.md_reader.specs.declared.types.Class.{Class}
use Rattle.md_reader.specs.declared.types.Give.{Give}
use Rattle.md_reader.specs.declared.types.Give.TheVariants as give
use Rattle.md_reader.specs.declared.types.Rule.{Rule}
use Rattle.md_reader.specs.Patterns.{kind_at}
use Rattle.term_core.specs.Shape.{Shape}
use Rattle.vax_target_rules.specs.sel_terms.specs.Effects.{ActShape, EffectShape, Value, Number, Address, PlaceHome, PlaceAt}
use Rattle.vax_target_rules.specs.sel_target.specs.declared.fault.TemplateKind.{TemplateKind}
use Rattle.vax_target_rules.specs.sel_target.specs.declared.fault.TemplateKind.TheVariants.{NotInstr, WrongSize}
use Rattle.vax_target_rules.specs.sel_target.specs.declared.attr.Attr.{Attr}
use Rattle.vax_target_rules.specs.sel_target.specs.Values.{View}
use Rattle.vax_target_rules.specs.sel_target.specs.Instances.{Ready}
use Rattle.vax_core.specs.declared.operand.Operand.{Operand}
use Rattle.vax_machine.specs.declared.function.Conditions.{Conditions}
use Rattle.vax_machine.specs.State.{State, with_conditions}
use Rattle.vax_target_rules.specs.vax_machine_lists.specs.Instructions.{Course}
use Rattle.vax_target_rules.specs.vax_confined.specs.Confined.{exec}
use Rattle.vax_target_rules.specs.vax_machine_lists.proofs.Soundness.{conditions_sound}
use Rattle.vax_target_rules.specs.vax_states.specs.Agreeing.{HasRoom}
use Rattle.vax_target_rules.specs.vax_templates.specs.declared.form.Base.{Base}
use Rattle.vax_target_rules.specs.vax_templates.specs.declared.form.Base.TheVariants as base
use Rattle.vax_target_rules.specs.vax_templates.specs.declared.form.Form.{Form}
use Rattle.vax_target_rules.specs.vax_templates.specs.declared.setting.Hole.{Hole}
use Rattle.vax_target_rules.specs.vax_templates.specs.declared.setting.Setting.{Setting}
use Rattle.vax_target_rules.specs.vax_templates.specs.Settings.{holes_of, setting_of, hole_at}
use Rattle.vax_target_rules.specs.vax_templates.specs.Instructions.{shape_of_pieces}
use Rattle.vax_target_rules.specs.vax_templates.specs.Standing.{Where, Register}
use Rattle.vax_target_rules.specs.vax_templates.specs.Standing.{Place, Local, At, form_where, ◌>>=◌}
use Rattle.vax_target_rules.specs.vax_templates.specs.HoleTerms.{constant_of}
use Rattle.vax_target_rules.specs.vax_templates.specs.Taking.{fetched}
use Rattle.vax_target_rules.specs.vax_templates.specs.Deeds.{Last, Plain, Compared, Tested, Returning, Ended}
use Rattle.vax_target_rules.specs.vax_templates.specs.GiveLines.{left_value, last_deed, register_given, number_given, base_number}
use Rattle.vax_target_rules.specs.vax_templates.specs.GiveLines.{address_given, value_given, place_given, shape_given, shape_read, given_by}
use Rattle.vax_target_rules.specs.vax_target_meaning.specs.Vax.{vax, stands}
use Rattle.vax_target_rules.specs.vax_target_operands.specs.Scenes.{Scene}
use Rattle.vax_target_rules.specs.vax_target_operands.proofs.Binds.{chained}
use Rattle.vax_target_rules.specs.vax_target_runs.specs.Runs.{OwnChanged, ZeroChanged, Changed, EndsIn, line_of}
use Rattle.vax_target_rules.specs.vax_target_runs.proofs.Kept.{agrees_same, room_same}
use Rattle.vax_target_rules.proofs.Founds.{IsFound}
use Rattle.vax_target_rules.proofs.Results.{scene, found_so, low, ends_in}

-- an act of a statement
abbrev pub IsDeed : ActShape → Type 0
IsDeed (Value t) = ⊥
IsDeed (Number t) = ⊥
IsDeed (Address t) = ⊥
IsDeed (PlaceHome z i) = ⊥
IsDeed (PlaceAt z a) = ⊥
IsDeed a = Unit {0}

given_plain : (x a : ActShape) → (IsDeed x → ⊥) → ◌≡◌ {A = Result ActShape TemplateKind} (Ok x) (Ok a) → IsDeed a → ⊥
given_plain x a h e d = h (subst IsDeed (sym (ok_same x a e)) d)

register_plain : (w : Where) (a : ActShape) → register_given w ≡ Ok a → IsDeed a → ⊥
register_plain (Register t) a e = given_plain (Value t) a (λ x. x) e
register_plain _ a e = absurd (err_ok _ a e)

address_plain : (w : Where) (a : ActShape) → address_given w ≡ Ok a → IsDeed a → ⊥
address_plain (At b p) a e = given_plain (Address b) a (λ x. x) e
address_plain _ a e = absurd (err_ok _ a e)

cond_plain : (b : Bool) (x a : ActShape) → (IsDeed x → ⊥) → cond b (Ok x) (Err WrongSize) ≡ Ok a → IsDeed a → ⊥
cond_plain true x a h e = given_plain x a h e
cond_plain false x a h e = absurd (err_ok _ a e)

place_plain : (size : Size) (w : Where) (a : ActShape) → place_given size w ≡ Ok a → IsDeed a → ⊥
place_plain size (Place z i) a e = cond_plain _ (PlaceHome size i) a (λ x. x) e
place_plain size (Local i) a e = cond_plain _ (PlaceHome size i) a (λ x. x) e
place_plain size (At b p) a e = given_plain (PlaceAt size b) a (λ x. x) e
place_plain size _ a e = absurd (err_ok _ a e)

number_plain : (roles : List Hole) (b : Base) (a : ActShape) → base_number roles b ≡ Ok a → IsDeed a → ⊥
number_plain roles (base.Hole i) a e = let d = chained (constant_of (hole_at roles i) i) number_given a e in given_plain (Number d.first) a (λ x. x) d.then_so
number_plain roles _ a e = absurd (err_ok _ a e)

indexed_plain : (b : Bool) (x : Result ActShape TemplateKind) (a : ActShape) → cond b x (Err NotInstr) ≡ Ok a → x ≡ Ok a
indexed_plain true x a e = e
indexed_plain false x a e = absurd (err_ok _ a e)

value_plain : (b : Bool) (t : Shape) (a : ActShape) → cond b (Err WrongSize) (Ok (Value t)) ≡ Ok a → IsDeed a → ⊥
value_plain true t a e = absurd (err_ok _ a e)
value_plain false t a e = given_plain (Value t) a (λ x. x) e

-- a shape gives no act of a statement
shape_plain : (s : Setting) (roles : List Hole) (k : Option Kind) (f : Form) (a : ActShape) → shape_given s roles k f ≡ Ok a → IsDeed a → ⊥
unfolding shape_given
shape_plain s roles (Some kind.Reg) f a e = let w = chained (form_where s roles None f Long) register_given a e in register_plain w.first a w.then_so
shape_plain s roles (Some kind.Con) f a e = number_plain roles f.base a (indexed_plain (is_none f.index) (base_number roles f.base) a e)
shape_plain s roles (Some kind.Ea) f a e =
    let w = chained (form_where s roles None f Byte) address_given a (indexed_plain (is_none f.index) (form_where s roles None f Byte >>= address_given) a e) in
    address_plain w.first a w.then_so
shape_plain s roles (Some (kind.Value z)) f a e =
    let w = chained (form_where s roles None f z) (λ (w : Where). fetched s None w z >>= value_given) a e in
    let t = chained (fetched s None w.first z) value_given a w.then_so in
    value_plain t.first.missized t.first.term a t.then_so
shape_plain s roles (Some (kind.Place z)) f a e = let w = chained (form_where s roles None f z) (place_given z) a e in place_plain z w.first a w.then_so
shape_plain s roles (Some kind.Nothing) f a e = absurd (err_ok _ a e)
shape_plain s roles None f a e = absurd (err_ok _ a e)

pub left_plain : (o : Option Shape) (a : ActShape) → left_value o ≡ Ok a → IsDeed a → ⊥
left_plain None a e = absurd (err_ok _ a e)
left_plain (Some t) a e = given_plain (Value t) a (λ x. x) e

-- a template with such an act ends in its last line
pub last_given : (s : Setting) (roles : List Hole) (k : Option Kind) (o : Option Shape) (l : Last) (g : Give) (a : ActShape) → given_by s roles k o l g ≡ Ok a → IsDeed a → last_deed l ≡ Ok a
last_given s roles k o l give.Fresh a e d = absurd (left_plain o a e d)
last_given s roles k o l give.Reuse a e d = absurd (left_plain o a e d)
last_given s roles k o l give.Scratch a e d = e
last_given s roles k o l give.Nothing a e d = e
last_given s roles k o l (give.Shape x) a e d =
    let f = chained (shape_read (shape_of_pieces x.pieces)) (shape_given s roles k) a e in absurd (shape_plain s roles k f.first a f.then_so d)

-- the condition codes stand for nothing of trees
pub codes_agree : (q : TreeProgram) (f : Extent) (fs : List Extent) (t : Trees) (n : State) (k : Conditions) → stands q f fs t n → stands q f fs t (with_conditions n k)
codes_agree q f fs t n k h =
    agrees_same (λ x. ⊥) n (with_conditions n k) (record { registers = n.registers; conditions = k; is = refl; others = λ r off. refl; sound = conditions_sound n k h.sound }) q f fs t (λ r le e. e) h

module _ (q : TreeProgram) (f : Extent) (fs : List Extent) (classes : List Class) (rule : Rule) (e : EffectShape) (hs : List (Attr Operand)) (res : Attr Operand) (v : View) (m : State)
    (ready : Ready vax q f fs classes rule e hs res v m) where
  abbrev pub c : Scene
  c = scene q f fs classes rule e hs res v m ready

  abbrev pub did : Course
  did = exec (map (line_of c) rule.lines) m

  abbrev F : IsFound (setting_of classes rule) (holes_of classes rule.right) (kind_at classes rule.left) rule.lines rule.give e
  F = found_so q f fs classes rule e hs res v m ready

  pub statement_ends : IsDeed e.act → EndsIn c m e.act did
  statement_ends d =
      ends_in q f fs classes rule e hs res v m ready
      (last_given (setting_of classes rule) (holes_of classes rule.right) (kind_at classes rule.left) F.progress.own F.progress.last rule.give F.deed F.given
      (subst IsDeed (sym (ap (λ (x : EffectShape). x.act) F.is)) d))

  -- ---- the state of the last line stands for the same tree state

  module _ (a : ActShape) (x : EndsIn c m a did) where
    own_far : (o : Option Shape) (r : ℕ) → 12 ≤ r → OwnChanged c o r → ⊥
    own_far None r le h = h
    own_far (Some t) r le h = let lt = low q f fs classes rule e hs res v m ready in omega (arith, le, h, lt)

    zero_far : (l : Last) (r : ℕ) → 12 ≤ r → ZeroChanged l r → ⊥
    zero_far Plain r le h = h
    zero_far (Compared s t) r le h = h
    zero_far (Tested t) r le h = h
    zero_far (Returning t) r le h = omega (arith, le, h)
    zero_far (Ended d) r le h = h

    pub far : (r : ℕ) → 12 ≤ r → Changed c x.own_is x.last r → ⊥
    far r le (inl h) = own_far x.own_is r le h
    far r le (inr h) = zero_far x.last r le h

    pub agrees_there : stands q f fs v.state x.state
    agrees_there = agrees_same (Changed c x.own_is x.last) m x.state x.reaches.differs q f fs v.state far ready.instance_of.agrees

    pub room_there : HasRoom x.state
    room_there = room_same (Changed c x.own_is x.last) m x.state x.reaches.differs far ready.instance_of.room

    pub live_there : x.state.frames ≡ m.frames
    live_there = ap (λ y. y.frames) x.reaches.differs.is
