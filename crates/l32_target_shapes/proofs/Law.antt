-- The law, field by field.
use Rattle.std.proofs.Common.{◌≡◌, ℕ, true, false, Option, Some, None, Ok, List, [], ◌∷◌, refl, sym, ap, subst, ◌∙◌}
use Rattle.std.specs.List.{AllByRecursion}
use Rattle.std.proofs.lemmas.Option.{same_Some}
use Rattle.gg_base.specs.declared.size.Size.{Size}
use Rattle.gg_base.specs.declared.size.Size.TheVariants.{Long}
use Rattle.gg_base.proofs.Facts.{err_ok, ok_same}
use Rattle.l32_target_rules.specs.vax_target_meaning.specs.tree_core.specs.declared.program.TreeProgram.{TreeProgram}
use Rattle.l32_target_rules.specs.vax_target_meaning.specs.tree_meaning.specs.State.{Extent}
use Rattle.l32_target_rules.specs.judging_laws.specs.md_reader_pieces.specs.declared.piece.Line.{Line}
use Rattle.l32_target_rules.specs.judging_laws.specs.md_reader_pieces.specs.declared.piece.Piece.{Piece}
use Rattle.l32_target_rules.specs.judging_laws.specs.md_reader_pieces.specs.declared.piece.Piece.TheVariants as piece
use Rattle.l32_target_rules.specs.judging_laws.specs.md_reader.specs.declared.types.Class.{Class}
use Rattle.l32_target_rules.specs.judging_laws.specs.md_reader.specs.declared.types.Kind.{Kind}
use Rattle.l32_target_rules.specs.judging_laws.specs.md_reader.specs.declared.types.Kind.TheVariants as kind
use Rattle.l32_target_rules.specs.judging_laws.specs.md_reader.specs.declared.types.Rule.{Rule}
use Rattle.l32_target_rules.specs.judging_laws.specs.md_reader.specs.declared.types.Give.{Give}
use Rattle.l32_target_rules.specs.judging_laws.specs.md_reader.specs.declared.types.Give.TheVariants as give
use Rattle.l32_target_rules.specs.judging_laws.specs.md_reader.specs.Patterns.{kind_at}
use Rattle.l32_target_rules.specs.judging_laws.specs.md_reader.specs.Restrictions.{is_nothing}
use Rattle.l32_target_rules.specs.judging_laws.specs.term_core.specs.Shape.{Shape, Symbol}
use Rattle.l32_target_rules.specs.judging_laws.specs.sel_terms.specs.Effects as effects
use Rattle.l32_target_rules.specs.judging_laws.specs.sel_terms.specs.Effects.{ActShape, EffectShape}
use Rattle.l32_target_rules.specs.judging_laws.specs.sel_target.specs.sel_terms_meaning.specs.Meaning.{terms_of_act}
use Rattle.l32_target_rules.specs.judging_laws.specs.sel_target.specs.declared.attr.Attr.{Attr}
use Rattle.l32_target_rules.specs.judging_laws.specs.sel_target.specs.declared.attr.Attr.TheVariants as attr
use Rattle.l32_target_rules.specs.judging_laws.specs.sel_target.specs.Courses.{comes}
use Rattle.l32_target_rules.specs.judging_laws.specs.sel_target.specs.Values as target
use Rattle.l32_target_rules.specs.judging_laws.specs.sel_target.specs.Values.{View, value, IsRead, own_operand}
use Rattle.l32_target_rules.specs.judging_laws.specs.sel_target.specs.Instances.{hole, Fit, lines_of, IsResult, Instance, Ready}
use Rattle.l32_target_rules.specs.judging_laws.specs.sel_target.specs.Outcomes.{Keeps}
use Rattle.l32_target_rules.specs.judging_laws.specs.vax_templates.specs.declared.setting.Own.TheVariants as own
use Rattle.l32_target_rules.specs.judging_laws.specs.vax_templates.specs.declared.setting.Hole.{Hole}
use Rattle.l32_target_rules.specs.judging_laws.specs.vax_templates.specs.declared.setting.Setting.{Setting}
use Rattle.l32_target_rules.specs.judging_laws.specs.vax_templates.specs.Settings.{hole_at, holes_of, setting_of, own_of}
use Rattle.l32_target_rules.specs.judging_laws.specs.vax_templates.specs.HoleTerms.{constant_of}
use Rattle.l32_target_rules.specs.judging_laws.specs.vax_templates.specs.Standing.{Where, ◌>>=◌}
use Rattle.l32_target_rules.specs.judging_laws.specs.vax_templates.specs.GiveLines.{number_given, address_given, value_given, place_given}
use Rattle.l32_target_rules.specs.judging_laws.specs.template_judging.specs.Lines.{given_by}
use Rattle.l32_target_rules.specs.judging_laws.specs.Each.{Each}
use Rattle.l32_target_rules.specs.judging_laws.proofs.Binds.{chained}
use Rattle.l32_target_rules.specs.judging_effects.proofs.Founds.{front_safe}
use Rattle.l32_target_rules.specs.l32_templates.specs.declared.form.Form.{Form}
use Rattle.l32_target_rules.specs.l32_templates.specs.declared.form.Form.TheVariants as form
use Rattle.l32_target_rules.specs.l32_templates.specs.l32_core.specs.declared.operand.Operand32.{Operand32}
use Rattle.l32_target_rules.specs.l32_templates.specs.l32_machine.specs.State.{State}
use Rattle.l32_target_rules.specs.l32_templates.specs.Instructions.{shape_of_pieces}
use Rattle.l32_target_rules.specs.l32_templates.specs.Standing.{form_where}
use Rattle.l32_target_rules.specs.l32_templates.specs.Taking.{sourced}
use Rattle.l32_target_rules.specs.l32_templates.specs.Filled.{attr_at, filled, filled_or_spare}
use Rattle.l32_target_rules.specs.l32_templates.specs.GiveLines.{shape_given, shape_read, given_shape}
use Rattle.l32_target_rules.specs.l32_target_meaning.specs.Reading.{named, reads}
use Rattle.l32_target_rules.specs.l32_target_meaning.specs.L32.{l32}
use Rattle.l32_target_rules.specs.l32_target_operands.specs.Scenes.{Scene, worth, Sees}
use Rattle.l32_target_rules.specs.l32_target_operands.specs.Places.{FormIsShort, Stands}
use Rattle.l32_target_rules.specs.l32_target_operands.proofs.Forms.{operands_stand}
use Rattle.l32_target_rules.specs.l32_target_operands.proofs.Short.{shape_short}
use Rattle.l32_target_rules.specs.l32_target_operands.proofs.Holes.{constant_known}
use Rattle.l32_target_rules.specs.l32_target_lines.specs.Lines.{MayHold}
use Rattle.l32_target_rules.specs.l32_target_runs.specs.Runs.{spots_of}
use Rattle.l32_target_rules.specs.Scene.{scene_of}
use Rattle.l32_target_rules.proofs.Instances.{instances_are_seen}
use Rattle.l32_target_rules.proofs.Results.{rule_is, comes_so}
use Rattle.l32_target_shapes.specs.Laws.{ShapesStand}
use Rattle.l32_target_shapes.proofs.Standing.{value_so, place_so, address_so}
use Rattle.l32_target_shapes.proofs.Symbols.{all_own, filled_with, number_spelled, home_stays, alone_form, register_stays, number_of}

shape_is : (o : Option Form) (f : Form) → shape_read o ≡ Ok f → o ≡ Some f
shape_is None f e = absurd (err_ok _ f e)
shape_is (Some g) f e = ap Some (ok_same g f e)

-- a statement gives no shape
nothing_none : (s : Setting) (holes : List Hole) (f : Form) (a : ActShape) → shape_given s holes (Some kind.Nothing) f ≡ Ok a → ⊥
unfolding shape_given
nothing_none s holes f a e = err_ok _ a e

-- ---- a form with its holes filled

module _ (c : Scene) (m : State) (h : Sees c None m) (f : Form) (short : FormIsShort f) where
  stands : (w : Where) → form_where c.setting c.roles None f ≡ Ok w → Stands c m (filled c.program c.holes c.own f) w
  stands w e = operands_stand c None m f w h short (λ lost. absurd (let x : false ≡ true = lost in cc)) e

  values : (size : Size) (t : Shape) → shape_given c.setting c.roles (Some (kind.Value size)) f ≡ Ok (effects.Value t) → IsRead c.view t → reads (filled c.program c.holes c.own f) size m ≡ Some (worth c t)
  unfolding shape_given
  values size t e safe =
      let d = chained (form_where c.setting c.roles None f) (λ (w : Where). sourced c.setting None w size >>= value_given) (effects.Value t) e in
      let g = chained (sourced c.setting None d.first size) value_given (effects.Value t) d.then_so in
      value_so c m h d.first (filled c.program c.holes c.own f) size g.first t (stands d.first d.is) g.is g.then_so safe

  places : (size : Size) (a : Shape) → shape_given c.setting c.roles (Some (kind.Place size)) f ≡ Ok (effects.PlaceAt size a) → IsRead c.view a → named m (filled c.program c.holes c.own f) ≡ Some (worth c a)
  unfolding shape_given
  places size a e safe =
      let d = chained (form_where c.setting c.roles None f) (place_given size) (effects.PlaceAt size a) e in
      place_so c m h d.first (filled c.program c.holes c.own f) size a (stands d.first d.is) d.then_so safe

  addresses : (t : Shape) → shape_given c.setting c.roles (Some kind.Ea) f ≡ Ok (effects.Address t) → IsRead c.view t → named m (filled c.program c.holes c.own f) ≡ Some (worth c t)
  unfolding shape_given
  addresses t e safe =
      let d = chained (form_where c.setting c.roles None f) address_given (effects.Address t) e in
      address_so c m h d.first (filled c.program c.holes c.own f) t (stands d.first d.is) d.then_so safe

-- ---- a rule that gives a shape

-- what it gives, by the form of its shape
record Gives (classes : List Class) (rule : Rule) (k : Option Kind) (ps : List Piece) (a : ActShape) : Type 0 where
  form_of : Form
  is : shape_of_pieces ps ≡ Some form_of
  short : FormIsShort form_of
  given : shape_given (setting_of classes rule) (holes_of classes rule.right) k form_of ≡ Ok a

gives_so : (classes : List Class) (rule : Rule) (e : EffectShape) (l : Line) (k : Option Kind) (a : ActShape) → l32.effect classes rule ≡ Ok e → rule.give ≡ give.Shape l → kind_at classes rule.left ≡ k
    → e.act ≡ a → Gives classes rule k l.pieces a
gives_so classes rule e l k a taken gives kind_is act =
    let F = rule_is classes rule e taken in
    let s = setting_of classes rule in
    let roles = holes_of classes rule.right in
    let given : given_shape s roles k l.pieces ≡ Ok F.deed =
    subst (λ (x : Option Kind). given_shape s roles x l.pieces ≡ Ok F.deed) kind_is
    (subst (λ (g : Give). given_by (given_shape s roles (kind_at classes rule.left)) F.progress.own F.progress.last g ≡ Ok F.deed) gives F.given) in
    let deed : F.deed ≡ a = ap (λ (x : EffectShape). x.act) F.is ∙ act in
    let d = chained (shape_read (shape_of_pieces l.pieces)) (shape_given s roles k) F.deed given in
    let is = shape_is (shape_of_pieces l.pieces) d.first d.is in
    record { form_of = d.first; is = is; short = subst (Each FormIsShort) is (shape_short l.pieces); given = d.then_so ∙ ap (λ (x : ActShape). Ok x) deed }

-- a hole alone
alone_given : (s : Setting) (roles : List Hole) (k : Option Kind) (i : ℕ) (ps : List Piece) (f : Form) (a : ActShape) → ps ≡ piece.Hole i ∷ [] → shape_of_pieces ps ≡ Some f
    → shape_given s roles k f ≡ Ok a → shape_given s roles k (form.Hole i) ≡ Ok a
alone_given s roles k i ps f a only is e =
    let same : form.Hole i ≡ f = same_Some (form.Hole i) f (sym (alone_form i) ∙ ap shape_of_pieces (sym only) ∙ is) in
    ap (shape_given s roles k) same ∙ e

-- a symbol's own place
home_so : (q : TreeProgram) (classes : List Class) (rule : Rule) (e : EffectShape) (size : Size) (i : ℕ) (l : Line) (hs : List (Attr Operand32)) (h : Attr Operand32) →
    l32.effect classes rule ≡ Ok e → rule.give ≡ give.Shape l → e.act ≡ effects.PlaceHome size i → Fit l32 classes rule.right hs → hole hs i ≡ Some h
    → own_operand l32 h ≡ Some (l32.operand q l hs)
home_so q classes rule e size i l hs h taken gives act fit there =
    let g = gives_so classes rule e l (kind_at classes rule.left) (effects.PlaceHome size i) taken gives refl act in
    let stays = home_stays q (setting_of classes rule) (holes_of classes rule.right) hs (all_own q classes rule.right hs fit) (kind_at classes rule.left) g.form_of size i g.given in
    sym (ap (own_operand l32) (filled_with hs i h there)) ∙ stays ∙ sym (ap (λ (o : Option Form). Some (filled_or_spare q hs o)) g.is)

-- a symbol's register
register_so : (classes : List Class) (rule : Rule) (e : EffectShape) (i : ℕ) (l : Line) → l32.effect classes rule ≡ Ok e → rule.give ≡ give.Shape l
    → kind_at classes rule.left ≡ Some kind.Reg → l.pieces ≡ piece.Hole i ∷ [] → e.act ≡ effects.Value (Symbol i)
register_so classes rule e i l taken gives kind_is only =
    let g = gives_so classes rule e l (Some kind.Reg) e.act taken gives kind_is refl in
    register_stays (setting_of classes rule) (holes_of classes rule.right) i e.act
    (alone_given (setting_of classes rule) (holes_of classes rule.right) (Some kind.Reg) i l.pieces g.form_of e.act only g.is g.given)

module _ (q : TreeProgram) (f : Extent) (fs : List Extent) (classes : List Class) (rule : Rule) (e : EffectShape) (l : Line) (hs : List (Attr Operand32)) (v : View) (m : State)
    (i : Instance l32 true q f fs classes rule e hs v m) (gives : rule.give ≡ give.Shape l) where
  abbrev S : Scene
  S = scene_of q classes rule hs attr.Nothing v

  seen : Sees S None m
  seen = instances_are_seen true q f fs classes rule e hs attr.Nothing v m i (subst (λ (g : Give). IsResult l32 g hs attr.Nothing) (sym gives) tt)

  safe : (a : ActShape) → e.act ≡ a → AllByRecursion (λ (t : Shape). IsRead v t) (terms_of_act a)
  safe a act = subst (λ (x : ActShape). AllByRecursion (λ (t : Shape). IsRead v t) (terms_of_act x)) act (front_safe true v (terms_of_act e.act) e.divisors i.read)

  pub value_shape : (t : Shape) (size : Size) → kind_at classes rule.left ≡ Some (kind.Value size) → e.act ≡ effects.Value t → l32.reads (l32.operand q l hs) size m ≡ Some (value v t)
  value_shape t size kind_is act =
      let g = gives_so classes rule e l (Some (kind.Value size)) (effects.Value t) i.taken gives kind_is act in
      ap (λ (o : Option Form). reads (filled_or_spare q hs o) size m) g.is ∙ values S m seen g.form_of g.short size t g.given (safe (effects.Value t) act).0

  pub place_shape : (a : Shape) (size : Size) → kind_at classes rule.left ≡ Some (kind.Place size) → e.act ≡ effects.PlaceAt size a → l32.names (l32.operand q l hs) size m ≡ Some (value v a)
  place_shape a size kind_is act =
      let g = gives_so classes rule e l (Some (kind.Place size)) (effects.PlaceAt size a) i.taken gives kind_is act in
      ap (λ (o : Option Form). named m (filled_or_spare q hs o)) g.is ∙ places S m seen g.form_of g.short size a g.given (safe (effects.PlaceAt size a) act).0

  pub address_shape : (t : Shape) → kind_at classes rule.left ≡ Some kind.Ea → e.act ≡ effects.Address t → named m (l32.operand q l hs) ≡ Some (value v t)
  address_shape t kind_is act =
      let g = gives_so classes rule e l (Some kind.Ea) (effects.Address t) i.taken gives kind_is act in
      ap (λ (o : Option Form). named m (filled_or_spare q hs o)) g.is ∙ addresses S m seen g.form_of g.short t g.given (safe (effects.Address t) act).0

  pub number_shape : (j n : ℕ) (h : Attr Operand32) → kind_at classes rule.left ≡ Some kind.Con → l.pieces ≡ piece.Hole j ∷ [] → hole hs j ≡ Some h
      → target.worth l32 q Long h m ≡ Some n → (t : Shape) × (e.act ≡ effects.Number t) × (value v t ≡ n)
  number_shape j n h kind_is only there known =
      let g = gives_so classes rule e l (Some kind.Con) e.act i.taken gives kind_is refl in
      let roles = holes_of classes rule.right in
      let given = alone_given (setting_of classes rule) roles (Some kind.Con) j l.pieces g.form_of e.act only g.is g.given in
      let d = chained (constant_of (hole_at roles j) j) number_given e.act (number_of (setting_of classes rule) roles j e.act given) in
      let is_number = constant_known S m (hole_at roles j) j d.first (attr_at hs attr.Nothing j) (seen.means j (λ lost. absurd (let x : false ≡ true = lost in cc))) d.is in
      let spelled = number_spelled q (setting_of classes rule) roles hs (all_own q classes rule.right hs i.holes_fit) j d.first d.is in
      (d.first, sym (ok_same (effects.Number d.first) e.act d.then_so), sym is_number.is ∙ spelled q m n (ap (λ a. target.worth l32 q Long a m) (filled_with hs j h there) ∙ known))

  no_statement : is_nothing (kind_at classes rule.left) ≡ false
  no_statement = by (kind_at classes rule.left) refl where
    by : (k : Option Kind) → kind_at classes rule.left ≡ k → is_nothing k ≡ false
    by (Some kind.Nothing) is =
        let g = gives_so classes rule e l (Some kind.Nothing) e.act i.taken gives is refl in
        absurd (nothing_none (setting_of classes rule) (holes_of classes rule.right) g.form_of e.act g.given)
    by _ is = refl

module _ (q : TreeProgram) (f : Extent) (fs : List Extent) (classes : List Class) (rule : Rule) (e : EffectShape) (l : Line) (hs : List (Attr Operand32)) (v : View) (m : State)
    (ready : Ready l32 q f fs classes rule e hs attr.Nothing v m) (gives : rule.give ≡ give.Shape l) where
  abbrev Q : Scene
  Q = scene_of q classes rule hs attr.Nothing v

  no_spots : (o : Option Shape) (n : State) → MayHold Q o → Keeps l32 (spots_of Q o) m n → Keeps l32 [] m n
  no_spots None n may kept = kept
  no_spots (Some t) n may kept = absurd (let x : own.Nothing ≡ own.Register = sym (ap own_of gives) ∙ may in cc)

  pub quiet : (m' : State) × (l32.run (lines_of l32 q rule hs attr.Nothing) m ≡ comes m') × Keeps l32 [] m m'
  quiet =
      let x = comes_so q f fs classes rule e hs attr.Nothing v m ready (no_statement q f fs classes rule e l hs v m ready.instance_of gives) in
      (x.state, x.is, no_spots _ x.state x.reaches.may x.reaches.keeps)

pub shapes_stand : ShapesStand
shapes_stand = record {
  quiet = λ q f fs classes rule e l hs v m ready gives. quiet q f fs classes rule e l hs v m ready gives;
  value_shape = λ q f fs classes rule e t size l hs v m i gives kind_is act. value_shape q f fs classes rule e l hs v m i gives t size kind_is act;
  place_shape = λ q f fs classes rule e a size l hs v m i gives kind_is act. place_shape q f fs classes rule e l hs v m i gives a size kind_is act;
  address_shape = λ q f fs classes rule e t size l hs v m i gives kind_is act. address_shape q f fs classes rule e l hs v m i gives t kind_is act;
  home_shape = home_so;
  register_shape = register_so;
  number_shape = λ q f fs classes rule e j n l hs h v m i gives kind_is only there known. number_shape q f fs classes rule e l hs v m i gives j n h kind_is only there known;
}
