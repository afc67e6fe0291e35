-- What a rule that gives a shape gives: the operand stands for it, and the rule's lines change nothing.
use Rattle.std.proofs.Common.{◌≡◌, ℕ, zero, suc, ◌-◌, ◌==◌, Bool, true, false, cond, Option, Some, None, Ok, List, [], ◌∷◌, map, refl, sym, ap, subst, ◌∙◌, slice_get}
use Rattle.std.specs.Prelude.{unwrap_or}
use Rattle.std.specs.List.{AllByRecursion}
use Rattle.std.proofs.lemmas.Option.{same_Some}
use Rattle.gg_base.specs.declared.size.Size.{Size}
use Rattle.gg_base.specs.declared.size.Size.TheVariants.{Long}
use Rattle.gg_base.proofs.Facts.{err_ok, ok_same}
use Rattle.tree_core.specs.declared.token.Tok.{Tok}
use Rattle.tree_core.specs.declared.token.Tok.TheVariants as tok
use Rattle.tree_core.specs.declared.token.AttKind.TheVariants as att_kind
use Rattle.tree_core.specs.declared.tree.Att.{Att}
use Rattle.tree_core.specs.declared.tree.Att.TheVariants as att
use Rattle.tree_core.specs.declared.program.TreeProgram.{TreeProgram}
use Rattle.tree_core.specs.Attributes.{attribute_of, is_of_kind}
use Rattle.vax_target_rules.specs.tree_meaning.specs.State.{Extent}
use Rattle.md_reader_pieces.specs.declared.piece.Piece.{Piece}
use Rattle.md_reader_pieces.specs.declared.piece.Piece.TheVariants as piece
use Rattle.md_reader_pieces.specs.declared.piece.Line.{Line}
use Rattle.vax_target_rules.specs.md_reader.specs.declared.types.Kind.{Kind}
use Rattle.vax_target_rules.specs.md_reader.specs.declared.types.Kind.TheVariants as kind
use Rattle.vax_target_rules.specs.md_reader.specs.declared.types.Class.{Class}
use Rattle.vax_target_rules.specs.md_reader.specs.declared.types.Sym.{Sym}
use Rattle.vax_target_rules.specs.md_reader.specs.declared.types.Sym.TheVariants as grammar_symbol
use Rattle.vax_target_rules.specs.md_reader.specs.declared.types.Give.TheVariants as give
use Rattle.vax_target_rules.specs.md_reader.specs.declared.types.Rule.{Rule}
use Rattle.vax_target_rules.specs.md_reader.specs.Patterns.{kind_at}
use Rattle.vax_target_rules.specs.md_reader.specs.Restrictions.{is_nothing}
use Rattle.term_core.specs.Shape.{Shape}
use Rattle.vax_target_rules.specs.sel_terms.specs.Effects.{ActShape, EffectShape, Value, Number, Address, PlaceAt}
use Rattle.vax_target_rules.specs.sel_terms_meaning.specs.Meaning.{terms_of_act}
use Rattle.vax_target_rules.specs.sel_target.specs.declared.attr.Attr.{Attr}
use Rattle.vax_target_rules.specs.sel_target.specs.declared.attr.Attr.TheVariants as attr
use Rattle.vax_target_rules.specs.sel_target.specs.Courses.{comes}
use Rattle.vax_target_rules.specs.sel_target.specs.Values.{View, value, IsRead, IsReadWhere, worth}
use Rattle.vax_target_rules.specs.sel_target.specs.Instances.{hole, KindFits, SymFits, Fit, IsResult, lines_of, Instance, Ready}
use Rattle.vax_target_rules.specs.sel_target.specs.Outcomes.{Keeps}
use Rattle.vax_target_rules.specs.sel_target.specs.TemplateLaws.{GivesShapes}
use Rattle.vax_core.specs.declared.operand.Operand.{Operand}
use Rattle.vax_target_rules.specs.vax_machine.specs.State.{State}
use Rattle.vax_target_rules.specs.vax_confined.specs.Confined.{exec}
use Rattle.vax_target_rules.specs.vax_templates.specs.declared.form.Form.{Form}
use Rattle.vax_target_rules.specs.vax_templates.specs.declared.setting.Hole.{Hole}
use Rattle.vax_target_rules.specs.vax_templates.specs.declared.setting.Hole.TheVariants as hole_kind
use Rattle.vax_target_rules.specs.vax_templates.specs.declared.setting.Setting.{Setting}
use Rattle.vax_target_rules.specs.vax_templates.specs.Settings.{hole_of_token, hole_of_kind, hole_of, holes_of, hole_or_other, hole_at, own_of, setting_of}
use Rattle.vax_target_rules.specs.vax_templates.specs.Instructions.{shape_of_pieces}
use Rattle.vax_target_rules.specs.vax_templates.specs.HoleTerms.{constant_of}
use Rattle.vax_target_rules.specs.vax_templates.specs.Standing.{◌>>=◌}
use Rattle.vax_target_rules.specs.vax_templates.specs.GiveLines.{number_given, shape_given, shape_read, given_shape, given_by}
use Rattle.vax_target_rules.specs.vax_templates.specs.Filled.{attr_at, addr_in, filled_or_spare}
use Rattle.vax_target_rules.specs.vax_templates.proofs.Judgements.{hole_front_is}
use Rattle.vax_target_rules.specs.vax_target_meaning.specs.Running.{course_of}
use Rattle.vax_target_rules.specs.vax_target_meaning.specs.Vax.{vax}
use Rattle.vax_target_shapes.specs.vax_target_operands.specs.Scenes.{Scene, Sees}
use Rattle.vax_target_shapes.specs.vax_target_operands.proofs.Binds.{chained}
use Rattle.vax_target_shapes.specs.vax_target_operands.proofs.Holes.{constant_known}
use Rattle.vax_target_rules.specs.vax_target_lines.proofs.Short.{shape_short}
use Rattle.vax_target_rules.specs.vax_target_runs.specs.Runs.{line_of}
use Rattle.vax_target_rules.specs.vax_target_runs.proofs.Kept.{codes_are_kept}
use Rattle.vax_target_rules.specs.Scene.{scene_of}
use Rattle.vax_target_rules.proofs.Founds.{IsFound, rule_is, front_safe}
use Rattle.vax_target_rules.proofs.Instances.{instances_are_seen}
use Rattle.vax_target_rules.proofs.Results.{Comes, found_so, comes_so}
use Rattle.vax_target_shapes.proofs.Law.{shapes_stand}
use Rattle.vax_target_shapes.proofs.Homes.{homes_stay, registers_stay, filled_with}
use Rattle.vax_target_given.proofs.Idle.{lines_are_idle}

-- ---- a hole that is a number has no other one

module _ (q : TreeProgram) (m : State) where
  abbrev HasOne : Attr Operand → Type 0
  HasOne a = (n : ℕ) → worth vax q Long a m ≡ Some n → (addr_in q a).offset ≡ n

  abbrev Numbered : Hole → Attr Operand → Type 0
  Numbered hole_kind.Constant a = HasOne a
  Numbered (hole_kind.Literal k) a = HasOne a
  Numbered h a = Unit {0}

  abbrev AllNumbered : List Hole → List (Attr Operand) → Type 0
  AllNumbered [] [] = Unit {0}
  AllNumbered [] (a ∷ hs) = ⊥
  AllNumbered (h ∷ roles) [] = ⊥
  AllNumbered (h ∷ roles) (a ∷ hs) = Numbered h a × AllNumbered roles hs

  number_numbered : (x : Tok) (k : ℕ) → HasOne (attr.Token (record { tok = x; att = att.Number k }))
  number_numbered x k n e = same_Some k n e

  literal_numbered : (x : Tok) (k : ℕ) (a : Att) → is_of_kind (att_kind.Own k) a ≡ true → HasOne (attr.Token (record { tok = x; att = a }))
  literal_numbered x k (att.Number n) f = number_numbered x n
  literal_numbered x k _ f = absurd (cc)

  constant_numbered : (x : Tok) (a : Att) → is_of_kind att_kind.Other a ≡ true → HasOne (attr.Token (record { tok = x; att = a }))
  constant_numbered x (att.Number n) f = number_numbered x n
  constant_numbered x _ f = absurd (cc)

  token_numbered : (x : Tok) (a : Att) → is_of_kind (attribute_of x) a ≡ true → Numbered (hole_of_token x) (attr.Token (record { tok = x; att = a }))
  token_numbered tok.Zero a f = literal_numbered tok.Zero 0 a f
  token_numbered tok.One a f = literal_numbered tok.One 1 a f
  token_numbered tok.Two a f = literal_numbered tok.Two 2 a f
  token_numbered tok.Four a f = literal_numbered tok.Four 4 a f
  token_numbered tok.Eight a f = literal_numbered tok.Eight 8 a f
  token_numbered tok.Const a f = constant_numbered tok.Const a f
  token_numbered x a f = tt

  class_numbered : (k : Option Kind) (a : Attr Operand) → KindFits vax k a → Numbered (hole_of_kind k) a
  class_numbered (Some kind.Con) (attr.Con k) f = λ n e. same_Some k n e
  class_numbered (Some kind.Con) a f = absurd f
  class_numbered (Some kind.Reg) a f = tt
  class_numbered (Some (kind.Value z)) a f = tt
  class_numbered (Some (kind.Place z)) a f = tt
  class_numbered (Some kind.Ea) a f = tt
  class_numbered (Some kind.Nothing) a f = tt
  class_numbered None a f = tt

  symbol_numbered : (classes : List Class) (x : Sym) (a : Attr Operand) → SymFits vax classes x a → Numbered (hole_of classes x) a
  symbol_numbered classes (grammar_symbol.Class c) a f = class_numbered (kind_at classes c) a f
  symbol_numbered classes (grammar_symbol.Tok x) (attr.Token l) f = subst (λ y. Numbered (hole_of_token y) (attr.Token l)) f.0 (token_numbered l.tok l.att f.1)
  symbol_numbered classes (grammar_symbol.Tok x) a f = absurd f

  all_numbered : (classes : List Class) (right : List Sym) (hs : List (Attr Operand)) → Fit vax classes right hs → AllNumbered (holes_of classes right) hs
  all_numbered classes [] [] f = tt
  all_numbered classes [] (h ∷ hs) f = absurd f
  all_numbered classes (x ∷ right) [] f = absurd f
  all_numbered classes (x ∷ right) (h ∷ hs) f = (symbol_numbered classes x h f.0, all_numbered classes right hs f.1)

  numbered_nth : (roles : List Hole) (hs : List (Attr Operand)) (k : ℕ) → AllNumbered roles hs → Numbered (hole_or_other (slice_get roles k)) (unwrap_or (slice_get hs k) attr.Nothing)
  numbered_nth [] [] k h = tt
  numbered_nth [] (a ∷ hs) k h = absurd h
  numbered_nth (x ∷ roles) [] k h = absurd h
  numbered_nth (x ∷ roles) (a ∷ hs) zero h = h.0
  numbered_nth (x ∷ roles) (a ∷ hs) (suc k) h = numbered_nth roles hs k h.1

  role_numbered : (roles : List Hole) (hs : List (Attr Operand)) (i : ℕ) → AllNumbered roles hs → Numbered (hole_at roles i) (attr_at hs attr.Nothing i)
  role_numbered roles hs i h = by (i == 0) where
    by : (b : Bool) → Numbered (cond b hole_kind.Other (hole_or_other (slice_get roles (i - 1)))) (cond b attr.Nothing (unwrap_or (slice_get hs (i - 1)) attr.Nothing))
    by true = tt
    by false = numbered_nth roles hs (i - 1) h

  one_of : (r : Hole) (i : ℕ) (t : Shape) (a : Attr Operand) → Numbered r a → constant_of r i ≡ Ok t → HasOne a
  one_of hole_kind.Constant i t a k e = k
  one_of (hole_kind.Literal n) i t a k e = k
  one_of _ i t a k e = absurd (err_ok _ t e)

form_of : (o : Option Form) (f : Form) → shape_read o ≡ Ok f → o ≡ Some f
form_of None f e = absurd (err_ok _ f e)
form_of (Some x) f e = ap (λ (y : Form). Some y) (ok_same x f e)

-- a number that is given is a hole's
number_of : (s : Setting) (roles : List Hole) (i : ℕ) (deed : ActShape) → given_shape s roles (Some kind.Con) (piece.Hole i ∷ []) ≡ Ok deed
    → (constant_of (hole_at roles i) i >>= number_given) ≡ Ok deed
unfolding shape_given
number_of s roles i deed e = sym (ap (λ (o : Option Form). shape_read o >>= shape_given s roles (Some kind.Con)) (hole_front_is i)) ∙ e

none_given : (s : Setting) (roles : List Hole) (ps : List Piece) (deed : ActShape) → given_shape s roles (Some kind.Nothing) ps ≡ Ok deed → ⊥
unfolding shape_given
none_given s roles ps deed e = by (shape_of_pieces ps) e where
  by : (o : Option Form) → (shape_read o >>= shape_given s roles (Some kind.Nothing)) ≡ Ok deed → ⊥
  by None e = err_ok _ deed e
  by (Some f) e = err_ok _ deed e

-- ---- an instance of a rule that gives a shape

module _ (q : TreeProgram) (f : Extent) (fs : List Extent) (classes : List Class) (rule : Rule) (e : EffectShape) (l : Line) (hs : List (Attr Operand)) (v : View) (m : State)
    (gives : rule.give ≡ give.Shape l) where
  abbrev S : Setting
  S = setting_of classes rule

  abbrev H : List Hole
  H = holes_of classes rule.right

  abbrev C : Scene
  C = scene_of q classes rule hs attr.Nothing v

  result_so : IsResult vax rule.give hs attr.Nothing
  result_so = subst (λ g. IsResult vax g hs attr.Nothing) (sym gives) tt

  given_so : IsFound S H (kind_at classes rule.left) rule.lines rule.give e → given_shape S H (kind_at classes rule.left) l.pieces ≡ Ok e.act
  given_so x = sym (ap (given_by S H (kind_at classes rule.left) x.progress.own x.progress.last) gives) ∙ x.given ∙ ap (λ (y : EffectShape). Ok y.act) x.is

  -- such a rule is no statement's
  quiet_so : (k : Option Kind) → given_shape S H k l.pieces ≡ Ok e.act → is_nothing k ≡ false
  quiet_so None h = refl
  quiet_so (Some kind.Reg) h = refl
  quiet_so (Some (kind.Value z)) h = refl
  quiet_so (Some (kind.Place z)) h = refl
  quiet_so (Some kind.Con) h = refl
  quiet_so (Some kind.Ea) h = refl
  quiet_so (Some kind.Nothing) h = absurd (none_given S H l.pieces e.act h)

  -- ---- its lines

  module _ (ready : Ready vax q f fs classes rule e hs attr.Nothing v m) where
    abbrev found : IsFound S H (kind_at classes rule.left) rule.lines rule.give e
    found = found_so q f fs classes rule e hs attr.Nothing v m ready

    no_statement : S.is_statement ≡ false
    no_statement = quiet_so (kind_at classes rule.left) (given_so found)

    quiet_comes : (o : Option Shape) → o ≡ None → Comes q f fs classes rule e hs attr.Nothing v m ready o (exec (map (line_of C) rule.lines) m) →
        (m' : State) × (vax.run (lines_of vax q rule hs attr.Nothing) m ≡ comes m') × Keeps vax [] m m'
    quiet_comes None is x = (x.state, ap course_of x.is, codes_are_kept m x.state x.differs)
    quiet_comes (Some t) is x = absurd (cc)

    lines_quiet : (m' : State) × (vax.run (lines_of vax q rule hs attr.Nothing) m ≡ comes m') × Keeps vax [] m m'
    lines_quiet =
        quiet_comes found.progress.own (lines_are_idle S H (ap own_of gives) no_statement rule.lines found.progress found.judged).own
        (comes_so q f fs classes rule e hs attr.Nothing v m ready no_statement)

  -- ---- its operand

  module _ (is : Instance vax true q f fs classes rule e hs v m) where
    seen_so : Sees C None m
    seen_so = instances_are_seen true q f fs classes rule e hs attr.Nothing v m is result_so

    shape_so : given_shape S H (kind_at classes rule.left) l.pieces ≡ Ok e.act
    shape_so = given_so (rule_is classes rule e is.taken)

    read_so : (t : Shape) → terms_of_act e.act ≡ t ∷ [] → IsRead v t
    read_so t only = (subst (λ ts. AllByRecursion (λ (x : Shape). IsReadWhere true v x) ts) only (front_safe true v (terms_of_act e.act) e.divisors is.read)).0

    -- what is given, by the kind and the act
    record Reads (k : Option Kind) (a : ActShape) : Type 0 where
      form : Form
      pieces_so : shape_of_pieces l.pieces ≡ Some form
      form_so : shape_given S H k form ≡ Ok a

    reads_so : (k : Option Kind) (a : ActShape) → given_shape S H k l.pieces ≡ Ok a → Reads k a
    reads_so k a h =
        let d = chained (shape_read (shape_of_pieces l.pieces)) (shape_given S H k) a h in
        record { form = d.first; pieces_so = form_of (shape_of_pieces l.pieces) d.first d.is; form_so = d.then_so }

    acted_so : (k : Kind) (a : ActShape) → kind_at classes rule.left ≡ Some k → e.act ≡ a → Reads (Some k) a
    acted_so k a kinds act = reads_so (Some k) a (ap (λ y. given_shape S H y l.pieces) (sym kinds) ∙ shape_so ∙ ap (λ (x : ActShape). Ok x) act)

    value_so : (t : Shape) (size : Size) → kind_at classes rule.left ≡ Some (kind.Value size) → e.act ≡ Value t → vax.reads (vax.operand q l hs) size m ≡ Some (value v t)
    value_so t size kinds act =
        let r = acted_so (kind.Value size) (Value t) kinds act in
        ap (λ o. vax.reads (filled_or_spare q hs o) size m) r.pieces_so
        ∙ shapes_stand.values C m r.form size t seen_so (shape_short l.pieces r.form r.pieces_so) r.form_so (read_so t (ap terms_of_act act))

    place_so : (a : Shape) (size : Size) → kind_at classes rule.left ≡ Some (kind.Place size) → e.act ≡ PlaceAt size a → vax.names (vax.operand q l hs) size m ≡ Some (value v a)
    place_so a size kinds act =
        let r = acted_so (kind.Place size) (PlaceAt size a) kinds act in
        ap (λ o. vax.names (filled_or_spare q hs o) size m) r.pieces_so
        ∙ shapes_stand.places C m r.form size a seen_so (shape_short l.pieces r.form r.pieces_so) r.form_so (read_so a (ap terms_of_act act))

    address_so : (t : Shape) (size : Size) → kind_at classes rule.left ≡ Some kind.Ea → e.act ≡ Address t → vax.names (vax.operand q l hs) size m ≡ Some (value v t)
    address_so t size kinds act =
        let r = acted_so kind.Ea (Address t) kinds act in
        ap (λ o. vax.names (filled_or_spare q hs o) size m) r.pieces_so
        ∙ shapes_stand.addresses C m r.form size t seen_so (shape_short l.pieces r.form r.pieces_so) r.form_so (read_so t (ap terms_of_act act))

    number_so : (i n : ℕ) (h : Attr Operand) → kind_at classes rule.left ≡ Some kind.Con → l.pieces ≡ piece.Hole i ∷ [] → hole hs i ≡ Some h → worth vax q Long h m ≡ Some n →
        (t : Shape) × (e.act ≡ Number t) × (value v t ≡ n)
    number_so i n h kinds only there known =
        let given = ap (λ y. given_shape S H y (piece.Hole i ∷ [])) (sym kinds) ∙ ap (given_shape S H (kind_at classes rule.left)) (sym only) ∙ shape_so in
        let d = chained (constant_of (hole_at H i) i) number_given e.act (number_of S H i e.act given) in
        let is_number = constant_known C m (hole_at H i) i d.first (attr_at hs attr.Nothing i) (seen_so.means i (λ lost. absurd (let x : false ≡ true = lost in cc))) d.is in
        let one = one_of q m (hole_at H i) i d.first (attr_at hs attr.Nothing i) (role_numbered q m H hs i (all_numbered q m classes rule.right hs is.holes_fit)) d.is in
        (d.first, sym (ok_same (Number d.first) e.act d.then_so), sym is_number.is ∙ one n (ap (λ a. worth vax q Long a m) (filled_with hs i h there) ∙ known))

pub shapes_are_given : GivesShapes vax
shapes_are_given = record {
  quiet = λ q f fs classes rule e l hs v m ready gives. lines_quiet q f fs classes rule e l hs v m gives ready;
  value_shape = λ q f fs classes rule e t size l hs v m is gives kinds act. value_so q f fs classes rule e l hs v m gives is t size kinds act;
  place_shape = λ q f fs classes rule e a size l hs v m is gives kinds act. place_so q f fs classes rule e l hs v m gives is a size kinds act;
  address_shape = λ q f fs classes rule e t size l hs v m is gives kinds act. address_so q f fs classes rule e l hs v m gives is t size kinds act;
  home_shape = homes_stay;
  register_shape = registers_stay;
  number_shape = λ q f fs classes rule e i n l hs h v m is gives kinds only there known. number_so q f fs classes rule e l hs v m gives is i n h kinds only there known;
}
