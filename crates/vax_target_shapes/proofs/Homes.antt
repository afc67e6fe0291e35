-- A symbol's own place keeps its operand, and a register that is given is a symbol's own.
use Rattle.std.proofs.Common.{◌≡◌, ℕ, zero, suc, ◌-◌, ◌==◌, Bool, true, false, cond, Option, Some, None, Result, Ok, Err, List, [], ◌∷◌, refl, sym, ap, subst, ◌∙◌, slice_get}
use Rattle.std.specs.Prelude.{is_none, unwrap_or}
use Rattle.vax_target_reading.specs.vax_target_spelling.proofs.Shapes.{nth_is}
use Rattle.gg_base.specs.declared.size.Size.{Size}
use Rattle.gg_base.specs.declared.size.Size.TheVariants.{Byte, Long}
use Rattle.tree_core.specs.declared.token.Tok.{Tok}
use Rattle.tree_core.specs.declared.token.Tok.TheVariants as tok
use Rattle.tree_core.specs.declared.token.AttKind.TheVariants as att_kind
use Rattle.tree_core.specs.declared.tree.Att.{Att}
use Rattle.tree_core.specs.declared.tree.Att.TheVariants as att
use Rattle.tree_core.specs.declared.program.TreeProgram.{TreeProgram}
use Rattle.tree_core.specs.Attributes.{attribute_of, is_of_kind}
use Rattle.md_reader_pieces.specs.declared.piece.Line.{Line}
use Rattle.vax_templates.specs.md_reader.specs.declared.types.Kind.{Kind}
use Rattle.vax_templates.specs.md_reader.specs.declared.types.Kind.TheVariants as kind
use Rattle.vax_templates.specs.md_reader.specs.declared.types.Class.{Class}
use Rattle.vax_templates.specs.md_reader.specs.declared.types.Sym.{Sym}
use Rattle.vax_templates.specs.md_reader.specs.declared.types.Sym.TheVariants as grammar_symbol
use Rattle.vax_templates.specs.md_reader.specs.declared.types.Give.TheVariants as give
use Rattle.vax_templates.specs.md_reader.specs.Patterns.{kind_at}
use Rattle.term_core.specs.Shape.{Shape, Symbol}
use Rattle.vax_templates.specs.sel_terms.specs.Effects as effects
use Rattle.vax_templates.specs.sel_terms.specs.Effects.{ActShape, EffectShape}
use Rattle.vax_templates.specs.sel_terms.specs.Same.{same_size}
use Rattle.vax_templates.specs.sel_target.specs.declared.attr.Attr.{Attr}
use Rattle.vax_templates.specs.sel_target.specs.declared.attr.Attr.TheVariants as attr
use Rattle.vax_templates.specs.sel_target.specs.declared.fault.TemplateKind.{TemplateKind}
use Rattle.vax_templates.specs.sel_target.specs.declared.fault.TemplateKind.TheVariants.{NotInstr, WrongSize}
use Rattle.vax_templates.specs.sel_target.specs.Meaning.{Fault}
use Rattle.vax_templates.specs.sel_target.specs.Values.{own_operand}
use Rattle.vax_templates.specs.sel_target.specs.Instances.{hole, KindFits, SymFits, Fit}
use Rattle.vax_core.specs.declared.operand.Operand.{Operand}
use Rattle.vax_templates.specs.declared.form.Base.{Base}
use Rattle.vax_templates.specs.declared.form.Base.TheVariants as base
use Rattle.vax_templates.specs.declared.form.Form.{Form}
use Rattle.vax_templates.specs.declared.setting.Hole.{Hole}
use Rattle.vax_templates.specs.declared.setting.Hole.TheVariants as hole_kind
use Rattle.vax_templates.specs.declared.setting.Own.{Own}
use Rattle.vax_templates.specs.declared.setting.Own.TheVariants as own
use Rattle.vax_templates.specs.declared.setting.Opening.{Opening}
use Rattle.vax_templates.specs.declared.setting.Opening.TheVariants as opening
use Rattle.vax_templates.specs.declared.setting.Setting.{Setting}
use Rattle.vax_templates.specs.Settings.{hole_of_token, hole_of_kind, hole_of, holes_of, hole_or_other, hole_at, setting_of}
use Rattle.vax_templates.specs.Instructions.{shape_of_pieces}
use Rattle.vax_templates.specs.Standing.{Where, Register, Place, Local, At, where_own, where_hole, where_zero}
use Rattle.vax_templates.specs.Standing.{where_deferred, at, displaced, pointed, negated, itself, where_base, moved}
use Rattle.vax_templates.specs.Standing.{where_indexed, form_where, ◌>>=◌}
use Rattle.vax_templates.specs.HoleTerms.{constant_of, number_term, absolute_term, register_term}
use Rattle.vax_templates.specs.Taking.{Taken, fetched}
use Rattle.vax_templates.specs.Progress.{Progress, start, at_line, lines_judged}
use Rattle.vax_templates.specs.GiveLines.{given_line, register_given, number_given, base_number, address_given}
use Rattle.vax_templates.specs.GiveLines.{value_given, home_given, place_given, without_index, shape_given}
use Rattle.vax_templates.specs.GiveLines.{shape_read, given_shape}
use Rattle.vax_templates.specs.Dropped.{first_dropped, none_dropped}
use Rattle.vax_templates.specs.Found.{with_divisors, checked, ended, template_found, found}
use Rattle.vax_templates.specs.Filled.{attr_at, operand_in, filled_base, with_index, filled, filled_or_spare, filled_operand}
use Rattle.vax_templates.proofs.Judgements.{hole_front_is}
use Rattle.vax_target_operands.specs.vax_target_meaning.specs.Vax.{vax}
use Rattle.vax_target_reading.specs.vax_target_writing.proofs.Each.{EachOk, bind_each, if_ok, of_ok}
use Rattle.vax_target_shapes.specs.Laws.{HomesStay, RegistersStay}

-- ---- what is given is the effect's act

at_its_line : {A : Type 0} (P : A → Type 0) (line : ℕ) (r : Result A TemplateKind) → EachOk P r → EachOk P (at_line line r)
at_its_line P line (Ok x) h = h
at_its_line P line (Err e) h = tt

dropped_act : (P : ActShape → Type 0) (e : EffectShape) (o : Option ℕ) → P e.act → EachOk (λ (x : EffectShape). P x.act) (none_dropped e o)
dropped_act P e None h = h
dropped_act P e (Some line) h = tt

pub act_of_shape : (s : Setting) (roles : List Hole) (k : Option Kind) (ls : List Line) (l : Line) (e : EffectShape) (P : ActShape → Type 0) →
    EachOk P (given_shape s roles k l.pieces) → template_found s roles k ls (give.Shape l) ≡ Ok e → P e.act
unfolding template_found ended
act_of_shape s roles k ls l e P h is =
    of_ok (λ (x : EffectShape). P x.act) (lines_judged s roles true start ls >>= ended s roles k (given_line ls (give.Shape l)) (give.Shape l)) e is
    (ends (lines_judged s roles true start ls)) where
      ends : (r : Result Progress Fault) → EachOk (λ (x : EffectShape). P x.act) (r >>= ended s roles k (given_line ls (give.Shape l)) (give.Shape l))
      ends (Ok p) =
          bind_each P (λ (x : EffectShape). P x.act) (at_line (given_line ls (give.Shape l)) (given_shape s roles k l.pieces))
          (λ (deed : ActShape). checked p (with_divisors p deed)) (λ deed d. dropped_act P (with_divisors p deed) (first_dropped (with_divisors p deed) p.reads) d)
          (at_its_line P (given_line ls (give.Shape l)) (given_shape s roles k l.pieces) h)
      ends (Err e) = tt

-- ---- symbols that are places

-- a symbol that is a place of a rule has its own operand
abbrev Owns : TreeProgram → Hole → Attr Operand → Type 0
Owns q (hole_kind.Place z) a = own_operand vax a ≡ Some (operand_in q a)
Owns q hole_kind.Local a = own_operand vax a ≡ Some (operand_in q a)
Owns q h a = Unit {0}

abbrev AllOwn : TreeProgram → List Hole → List (Attr Operand) → Type 0
AllOwn q [] [] = Unit {0}
AllOwn q [] (a ∷ hs) = ⊥
AllOwn q (h ∷ roles) [] = ⊥
AllOwn q (h ∷ roles) (a ∷ hs) = Owns q h a × AllOwn q roles hs

local_owns : (q : TreeProgram) (a : Att) → is_of_kind att_kind.Local a ≡ true → Owns q hole_kind.Local (attr.Token (record { tok = tok.Loc; att = a }))
local_owns q (att.Slot k) f = refl
local_owns q _ f = absurd (cc)

argument_owns : (q : TreeProgram) (a : Att) → is_of_kind att_kind.Argument a ≡ true → Owns q hole_kind.Local (attr.Token (record { tok = tok.Arg; att = a }))
argument_owns q (att.Slot k) f = refl
argument_owns q _ f = absurd (cc)

token_owns : (q : TreeProgram) (x : Tok) (a : Att) → is_of_kind (attribute_of x) a ≡ true → Owns q (hole_of_token x) (attr.Token (record { tok = x; att = a }))
token_owns q tok.Loc a f = local_owns q a f
token_owns q tok.Arg a f = argument_owns q a f
token_owns q x a f = tt

class_owns : (q : TreeProgram) (k : Option Kind) (a : Attr Operand) → KindFits vax k a → Owns q (hole_of_kind k) a
class_owns q (Some (kind.Place z)) (attr.Place o) f = refl
class_owns q (Some (kind.Place z)) a f = absurd f
class_owns q (Some kind.Reg) a f = tt
class_owns q (Some (kind.Value z)) a f = tt
class_owns q (Some kind.Con) a f = tt
class_owns q (Some kind.Ea) a f = tt
class_owns q (Some kind.Nothing) a f = tt
class_owns q None a f = tt

symbol_owns : (q : TreeProgram) (classes : List Class) (x : Sym) (a : Attr Operand) → SymFits vax classes x a → Owns q (hole_of classes x) a
symbol_owns q classes (grammar_symbol.Class c) a f = class_owns q (kind_at classes c) a f
symbol_owns q classes (grammar_symbol.Tok x) (attr.Token l) f = subst (λ y. Owns q (hole_of_token y) (attr.Token l)) f.0 (token_owns q l.tok l.att f.1)
symbol_owns q classes (grammar_symbol.Tok x) a f = absurd f

all_own : (q : TreeProgram) (classes : List Class) (right : List Sym) (hs : List (Attr Operand)) → Fit vax classes right hs → AllOwn q (holes_of classes right) hs
all_own q classes [] [] f = tt
all_own q classes [] (h ∷ hs) f = absurd f
all_own q classes (x ∷ right) [] f = absurd f
all_own q classes (x ∷ right) (h ∷ hs) f = (symbol_owns q classes x h f.0, all_own q classes right hs f.1)

owns_nth : (q : TreeProgram) (roles : List Hole) (hs : List (Attr Operand)) (k : ℕ) → AllOwn q roles hs → Owns q (hole_or_other (slice_get roles k)) (unwrap_or (slice_get hs k) attr.Nothing)
owns_nth q [] [] k h = tt
owns_nth q [] (a ∷ hs) k h = absurd h
owns_nth q (x ∷ roles) [] k h = absurd h
owns_nth q (x ∷ roles) (a ∷ hs) zero h = h.0
owns_nth q (x ∷ roles) (a ∷ hs) (suc k) h = owns_nth q roles hs k h.1

-- what fills a hole
pub filled_with : (hs : List (Attr Operand)) (i : ℕ) (h : Attr Operand) → hole hs i ≡ Some h → attr_at hs attr.Nothing i ≡ h
filled_with hs zero h e = absurd (cc)
filled_with hs (suc k) h e = nth_is hs k ∙ ap (λ (o : Option (Attr Operand)). unwrap_or o attr.Nothing) e

module _ (q : TreeProgram) (s : Setting) (roles : List Hole) (hs : List (Attr Operand)) (owns : AllOwn q roles hs) where
  -- a symbol's place stands for its own operand
  abbrev IsOwn : ℕ → Operand → Type 0
  IsOwn i o = own_operand vax (attr_at hs attr.Nothing i) ≡ Some o

  abbrev Home : Where → Operand → Type 0
  Home (Place z i) o = IsOwn i o
  Home (Local i) o = IsOwn i o
  Home w o = Unit {0}

  -- the role of a symbol, and what fills it
  role_owns : (i : ℕ) → Owns q (hole_at roles i) (attr_at hs attr.Nothing i)
  role_owns i = by (i == 0) where
    by : (b : Bool) → Owns q (cond b hole_kind.Other (hole_or_other (slice_get roles (i - 1)))) (cond b attr.Nothing (unwrap_or (slice_get hs (i - 1)) attr.Nothing))
    by true = tt
    by false = owns_nth q roles hs (i - 1) owns

  hole_home : (r : Hole) (i : ℕ) → Owns q r (attr_at hs attr.Nothing i) → EachOk (λ w. Home w (operand_in q (attr_at hs attr.Nothing i))) (where_hole r i)
  hole_home (hole_kind.Place z) i k = k
  hole_home hole_kind.Local i k = k
  hole_home hole_kind.Register i k = tt
  hole_home (hole_kind.Value z) i k = tt
  hole_home (hole_kind.SavedPlace z) i k = tt
  hole_home hole_kind.Address i k = tt
  hole_home hole_kind.Constant i k = tt
  hole_home (hole_kind.Literal n) i k = tt
  hole_home hole_kind.Object i k = tt
  hole_home hole_kind.Saved i k = tt
  hole_home hole_kind.Relation i k = tt
  hole_home hole_kind.Other i k = tt

  own_home : (x : Own) (o : Operand) → EachOk (λ w. Home w o) (where_own x)
  own_home own.Nothing o = tt
  own_home own.Register o = tt
  own_home (own.Slot z) o = tt

  zero_home : (x : Opening) (o : Operand) → EachOk (λ w. Home w o) (where_zero x)
  zero_home opening.Other o = tt
  zero_home opening.Save o = tt
  zero_home opening.Return o = tt

  deferred_home : (r : Hole) (i : ℕ) (o : Operand) → EachOk (λ w. Home w o) (where_deferred r i)
  deferred_home hole_kind.Local i o = tt
  deferred_home hole_kind.Object i o = tt
  deferred_home r i o = tt

  memory_home : (o : Operand) (r : Result Shape TemplateKind) (g : Shape → Result Where TemplateKind) → ((t : Shape) → EachOk (λ w. Home w o) (g t)) → EachOk (λ w. Home w o) (r >>= g)
  memory_home o (Ok t) g h = h t
  memory_home o (Err e) g h = tt

  base_home : (b : Base) → EachOk (λ w. Home w (filled_base q hs attr.Nothing b)) (where_base s roles None b)
  unfolding where_base filled_base
  base_home base.RegisterZero = zero_home s.opening _
  base_home (base.Hole i) =
      if_ok (λ w. Home w (operand_in q (attr_at hs attr.Nothing i))) (i == 0) (where_own s.own) (where_hole (hole_at roles i) i)
      (λ e. own_home s.own (operand_in q (attr_at hs attr.Nothing i))) (λ e. hole_home (hole_at roles i) i (role_owns i))
  base_home (base.Immediate n) = memory_home _ (number_term roles n) itself (λ t. tt)
  base_home (base.Negative i) = memory_home _ (constant_of (hole_at roles i) i) negated (λ t. tt)
  base_home (base.RegisterDeferred i) = memory_home _ (register_term s roles None i) at (λ t. tt)
  base_home (base.Displacement n i) = memory_home _ (displaced (number_term roles n) (register_term s roles None i)) at (λ t. tt)
  base_home (base.DisplacementDeferred n i) = memory_home _ (displaced (number_term roles n) (register_term s roles None i)) pointed (λ t. tt)
  base_home (base.Absolute n) = memory_home _ (absolute_term roles n) at (λ t. tt)
  base_home (base.Deferred i) = deferred_home (hole_at roles i) i _

  moved_home : (size : Size) (u : Where) (t : Shape) (o : Operand) → EachOk (λ w. Home w o) (moved size u t)
  moved_home size (At a p) t o = tt
  moved_home size u t o = tt

  indexed_home : (x : Option ℕ) (size : Size) (u : Where) (o : Operand) → Home u o → EachOk (λ w. Home w (with_index hs attr.Nothing x o)) (where_indexed s roles None x size u)
  indexed_home None size u o h = h
  indexed_home (Some i) size u o h =
      memory_home (with_index hs attr.Nothing (Some i) o) (register_term s roles None i) (moved size u) (λ t. moved_home size u t (with_index hs attr.Nothing (Some i) o))

  form_home : (f : Form) (size : Size) → EachOk (λ w. Home w (filled q hs attr.Nothing f)) (form_where s roles None f size)
  unfolding form_where
  form_home f size =
      bind_each (λ w. Home w (filled_base q hs attr.Nothing f.base)) (λ w. Home w (filled q hs attr.Nothing f)) (where_base s roles None f.base)
      (where_indexed s roles None f.index size) (λ w h. indexed_home f.index size w (filled_base q hs attr.Nothing f.base) h) (base_home f.base)

  -- an act that is a symbol's place has that symbol's operand
  abbrev HomeAct : Operand → ActShape → Type 0
  HomeAct o (effects.PlaceHome z i) = IsOwn i o
  HomeAct o a = Unit {0}

  given_home : (z y : Size) (i : ℕ) (o : Operand) → IsOwn i o → EachOk (HomeAct o) (home_given z y i)
  given_home z y i o h = if_ok (HomeAct o) (same_size y z) (Ok (effects.PlaceHome z i)) (Err WrongSize) (λ e. h) (λ e. tt)

  place_home : (z : Size) (w : Where) (o : Operand) → Home w o → EachOk (HomeAct o) (place_given z w)
  place_home z (Place y i) o h = given_home z y i o h
  place_home z (Local i) o h = given_home z Long i o h
  place_home z (At a p) o h = tt
  place_home z w o h = tt

  register_home : (w : Where) (o : Operand) → EachOk (HomeAct o) (register_given w)
  register_home (Register t) o = tt
  register_home w o = tt

  address_home : (w : Where) (o : Operand) → EachOk (HomeAct o) (address_given w)
  address_home (At a p) o = tt
  address_home w o = tt

  value_home : (t : Taken) (o : Operand) → EachOk (HomeAct o) (value_given t)
  value_home t o = if_ok (HomeAct o) t.missized (Err WrongSize) (Ok (effects.Value t.term)) (λ e. tt) (λ e. tt)

  number_home : (b : Base) (o : Operand) → EachOk (HomeAct o) (base_number roles b)
  number_home (base.Hole i) o = other (constant_of (hole_at roles i) i) where
    other : (r : Result Shape TemplateKind) → EachOk (HomeAct o) (r >>= number_given)
    other (Ok t) = tt
    other (Err e) = tt
  number_home b o = tt

  others_home : {A : Type 0} (o : Operand) (r : Result A TemplateKind) (g : A → Result ActShape TemplateKind) → ((x : A) → EachOk (HomeAct o) (g x)) → EachOk (HomeAct o) (r >>= g)
  others_home o (Ok x) g h = h x
  others_home o (Err e) g h = tt

  without_home : (f : Form) (o : Operand) (r : Result ActShape TemplateKind) → EachOk (HomeAct o) r → EachOk (HomeAct o) (without_index f r)
  without_home f o r h = if_ok (HomeAct o) (is_none f.index) r (Err NotInstr) (λ e. h) (λ e. tt)

  shape_home : (k : Option Kind) (f : Form) → EachOk (HomeAct (filled q hs attr.Nothing f)) (shape_given s roles k f)
  unfolding shape_given
  shape_home (Some kind.Reg) f = others_home (filled q hs attr.Nothing f) (form_where s roles None f Long) register_given (λ w. register_home w (filled q hs attr.Nothing f))
  shape_home (Some kind.Con) f = without_home f (filled q hs attr.Nothing f) (base_number roles f.base) (number_home f.base (filled q hs attr.Nothing f))
  shape_home (Some kind.Ea) f =
      without_home f (filled q hs attr.Nothing f) (form_where s roles None f Byte >>= address_given)
      (others_home (filled q hs attr.Nothing f) (form_where s roles None f Byte) address_given (λ w. address_home w (filled q hs attr.Nothing f)))
  shape_home (Some (kind.Value z)) f =
      others_home (filled q hs attr.Nothing f) (form_where s roles None f z) (λ (w : Where). fetched s None w z >>= value_given)
      (λ w. others_home (filled q hs attr.Nothing f) (fetched s None w z) value_given (λ t. value_home t (filled q hs attr.Nothing f)))
  shape_home (Some (kind.Place z)) f =
      bind_each (λ w. Home w (filled q hs attr.Nothing f)) (HomeAct (filled q hs attr.Nothing f)) (form_where s roles None f z) (place_given z)
      (λ w h. place_home z w (filled q hs attr.Nothing f) h) (form_home f z)
  shape_home (Some kind.Nothing) f = tt
  shape_home None f = tt

  pieces_home : (k : Option Kind) (o : Option Form) → EachOk (HomeAct (filled_or_spare q hs o)) (shape_read o >>= shape_given s roles k)
  pieces_home k None = tt
  pieces_home k (Some f) = shape_home k f

pub homes_stay : HomesStay
unfolding found
homes_stay q classes rule e size i l hs h taken gives act fit there =
    let s = setting_of classes rule in
    let roles = holes_of classes rule.right in
    let owns = all_own q classes rule.right hs fit in
    let o = filled_operand q l.pieces hs in
    let given = act_of_shape s roles (kind_at classes rule.left) rule.lines l e (HomeAct q s roles hs owns o) (pieces_home q s roles hs owns (kind_at classes rule.left) (shape_of_pieces l.pieces))
    (ap (λ g. template_found s roles (kind_at classes rule.left) rule.lines g) (sym gives) ∙ taken) in
    let is : own_operand vax (attr_at hs attr.Nothing i) ≡ Some o = subst (HomeAct q s roles hs owns o) act given in
    sym (ap (own_operand vax) (filled_with hs i h there)) ∙ is

-- ---- a register

abbrev IsSymbol : ℕ → ActShape → Type 0
IsSymbol i a = a ≡ effects.Value (Symbol i)

symbol_given : (s : Setting) (roles : List Hole) (i : ℕ) → EachOk (IsSymbol i) (shape_given s roles (Some kind.Reg) (record { base = base.Hole i; index = None }))
unfolding shape_given form_where where_base
symbol_given s roles i = by (i == 0) where
  own_given : (x : Own) → EachOk (IsSymbol i) ((where_own x >>= where_indexed s roles None None Long) >>= register_given)
  own_given own.Nothing = tt
  own_given own.Register = tt
  own_given (own.Slot z) = tt

  role_given : (r : Hole) → EachOk (IsSymbol i) ((where_hole r i >>= where_indexed s roles None None Long) >>= register_given)
  role_given hole_kind.Register = refl
  role_given (hole_kind.Value z) = tt
  role_given (hole_kind.Place z) = tt
  role_given hole_kind.Local = tt
  role_given (hole_kind.SavedPlace z) = tt
  role_given hole_kind.Address = tt
  role_given hole_kind.Object = tt
  role_given hole_kind.Saved = tt
  role_given hole_kind.Constant = tt
  role_given (hole_kind.Literal n) = tt
  role_given hole_kind.Relation = tt
  role_given hole_kind.Other = tt

  by : (b : Bool) → EachOk (IsSymbol i) ((cond b (where_own s.own) (where_hole (cond b hole_kind.Other (hole_or_other (slice_get roles (i - 1)))) i) >>= where_indexed s roles None None Long)
      >>= register_given)
  by true = own_given s.own
  by false = role_given (hole_or_other (slice_get roles (i - 1)))

pub registers_stay : RegistersStay
unfolding found
registers_stay classes rule e i l taken gives kind_is pieces =
    let s = setting_of classes rule in
    let roles = holes_of classes rule.right in
    act_of_shape s roles (Some kind.Reg) rule.lines l e (IsSymbol i)
    (subst (λ ps. EachOk (IsSymbol i) (given_shape s roles (Some kind.Reg) ps)) (sym pieces)
    (subst (λ o. EachOk (IsSymbol i) (shape_read o >>= shape_given s roles (Some kind.Reg))) (sym (hole_front_is i)) (symbol_given s roles i)))
    (ap (λ g. template_found s roles (Some kind.Reg) rule.lines g) (sym gives) ∙ (ap (λ k. template_found s roles k rule.lines rule.give) (sym kind_is) ∙ taken))
