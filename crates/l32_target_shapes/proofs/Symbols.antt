-- A symbol's own place keeps its operand, a register that is given is a symbol's own, and so is a number.
use Rattle.std.proofs.Common.{◌≡◌, ℕ, zero, suc, ◌-◌, ◌==◌, Bool, true, false, cond, Option, Some, None, Result, Ok, Err, List, [], ◌∷◌, refl, sym, ap, subst, ◌∙◌, slice_get}
use Rattle.std.specs.Prelude.{unwrap_or}
use Rattle.std.proofs.lemmas.Option.{same_Some}
use Rattle.gg_base.specs.declared.size.Size.{Size}
use Rattle.gg_base.specs.declared.size.Size.TheVariants.{Long}
use Rattle.gg_base.proofs.Facts.{err_ok}
use Rattle.l32_target_rules.specs.vax_target_meaning.specs.tree_core.specs.declared.token.Tok.{Tok}
use Rattle.l32_target_rules.specs.vax_target_meaning.specs.tree_core.specs.declared.token.Tok.TheVariants as tok
use Rattle.l32_target_rules.specs.vax_target_meaning.specs.tree_core.specs.declared.token.AttKind.TheVariants as att_kind
use Rattle.l32_target_rules.specs.vax_target_meaning.specs.tree_core.specs.declared.tree.Att.{Att}
use Rattle.l32_target_rules.specs.vax_target_meaning.specs.tree_core.specs.declared.tree.Att.TheVariants as att
use Rattle.l32_target_rules.specs.vax_target_meaning.specs.tree_core.specs.declared.program.TreeProgram.{TreeProgram}
use Rattle.l32_target_rules.specs.vax_target_meaning.specs.tree_core.specs.Attributes.{attribute_of, is_of_kind}
use Rattle.l32_target_rules.specs.judging_laws.specs.md_reader_pieces.specs.declared.piece.Piece.TheVariants as piece
use Rattle.l32_target_rules.specs.judging_laws.specs.md_reader.specs.declared.types.Kind.{Kind}
use Rattle.l32_target_rules.specs.judging_laws.specs.md_reader.specs.declared.types.Kind.TheVariants as kind
use Rattle.l32_target_rules.specs.judging_laws.specs.md_reader.specs.declared.types.Class.{Class}
use Rattle.l32_target_rules.specs.judging_laws.specs.md_reader.specs.declared.types.Sym.{Sym}
use Rattle.l32_target_rules.specs.judging_laws.specs.md_reader.specs.declared.types.Sym.TheVariants as grammar_symbol
use Rattle.l32_target_rules.specs.judging_laws.specs.md_reader.specs.Patterns.{kind_at}
use Rattle.l32_target_rules.specs.judging_laws.specs.term_core.specs.Shape.{Shape, Symbol}
use Rattle.l32_target_rules.specs.judging_laws.specs.sel_terms.specs.Effects as effects
use Rattle.l32_target_rules.specs.judging_laws.specs.sel_terms.specs.Effects.{ActShape}
use Rattle.l32_target_rules.specs.judging_laws.specs.sel_terms.specs.Same.{same_size}
use Rattle.l32_target_rules.specs.judging_laws.specs.sel_target.specs.declared.attr.Attr.{Attr}
use Rattle.l32_target_rules.specs.judging_laws.specs.sel_target.specs.declared.attr.Attr.TheVariants as attr
use Rattle.l32_target_rules.specs.judging_laws.specs.sel_target.specs.declared.fault.TemplateKind.{TemplateKind}
use Rattle.l32_target_rules.specs.judging_laws.specs.sel_target.specs.declared.fault.TemplateKind.TheVariants.{NotInstr, WrongSize}
use Rattle.l32_target_rules.specs.judging_laws.specs.sel_target.specs.Values.{own_operand, worth}
use Rattle.l32_target_rules.specs.judging_laws.specs.sel_target.specs.Instances.{hole, KindFits, SymFits, Fit}
use Rattle.l32_target_rules.specs.judging_laws.specs.vax_templates.specs.declared.setting.Hole.{Hole}
use Rattle.l32_target_rules.specs.judging_laws.specs.vax_templates.specs.declared.setting.Hole.TheVariants as hole_kind
use Rattle.l32_target_rules.specs.judging_laws.specs.vax_templates.specs.declared.setting.Own.{Own}
use Rattle.l32_target_rules.specs.judging_laws.specs.vax_templates.specs.declared.setting.Own.TheVariants as own
use Rattle.l32_target_rules.specs.judging_laws.specs.vax_templates.specs.declared.setting.Opening.{Opening}
use Rattle.l32_target_rules.specs.judging_laws.specs.vax_templates.specs.declared.setting.Opening.TheVariants as opening
use Rattle.l32_target_rules.specs.judging_laws.specs.vax_templates.specs.declared.setting.Setting.{Setting}
use Rattle.l32_target_rules.specs.judging_laws.specs.vax_templates.specs.Settings.{hole_of_token, hole_of_kind, hole_of, holes_of, hole_or_other, hole_at}
use Rattle.l32_target_rules.specs.judging_laws.specs.vax_templates.specs.Marks as marks
use Rattle.l32_target_rules.specs.judging_laws.specs.vax_templates.specs.Forms as vax_forms
use Rattle.l32_target_rules.specs.judging_laws.specs.vax_templates.specs.Standing.{Where, Register, Place, Local, At, where_own, where_hole, where_zero, at, displaced, pointed, negated, itself, ◌>>=◌}
use Rattle.l32_target_rules.specs.judging_laws.specs.vax_templates.specs.HoleTerms.{constant_of, absolute_term, register_term}
use Rattle.l32_target_rules.specs.judging_laws.specs.vax_templates.specs.Taking.{Taken}
use Rattle.l32_target_rules.specs.judging_laws.specs.vax_templates.specs.GiveLines.{register_given, number_given, address_given, value_given, home_given, place_given}
use Rattle.l32_target_rules.specs.judging_laws.specs.Each.{EachOk}
use Rattle.l32_target_rules.specs.judging_laws.proofs.Parts.{bind_each, if_ok, of_ok}
use Rattle.l32_target_rules.specs.l32_templates.specs.declared.form.Form.{Form}
use Rattle.l32_target_rules.specs.l32_templates.specs.declared.form.Form.TheVariants as form
use Rattle.l32_target_rules.specs.l32_templates.specs.l32_core.specs.declared.operand.Operand32.{Operand32}
use Rattle.l32_target_rules.specs.l32_templates.specs.l32_machine.specs.State.{State}
use Rattle.l32_target_rules.specs.l32_templates.specs.Forms as forms
use Rattle.l32_target_rules.specs.l32_templates.specs.Instructions.{shape_of_pieces}
use Rattle.l32_target_rules.specs.l32_templates.specs.Standing.{where_deferred, form_where}
use Rattle.l32_target_rules.specs.l32_templates.specs.Taking.{sourced}
use Rattle.l32_target_rules.specs.l32_templates.specs.GiveLines.{form_number, shape_given}
use Rattle.l32_target_rules.specs.l32_templates.specs.Filled.{attr_at, number_in, operand_in, filled}
use Rattle.l32_target_rules.specs.l32_target_meaning.specs.L32.{l32}
use Rattle.l32_target_rules.specs.l32_target_spelling.proofs.Shapes.{nth_is}

-- ---- what fills a hole

-- a number alone: what it is worth is what it spells
abbrev HasOne : Attr Operand32 → Type 0
HasOne a = (q : TreeProgram) (m : State) (n : ℕ) → worth l32 q Long a m ≡ Some n → number_in a ≡ n

-- a symbol that is a place of a rule has its own operand, and one that is a number spells it
abbrev Owns : TreeProgram → Hole → Attr Operand32 → Type 0
Owns q (hole_kind.Place z) a = own_operand l32 a ≡ Some (operand_in q a)
Owns q hole_kind.Local a = own_operand l32 a ≡ Some (operand_in q a)
Owns q hole_kind.Constant a = HasOne a
Owns q (hole_kind.Literal n) a = HasOne a
Owns q h a = Unit {0}

abbrev AllOwn : TreeProgram → List Hole → List (Attr Operand32) → Type 0
AllOwn q [] [] = Unit {0}
AllOwn q [] (a ∷ hs) = ⊥
AllOwn q (h ∷ roles) [] = ⊥
AllOwn q (h ∷ roles) (a ∷ hs) = Owns q h a × AllOwn q roles hs

abbrev leaf : Tok → Att → Attr Operand32
leaf x a = attr.Token (record { tok = x; att = a })

literal_owns : (x : Tok) (k : ℕ) (a : Att) → is_of_kind (att_kind.Own k) a ≡ true → HasOne (leaf x a)
literal_owns x k (att.Number n) f = λ q m y e. same_Some n y e
literal_owns x k _ f = absurd (cc)

constant_owns : (x : Tok) (a : Att) → is_of_kind att_kind.Other a ≡ true → HasOne (leaf x a)
constant_owns x (att.Number n) f = λ q m y e. same_Some n y e
constant_owns x _ f = absurd (cc)

local_owns : (q : TreeProgram) (a : Att) → is_of_kind att_kind.Local a ≡ true → Owns q hole_kind.Local (leaf tok.Loc a)
local_owns q (att.Slot k) f = refl
local_owns q _ f = absurd (cc)

argument_owns : (q : TreeProgram) (a : Att) → is_of_kind att_kind.Argument a ≡ true → Owns q hole_kind.Local (leaf tok.Arg a)
argument_owns q (att.Slot k) f = refl
argument_owns q _ f = absurd (cc)

token_owns : (q : TreeProgram) (x : Tok) (a : Att) → is_of_kind (attribute_of x) a ≡ true → Owns q (hole_of_token x) (leaf x a)
token_owns q tok.Zero a f = literal_owns tok.Zero 0 a f
token_owns q tok.One a f = literal_owns tok.One 1 a f
token_owns q tok.Two a f = literal_owns tok.Two 2 a f
token_owns q tok.Four a f = literal_owns tok.Four 4 a f
token_owns q tok.Eight a f = literal_owns tok.Eight 8 a f
token_owns q tok.Const a f = constant_owns tok.Const a f
token_owns q tok.Loc a f = local_owns q a f
token_owns q tok.Arg a f = argument_owns q a f
token_owns q x a f = tt

class_owns : (q : TreeProgram) (k : Option Kind) (a : Attr Operand32) → KindFits l32 k a → Owns q (hole_of_kind k) a
class_owns q (Some (kind.Place z)) (attr.Place o) f = refl
class_owns q (Some (kind.Place z)) a f = absurd f
class_owns q (Some kind.Con) (attr.Con k) f = λ p m y e. same_Some k y e
class_owns q (Some kind.Con) a f = absurd f
class_owns q (Some kind.Reg) a f = tt
class_owns q (Some (kind.Value z)) a f = tt
class_owns q (Some kind.Ea) a f = tt
class_owns q (Some kind.Nothing) a f = tt
class_owns q None a f = tt

symbol_owns : (q : TreeProgram) (classes : List Class) (x : Sym) (a : Attr Operand32) → SymFits l32 classes x a → Owns q (hole_of classes x) a
symbol_owns q classes (grammar_symbol.Class c) a f = class_owns q (kind_at classes c) a f
symbol_owns q classes (grammar_symbol.Tok x) (attr.Token l) f = subst (λ y. Owns q (hole_of_token y) (attr.Token l)) f.0 (token_owns q l.tok l.att f.1)
symbol_owns q classes (grammar_symbol.Tok x) a f = absurd f

pub all_own : (q : TreeProgram) (classes : List Class) (right : List Sym) (hs : List (Attr Operand32)) → Fit l32 classes right hs → AllOwn q (holes_of classes right) hs
all_own q classes [] [] f = tt
all_own q classes [] (h ∷ hs) f = absurd f
all_own q classes (x ∷ right) [] f = absurd f
all_own q classes (x ∷ right) (h ∷ hs) f = (symbol_owns q classes x h f.0, all_own q classes right hs f.1)

owns_nth : (q : TreeProgram) (roles : List Hole) (hs : List (Attr Operand32)) (k : ℕ) → AllOwn q roles hs →
    Owns q (hole_or_other (slice_get roles k)) (unwrap_or (slice_get hs k) attr.Nothing)
owns_nth q [] [] k h = tt
owns_nth q [] (a ∷ hs) k h = absurd h
owns_nth q (x ∷ roles) [] k h = absurd h
owns_nth q (x ∷ roles) (a ∷ hs) zero h = h.0
owns_nth q (x ∷ roles) (a ∷ hs) (suc k) h = owns_nth q roles hs k h.1

-- the attribute that stands at a hole
pub filled_with : (hs : List (Attr Operand32)) (i : ℕ) (h : Attr Operand32) → hole hs i ≡ Some h → attr_at hs attr.Nothing i ≡ h
filled_with hs zero h e = absurd (cc)
filled_with hs (suc k) h e = nth_is hs k ∙ ap (λ (o : Option (Attr Operand32)). unwrap_or o attr.Nothing) e

module _ (q : TreeProgram) (s : Setting) (roles : List Hole) (hs : List (Attr Operand32)) (owns : AllOwn q roles hs) where
  role_owns : (i : ℕ) → Owns q (hole_at roles i) (attr_at hs attr.Nothing i)
  role_owns i = by (i == 0) where
    by : (b : Bool) → Owns q (cond b hole_kind.Other (hole_or_other (slice_get roles (i - 1)))) (cond b attr.Nothing (unwrap_or (slice_get hs (i - 1)) attr.Nothing))
    by true = tt
    by false = owns_nth q roles hs (i - 1) owns

  -- ---- a number

  one_of : (r : Hole) (i : ℕ) (t : Shape) (a : Attr Operand32) → Owns q r a → constant_of r i ≡ Ok t → HasOne a
  one_of hole_kind.Constant i t a k e = k
  one_of (hole_kind.Literal n) i t a k e = k
  one_of _ i t a k e = absurd (err_ok _ t e)

  pub number_spelled : (i : ℕ) (t : Shape) → constant_of (hole_at roles i) i ≡ Ok t → HasOne (attr_at hs attr.Nothing i)
  number_spelled i t e = one_of (hole_at roles i) i t (attr_at hs attr.Nothing i) (role_owns i) e

  -- ---- a place

  -- a symbol's place stands for its own operand
  abbrev IsOwn : ℕ → Operand32 → Type 0
  IsOwn i o = own_operand l32 (attr_at hs attr.Nothing i) ≡ Some o

  abbrev Home : Where → Operand32 → Type 0
  Home (Place z i) o = IsOwn i o
  Home (Local i) o = IsOwn i o
  Home w o = Unit {0}

  hole_home : (r : Hole) (i : ℕ) → Owns q r (attr_at hs attr.Nothing i) → EachOk (λ w. Home w (operand_in q (attr_at hs attr.Nothing i))) (where_hole r i)
  hole_home (hole_kind.Place z) i k = k
  hole_home hole_kind.Local i k = k
  hole_home _ i k = tt

  own_home : (x : Own) (o : Operand32) → EachOk (λ w. Home w o) (where_own x)
  own_home own.Nothing o = tt
  own_home _ o = tt

  zero_home : (x : Opening) (o : Operand32) → EachOk (λ w. Home w o) (where_zero x)
  zero_home opening.Other o = tt
  zero_home _ o = tt

  deferred_home : (r : Hole) (i : ℕ) (o : Operand32) → EachOk (λ w. Home w o) (where_deferred r i)
  deferred_home hole_kind.Local i o = tt
  deferred_home _ i o = tt

  memory_home : (o : Operand32) (r : Result Shape TemplateKind) (g : Shape → Result Where TemplateKind) → ((t : Shape) → EachOk (λ w. Home w o) (g t)) → EachOk (λ w. Home w o) (r >>= g)
  memory_home o (Ok t) g h = h t
  memory_home o (Err e) g h = tt

  form_home : (f : Form) → EachOk (λ w. Home w (filled q hs attr.Nothing f)) (form_where s roles None f)
  unfolding form_where filled
  form_home form.RegisterZero = zero_home s.opening _
  form_home (form.Hole i) =
      if_ok (λ w. Home w (operand_in q (attr_at hs attr.Nothing i))) (i == 0) (where_own s.own) (where_hole (hole_at roles i) i)
      (λ e. own_home s.own (operand_in q (attr_at hs attr.Nothing i))) (λ e. hole_home (hole_at roles i) i (role_owns i))
  form_home (form.Immediate n) = memory_home _ (absolute_term roles n) itself (λ t. tt)
  form_home (form.Negative i) = memory_home _ (constant_of (hole_at roles i) i) negated (λ t. tt)
  form_home (form.Displacement n i) = memory_home _ (displaced (absolute_term roles n) (register_term s roles None i)) at (λ t. tt)
  form_home (form.DisplacementDeferred n i) = memory_home _ (displaced (absolute_term roles n) (register_term s roles None i)) pointed (λ t. tt)
  form_home (form.Deferred i) = deferred_home (hole_at roles i) i _

  -- an act that is a symbol's place has that symbol's operand
  abbrev pub HomeAct : Operand32 → ActShape → Type 0
  HomeAct o (effects.PlaceHome z i) = IsOwn i o
  HomeAct o a = Unit {0}

  given_home : (z y : Size) (i : ℕ) (o : Operand32) → IsOwn i o → EachOk (HomeAct o) (home_given z y i)
  given_home z y i o h = if_ok (HomeAct o) (same_size y z) (Ok (effects.PlaceHome z i)) (Err WrongSize) (λ e. h) (λ e. tt)

  place_home : (z : Size) (w : Where) (o : Operand32) → Home w o → EachOk (HomeAct o) (place_given z w)
  place_home z (Place y i) o h = given_home z y i o h
  place_home z (Local i) o h = given_home z Long i o h
  place_home z (At a p) o h = tt
  place_home z _ o h = tt

  register_home : (w : Where) (o : Operand32) → EachOk (HomeAct o) (register_given w)
  register_home (Register t) o = tt
  register_home _ o = tt

  address_home : (w : Where) (o : Operand32) → EachOk (HomeAct o) (address_given w)
  address_home (At a p) o = tt
  address_home _ o = tt

  value_home : (t : Taken) (o : Operand32) → EachOk (HomeAct o) (value_given t)
  value_home t o = if_ok (HomeAct o) t.missized (Err WrongSize) (Ok (effects.Value t.term)) (λ e. tt) (λ e. tt)

  others_home : {A : Type 0} (o : Operand32) (r : Result A TemplateKind) (g : A → Result ActShape TemplateKind) → ((x : A) → EachOk (HomeAct o) (g x)) → EachOk (HomeAct o) (r >>= g)
  others_home o (Ok x) g h = h x
  others_home o (Err e) g h = tt

  number_home : (f : Form) (o : Operand32) → EachOk (HomeAct o) (form_number roles f)
  number_home (form.Hole i) o = others_home o (constant_of (hole_at roles i) i) number_given (λ t. tt)
  number_home _ o = tt

  pub shape_home : (k : Option Kind) (f : Form) → EachOk (HomeAct (filled q hs attr.Nothing f)) (shape_given s roles k f)
  unfolding shape_given
  shape_home (Some kind.Reg) f = others_home (filled q hs attr.Nothing f) (form_where s roles None f) register_given (λ w. register_home w (filled q hs attr.Nothing f))
  shape_home (Some kind.Con) f = number_home f (filled q hs attr.Nothing f)
  shape_home (Some kind.Ea) f = others_home (filled q hs attr.Nothing f) (form_where s roles None f) address_given (λ w. address_home w (filled q hs attr.Nothing f))
  shape_home (Some (kind.Value z)) f =
      others_home (filled q hs attr.Nothing f) (form_where s roles None f) (λ (w : Where). sourced s None w z >>= value_given)
      (λ w. others_home (filled q hs attr.Nothing f) (sourced s None w z) value_given (λ t. value_home t (filled q hs attr.Nothing f)))
  shape_home (Some (kind.Place z)) f =
      bind_each (λ w. Home w (filled q hs attr.Nothing f)) (HomeAct (filled q hs attr.Nothing f)) (form_where s roles None f) (place_given z)
      (λ w h. place_home z w (filled q hs attr.Nothing f) h) (form_home f)
  shape_home (Some kind.Nothing) f = tt
  shape_home None f = tt

  pub home_stays : (k : Option Kind) (f : Form) (z : Size) (i : ℕ) → shape_given s roles k f ≡ Ok (effects.PlaceHome z i) → IsOwn i (filled q hs attr.Nothing f)
  home_stays k f z i e = of_ok (HomeAct (filled q hs attr.Nothing f)) (shape_given s roles k f) (effects.PlaceHome z i) e (shape_home k f)

-- ---- a hole alone

pub alone_form : (i : ℕ) → shape_of_pieces (piece.Hole i ∷ []) ≡ Some (form.Hole i)
unfolding forms.form_front vax_forms.number_spelled marks.at_front
alone_form i = refl

abbrev pub IsSymbol : ℕ → ActShape → Type 0
IsSymbol i a = a ≡ effects.Value (Symbol i)

symbol_given : (s : Setting) (roles : List Hole) (i : ℕ) → EachOk (IsSymbol i) (shape_given s roles (Some kind.Reg) (form.Hole i))
unfolding shape_given form_where
symbol_given s roles i = by (i == 0) where
  own_given : (x : Own) → EachOk (IsSymbol i) (where_own x >>= register_given)
  own_given own.Nothing = tt
  own_given _ = tt

  role_given : (r : Hole) → EachOk (IsSymbol i) (where_hole r i >>= register_given)
  role_given hole_kind.Register = refl
  role_given _ = tt

  by : (b : Bool) → EachOk (IsSymbol i) (cond b (where_own s.own) (where_hole (cond b hole_kind.Other (hole_or_other (slice_get roles (i - 1)))) i) >>= register_given)
  by true = own_given s.own
  by false = role_given (hole_or_other (slice_get roles (i - 1)))

pub register_stays : (s : Setting) (roles : List Hole) (i : ℕ) (a : ActShape) → shape_given s roles (Some kind.Reg) (form.Hole i) ≡ Ok a → IsSymbol i a
register_stays s roles i a e = of_ok (IsSymbol i) (shape_given s roles (Some kind.Reg) (form.Hole i)) a e (symbol_given s roles i)

pub number_of : (s : Setting) (roles : List Hole) (i : ℕ) (a : ActShape) → shape_given s roles (Some kind.Con) (form.Hole i) ≡ Ok a
    → (constant_of (hole_at roles i) i >>= number_given) ≡ Ok a
unfolding shape_given
number_of s roles i a e = e
