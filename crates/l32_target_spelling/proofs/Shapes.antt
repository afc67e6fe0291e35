-- A shape touches nothing that none of its holes touches, and a hole alone is its symbol's place.
use Rattle.std.proofs.Common.{◌≡◌, ℕ, zero, suc, ◌-◌, ◌==◌, Bool, true, false, cond, Option, Some, None, Result, Ok, Err, List, [], ◌∷◌, refl, sym, ap, subst, ◌∙◌, slice_get}
use Rattle.std.specs.Prelude.{nat_lt, unwrap_or}
use Rattle.std.specs.List.{list_any}
use Rattle.std.proofs.lemmas.Bool.{false≢true, or_left, or_right}
use Rattle.gg_base.specs.Arithmetic.{neg32}
use Rattle.gg_base.proofs.Facts.{not_zero, one_less}
use Rattle.l32_target_meaning.specs.vax_target_meaning.specs.tree_core.specs.declared.token.Tok.{Tok}
use Rattle.l32_target_meaning.specs.vax_target_meaning.specs.tree_core.specs.declared.token.Tok.TheVariants as tok
use Rattle.l32_target_meaning.specs.vax_target_meaning.specs.tree_core.specs.declared.token.AttKind.TheVariants as att_kind
use Rattle.l32_target_meaning.specs.vax_target_meaning.specs.tree_core.specs.declared.tree.Att.{Att}
use Rattle.l32_target_meaning.specs.vax_target_meaning.specs.tree_core.specs.declared.tree.Att.TheVariants as att
use Rattle.l32_target_meaning.specs.vax_target_meaning.specs.tree_core.specs.declared.program.TreeProgram.{TreeProgram}
use Rattle.l32_target_meaning.specs.vax_target_meaning.specs.tree_core.specs.Attributes.{attribute_of, is_of_kind}
use Rattle.judging_laws.specs.md_reader_pieces.specs.declared.piece.Piece.TheVariants as piece
use Rattle.judging_laws.specs.md_reader_pieces.specs.declared.piece.Line.{Line}
use Rattle.judging_laws.specs.md_reader.specs.declared.types.Kind.{Kind}
use Rattle.judging_laws.specs.md_reader.specs.declared.types.Kind.TheVariants as kind
use Rattle.judging_laws.specs.md_reader.specs.declared.types.Class.{Class}
use Rattle.judging_laws.specs.md_reader.specs.declared.types.Sym.{Sym}
use Rattle.judging_laws.specs.md_reader.specs.declared.types.Sym.TheVariants as grammar_symbol
use Rattle.judging_laws.specs.md_reader.specs.declared.types.Give.TheVariants as give
use Rattle.judging_laws.specs.md_reader.specs.declared.types.Rule.{Rule}
use Rattle.judging_laws.specs.md_reader.specs.Patterns.{kind_at}
use Rattle.judging_laws.specs.term_core.specs.Shape.{Shape}
use Rattle.judging_laws.specs.sel_terms.specs.Effects.{ActShape, EffectShape}
use Rattle.judging_laws.specs.sel_target.specs.declared.attr.Attr.{Attr}
use Rattle.judging_laws.specs.sel_target.specs.declared.attr.Attr.TheVariants as attr
use Rattle.judging_laws.specs.sel_target.specs.declared.fault.TemplateKind.{TemplateKind}
use Rattle.judging_laws.specs.sel_target.specs.Meaning.{Spot, RegAt, WordAt, touches}
use Rattle.judging_laws.specs.sel_target.specs.Values.{own_operand, slot_place, token_operand}
use Rattle.judging_laws.specs.sel_target.specs.Instances.{hole, attr_touches, KindFits, SymFits, Fit}
use Rattle.judging_laws.specs.vax_templates.specs.declared.setting.Hole.{Hole}
use Rattle.judging_laws.specs.vax_templates.specs.declared.setting.Hole.TheVariants as hole_kind
use Rattle.judging_laws.specs.vax_templates.specs.declared.setting.Own.{Own}
use Rattle.judging_laws.specs.vax_templates.specs.declared.setting.Own.TheVariants as own
use Rattle.judging_laws.specs.vax_templates.specs.declared.setting.Opening.{Opening}
use Rattle.judging_laws.specs.vax_templates.specs.declared.setting.Opening.TheVariants as opening
use Rattle.judging_laws.specs.vax_templates.specs.declared.setting.Setting.{Setting}
use Rattle.judging_laws.specs.vax_templates.specs.Settings.{hole_of_token, hole_of_kind, hole_of, holes_of, hole_or_other, hole_at, own_of, opening_by, setting_of}
use Rattle.judging_laws.specs.vax_templates.specs.Marks as marks
use Rattle.judging_laws.specs.vax_templates.specs.Forms as vax_forms
use Rattle.judging_laws.specs.vax_templates.specs.Standing.{Where, Immediate, Register, OwnRegister, RegisterZero, Value, Place, Local, SavedPlace, Saved, At}
use Rattle.judging_laws.specs.vax_templates.specs.Standing.{◌>>=◌, where_own, where_hole, where_zero, at, displaced, pointed, negated, itself}
use Rattle.judging_laws.specs.vax_templates.specs.HoleTerms.{constant_of, register_of, own_value, register_term, absolute_term}
use Rattle.judging_laws.specs.vax_templates.specs.Taking.{fetched}
use Rattle.judging_laws.specs.vax_templates.specs.Filled.{object_addr}
use Rattle.judging_laws.specs.vax_templates.specs.GiveLines.{register_given, number_given, address_given, value_given, place_given}
use Rattle.judging_laws.specs.template_judging.specs.Found as any
use Rattle.judging_laws.specs.Each.{EachOk}
use Rattle.judging_laws.proofs.Parts.{bind_each, always_ok, still_ok}
use Rattle.judging_laws.proofs.Judged.{of_shape}
use Rattle.l32_target_meaning.specs.l32_templates.specs.l32_core.specs.declared.operand.Base32.TheVariants.{A}
use Rattle.l32_target_meaning.specs.l32_templates.specs.l32_core.specs.declared.operand.Operand32.{Operand32}
use Rattle.l32_target_meaning.specs.l32_templates.specs.l32_core.specs.declared.operand.Operand32.TheVariants as operands
use Rattle.l32_target_meaning.specs.l32_templates.specs.declared.form.Form.{Form}
use Rattle.l32_target_meaning.specs.l32_templates.specs.declared.form.Form.TheVariants as form
use Rattle.l32_target_meaning.specs.l32_templates.specs.Homes.{home, at_home, argument_home}
use Rattle.l32_target_meaning.specs.l32_templates.specs.Forms as forms
use Rattle.l32_target_meaning.specs.l32_templates.specs.Instructions.{shape_of_pieces}
use Rattle.l32_target_meaning.specs.l32_templates.specs.Standing.{where_deferred, form_where}
use Rattle.l32_target_meaning.specs.l32_templates.specs.Taking.{sourced}
use Rattle.l32_target_meaning.specs.l32_templates.specs.GiveLines.{form_number, shape_given, shape_read}
use Rattle.l32_target_meaning.specs.l32_templates.specs.Found.{l32_lines}
use Rattle.l32_target_meaning.specs.l32_templates.specs.Filled.{spare, attr_at, register_in, number_in, number_filled, word_operand, is_argument, slot_operand, argument_deferred, slot_deferred}
use Rattle.l32_target_meaning.specs.l32_templates.specs.Filled.{leaf_operand, operand_in, deferred_in, filled, filled_or_spare, filled_operand}
use Rattle.l32_target_meaning.specs.L32.{l32}
use Rattle.l32_target_spelling.proofs.Own.{num_touches, addr_touches, at_touches, deferred_touches, at_home_touches}

-- ---- what holes touch

-- the operand of an attribute touches what the attribute touches
abbrev pub TouchesAlike : Operand32 → Attr Operand32 → Type 0
TouchesAlike o a = (s : Spot) → touches l32 o s ≡ true → attr_touches l32 a s ≡ true

pub record IsRegister (a : Attr Operand32) : Type 0 where
  pub number : ℕ
  pub is : a ≡ attr.Reg number

pub record IsPointer (q : TreeProgram) (a : Attr Operand32) : Type 0 where
  pub place : TouchesAlike (operand_in q a) a
  pub deferred : TouchesAlike (deferred_in a) a

abbrev pub Tells : TreeProgram → Hole → Attr Operand32 → Type 0
Tells q hole_kind.Register a = IsRegister a
Tells q (hole_kind.Value z) a = TouchesAlike (operand_in q a) a
Tells q (hole_kind.Place z) a = TouchesAlike (operand_in q a) a
Tells q hole_kind.Local a = IsPointer q a
Tells q (hole_kind.SavedPlace z) a = TouchesAlike (operand_in q a) a
Tells q hole_kind.Address a = TouchesAlike (operand_in q a) a
Tells q hole_kind.Constant a = TouchesAlike (operand_in q a) a
Tells q (hole_kind.Literal n) a = TouchesAlike (operand_in q a) a
Tells q hole_kind.Object a = TouchesAlike (operand_in q a) a
Tells q hole_kind.Saved a = Unit {0}
Tells q hole_kind.Relation a = Unit {0}
Tells q hole_kind.Other a = Unit {0}

abbrev pub AllTell : TreeProgram → List Hole → List (Attr Operand32) → Type 0
AllTell q [] [] = Unit {0}
AllTell q [] (a ∷ hs) = ⊥
AllTell q (h ∷ hs') [] = ⊥
AllTell q (h ∷ hs') (a ∷ hs) = Tells q h a × AllTell q hs' hs

abbrev leaf : Tok → Att → Attr Operand32
leaf x a = attr.Token (record { tok = x; att = a })

own_tells : (q : TreeProgram) (x : Tok) (k : ℕ) (a : Att) → is_of_kind (att_kind.Own k) a ≡ true → TouchesAlike (operand_in q (leaf x a)) (leaf x a)
own_tells q x k (att.Number n) f = λ s e. absurd (num_touches n s e)
own_tells q x k _ f = absurd (cc)

other_tells : (q : TreeProgram) (x : Tok) (a : Att) → is_of_kind att_kind.Other a ≡ true → TouchesAlike (operand_in q (leaf x a)) (leaf x a)
other_tells q x (att.Number n) f = λ s e. absurd (num_touches n s e)
other_tells q x _ f = absurd (cc)

object_tells : (q : TreeProgram) (x : Tok) (a : Att) → is_of_kind att_kind.Object a ≡ true → TouchesAlike (operand_in q (leaf x a)) (leaf x a)
object_tells q x (att.Object object offset) f = λ s e. absurd (addr_touches (object_addr q object offset) s e)
object_tells q x _ f = absurd (cc)

word_deferred_touches : (k : ℕ) (s : Spot) → touches l32 (slot_deferred tok.Loc k) s ≡ true → touches l32 (word_operand k) s ≡ true
word_deferred_touches k s e = by (nat_lt k 1024) e where
  by : (b : Bool) → touches l32 (cond b (at_home k) spare) s ≡ true → touches l32 (cond b (home k) spare) s ≡ true
  by true e = at_home_touches k s e
  by false e = e

argument_at_touches : (k : ℕ) (s : Spot) → touches l32 (argument_deferred k) s ≡ true → touches l32 (argument_home k) s ≡ true
argument_at_touches k (RegAt n) e = e
argument_at_touches k (WordAt w) e = e

argument_deferred_touches : (k : ℕ) (s : Spot) → touches l32 (slot_deferred tok.Arg k) s ≡ true → touches l32 (slot_operand tok.Arg k) s ≡ true
argument_deferred_touches k s e = by (is_argument k) e where
  by : (b : Bool) → touches l32 (cond b (argument_deferred k) spare) s ≡ true → touches l32 (cond b (argument_home k) spare) s ≡ true
  by true e = argument_at_touches k s e
  by false e = e

local_tells : (q : TreeProgram) (a : Att) → is_of_kind att_kind.Local a ≡ true → IsPointer q (leaf tok.Loc a)
local_tells q (att.Slot k) f = record { place = λ s e. e; deferred = word_deferred_touches k }
local_tells q _ f = absurd (cc)

argument_tells : (q : TreeProgram) (a : Att) → is_of_kind att_kind.Argument a ≡ true → IsPointer q (leaf tok.Arg a)
argument_tells q (att.Slot k) f = record { place = λ s e. e; deferred = argument_deferred_touches k }
argument_tells q _ f = absurd (cc)

token_tells : (q : TreeProgram) (x : Tok) (a : Att) → is_of_kind (attribute_of x) a ≡ true → Tells q (hole_of_token x) (leaf x a)
token_tells q tok.Zero a f = own_tells q tok.Zero 0 a f
token_tells q tok.One a f = own_tells q tok.One 1 a f
token_tells q tok.Two a f = own_tells q tok.Two 2 a f
token_tells q tok.Four a f = own_tells q tok.Four 4 a f
token_tells q tok.Eight a f = own_tells q tok.Eight 8 a f
token_tells q tok.Const a f = other_tells q tok.Const a f
token_tells q tok.Gaddr a f = object_tells q tok.Gaddr a f
token_tells q tok.Loc a f = local_tells q a f
token_tells q tok.Arg a f = argument_tells q a f
token_tells q x a f = tt

class_tells : (q : TreeProgram) (k : Option Kind) (h : Attr Operand32) → KindFits l32 k h → Tells q (hole_of_kind k) h
class_tells q None h f = absurd f
class_tells q (Some kind.Reg) (attr.Reg r) f = record { number = r; is = refl }
class_tells q (Some (kind.Value z)) (attr.Value o) f = λ s e. e
class_tells q (Some (kind.Place z)) (attr.Place o) f = λ s e. e
class_tells q (Some kind.Con) (attr.Con n) f = λ s e. absurd (num_touches n s e)
class_tells q (Some kind.Ea) (attr.Ea o) f = λ s e. e
class_tells q (Some kind.Nothing) h f = tt
class_tells q (Some k) h f = absurd f

symbol_tells : (q : TreeProgram) (classes : List Class) (x : Sym) (h : Attr Operand32) → SymFits l32 classes x h → Tells q (hole_of classes x) h
symbol_tells q classes (grammar_symbol.Class c) h f = class_tells q (kind_at classes c) h f
symbol_tells q classes (grammar_symbol.Tok x) (attr.Token l) f = subst (λ y. Tells q (hole_of_token y) (attr.Token l)) f.0 (token_tells q l.tok l.att f.1)
symbol_tells q classes (grammar_symbol.Tok x) h f = absurd f

all_tell : (q : TreeProgram) (classes : List Class) (right : List Sym) (hs : List (Attr Operand32)) → Fit l32 classes right hs → AllTell q (holes_of classes right) hs
all_tell q classes [] [] f = tt
all_tell q classes [] (h ∷ hs) f = absurd f
all_tell q classes (x ∷ right) [] f = absurd f
all_tell q classes (x ∷ right) (h ∷ hs) f = (symbol_tells q classes x h f.0, all_tell q classes right hs f.1)

tells_nth : (q : TreeProgram) (hs' : List Hole) (hs : List (Attr Operand32)) (k : ℕ) → AllTell q hs' hs →
    Tells q (hole_or_other (slice_get hs' k)) (unwrap_or (slice_get hs k) attr.Nothing)
tells_nth q [] [] k h = tt
tells_nth q [] (a ∷ hs) k h = absurd h
tells_nth q (x ∷ hs') [] k h = absurd h
tells_nth q (x ∷ hs') (a ∷ hs) zero h = h.0
tells_nth q (x ∷ hs') (a ∷ hs) (suc k) h = tells_nth q hs' hs k h.1

any_nth : (s : Spot) (hs : List (Attr Operand32)) (k : ℕ) → attr_touches l32 (unwrap_or (slice_get hs k) attr.Nothing) s ≡ true → list_any (λ h. attr_touches l32 h s) hs ≡ true
any_nth s [] k e = absurd (false≢true e)
any_nth s (h ∷ hs) zero e = or_left (attr_touches l32 h s) (list_any (λ g. attr_touches l32 g s) hs) e
any_nth s (h ∷ hs) (suc k) e = or_right (attr_touches l32 h s) (list_any (λ g. attr_touches l32 g s) hs) (any_nth s hs k e)

-- ---- where shapes stand

module _ (q : TreeProgram) (set : Setting) (hs' : List Hole) (hs : List (Attr Operand32)) (s : Spot) (tell : AllTell q hs' hs)
    (no_own : set.own ≡ own.Nothing) (other : set.opening ≡ opening.Other) where
  -- some hole touches it
  abbrev Somewhere : Type 0
  Somewhere = list_any (λ h. attr_touches l32 h s) hs ≡ true

  abbrev Touches : Operand32 → Type 0
  Touches o = touches l32 o s ≡ true → Somewhere

  abbrev Told : Where → Operand32 → Type 0
  Told (Saved i) o = Unit {0}
  Told w o = Touches o

  hole_touches : (i : ℕ) → attr_touches l32 (attr_at hs attr.Nothing i) s ≡ true → Somewhere
  hole_touches i e = by (i == 0) e where
    by : (b : Bool) → attr_touches l32 (cond b attr.Nothing (unwrap_or (slice_get hs (i - 1)) attr.Nothing)) s ≡ true → Somewhere
    by true e = absurd (false≢true e)
    by false e = any_nth s hs (i - 1) e

  -- a hole's register
  abbrev IsRegisterAt : ℕ → Type 0
  IsRegisterAt i = IsRegister (attr_at hs attr.Nothing i)

  register_hole : (h : Hole) (i : ℕ) (a : Attr Operand32) → Tells q h a → EachOk (λ (t : Shape). IsRegister a) (register_of h i)
  register_hole hole_kind.Register i a k = k
  register_hole _ i a k = tt

  no_value : (P : Shape → Type 0) (o : Own) → EachOk P (own_value o None)
  no_value P own.Nothing = tt
  no_value P own.Register = tt
  no_value P (own.Slot z) = tt

  register_at : (i : ℕ) → EachOk (λ (t : Shape). IsRegisterAt i) (register_term set hs' None i)
  register_at i = by (i == 0) where
    by : (b : Bool) → EachOk (λ (t : Shape). IsRegister (cond b attr.Nothing (unwrap_or (slice_get hs (i - 1)) attr.Nothing)))
        (cond b (own_value set.own None) (register_of (cond b hole_kind.Other (hole_or_other (slice_get hs' (i - 1)))) i))
    by true = no_value _ set.own
    by false = register_hole (hole_or_other (slice_get hs' (i - 1))) i (unwrap_or (slice_get hs (i - 1)) attr.Nothing) (tells_nth q hs' hs (i - 1) tell)

  -- what a hole's register touches the hole does
  by_register : (i : ℕ) (made : ℕ → Operand32) → ((n : ℕ) → touches l32 (made n) s ≡ true → touches l32 (operands.Reg n) s ≡ true) →
      IsRegisterAt i → Touches (made (register_in (attr_at hs attr.Nothing i)))
  by_register i made h r e =
      hole_touches i (ap (λ a. attr_touches l32 a s) r.is ∙ h r.number (ap (λ a. touches l32 (made (register_in a)) s) (sym r.is) ∙ e))

  own_told : (o : Own) (x : Operand32) → o ≡ own.Nothing → EachOk (λ w. Told w x) (where_own o)
  own_told own.Nothing x e = tt
  own_told own.Register x e = absurd (cc)
  own_told (own.Slot z) x e = absurd (cc)

  zero_told : (o : Opening) (x : Operand32) → o ≡ opening.Other → EachOk (λ w. Told w x) (where_zero o)
  zero_told opening.Other x e = tt
  zero_told opening.Save x e = absurd (cc)
  zero_told opening.Return x e = absurd (cc)

  symbol_told : (h : Hole) (i : ℕ) (a : Attr Operand32) → Tells q h a → (attr_touches l32 a s ≡ true → Somewhere) → EachOk (λ w. Told w (operand_in q a)) (where_hole h i)
  symbol_told hole_kind.Register i a k f = λ e. f (ap (λ b. attr_touches l32 b s) k.is ∙ (ap (λ b. touches l32 (operand_in q b) s) (sym k.is) ∙ e))
  symbol_told (hole_kind.Value z) i a k f = λ e. f (k s e)
  symbol_told (hole_kind.Place z) i a k f = λ e. f (k s e)
  symbol_told hole_kind.Local i a k f = λ e. f (k.place s e)
  symbol_told (hole_kind.SavedPlace z) i a k f = λ e. f (k s e)
  symbol_told hole_kind.Address i a k f = λ e. f (k s e)
  symbol_told hole_kind.Object i a k f = λ e. f (k s e)
  symbol_told hole_kind.Constant i a k f = tt
  symbol_told (hole_kind.Literal n) i a k f = tt
  symbol_told hole_kind.Saved i a k f = tt
  symbol_told hole_kind.Relation i a k f = tt
  symbol_told hole_kind.Other i a k f = tt

  hole_told : (i : ℕ) → EachOk (λ w. Told w (operand_in q (attr_at hs attr.Nothing i))) (cond (i == 0) (where_own set.own) (where_hole (hole_at hs' i) i))
  hole_told i = by (i == 0) where
    by : (b : Bool) → EachOk (λ w. Told w (operand_in q (cond b attr.Nothing (unwrap_or (slice_get hs (i - 1)) attr.Nothing))))
        (cond b (where_own set.own) (where_hole (cond b hole_kind.Other (hole_or_other (slice_get hs' (i - 1)))) i))
    by true = own_told set.own (operand_in q attr.Nothing) no_own
    by false = symbol_told (hole_or_other (slice_get hs' (i - 1))) i (unwrap_or (slice_get hs (i - 1)) attr.Nothing) (tells_nth q hs' hs (i - 1) tell) (any_nth s hs (i - 1))

  pointer_told : (h : Hole) (i : ℕ) (a : Attr Operand32) → Tells q h a → (attr_touches l32 a s ≡ true → Somewhere) → EachOk (λ w. Told w (deferred_in a)) (where_deferred h i)
  pointer_told hole_kind.Local i a k f = λ e. f (k.deferred s e)
  pointer_told _ i a k f = tt

  deferred_told : (i : ℕ) → EachOk (λ w. Told w (deferred_in (attr_at hs attr.Nothing i))) (where_deferred (hole_at hs' i) i)
  deferred_told i = by (i == 0) where
    by : (b : Bool) → EachOk (λ w. Told w (deferred_in (cond b attr.Nothing (unwrap_or (slice_get hs (i - 1)) attr.Nothing))))
        (where_deferred (cond b hole_kind.Other (hole_or_other (slice_get hs' (i - 1)))) i)
    by true = tt
    by false = pointer_told (hole_or_other (slice_get hs' (i - 1))) i (unwrap_or (slice_get hs (i - 1)) attr.Nothing) (tells_nth q hs' hs (i - 1) tell) (any_nth s hs (i - 1))

  number_touches : (n : ℕ) → Touches (operands.Num n)
  number_touches n e = absurd (num_touches n s e)

  base_register : (i : ℕ) (d : Result Shape TemplateKind) → EachOk (λ (t : Shape). IsRegisterAt i) (displaced d (register_term set hs' None i))
  base_register i (Ok a) = by (register_term set hs' None i) (register_at i) where
    by : (r : Result Shape TemplateKind) → EachOk (λ (t : Shape). IsRegisterAt i) r → EachOk (λ (t : Shape). IsRegisterAt i) (displaced (Ok a) r)
    by (Ok b) h = h
    by (Err e) h = tt
  base_register i (Err e) = tt

  form_told : (f : Form) → EachOk (λ w. Told w (filled q hs attr.Nothing f)) (form_where set hs' None f)
  unfolding form_where filled
  form_told form.RegisterZero = zero_told set.opening _ other
  form_told (form.Hole i) = hole_told i
  form_told (form.Immediate n) =
      bind_each (λ (t : Shape). Unit {0}) (λ w. Told w (operands.Num (number_filled hs attr.Nothing n))) (absolute_term hs' n) itself
      (λ t u. number_touches (number_filled hs attr.Nothing n)) (always_ok (absolute_term hs' n) tt)
  form_told (form.Negative i) =
      bind_each (λ (t : Shape). Unit {0}) (λ w. Told w (operands.Num (neg32 (number_in (attr_at hs attr.Nothing i))))) (constant_of (hole_at hs' i) i) negated
      (λ t u. number_touches (neg32 (number_in (attr_at hs attr.Nothing i)))) (always_ok (constant_of (hole_at hs' i) i) tt)
  form_told (form.Displacement n i) =
      bind_each (λ (t : Shape). IsRegisterAt i) (λ w. Told w (operands.At (number_filled hs attr.Nothing n) (A (register_in (attr_at hs attr.Nothing i)))))
      (displaced (absolute_term hs' n) (register_term set hs' None i)) at
      (λ t r. by_register i (λ x. operands.At (number_filled hs attr.Nothing n) (A x)) (λ k e. at_touches (number_filled hs attr.Nothing n) k s e) r)
      (base_register i (absolute_term hs' n))
  form_told (form.DisplacementDeferred n i) =
      bind_each (λ (t : Shape). IsRegisterAt i) (λ w. Told w (operands.Deferred (number_filled hs attr.Nothing n) (A (register_in (attr_at hs attr.Nothing i)))))
      (displaced (absolute_term hs' n) (register_term set hs' None i)) pointed
      (λ t r. by_register i (λ x. operands.Deferred (number_filled hs attr.Nothing n) (A x)) (λ k e. deferred_touches (number_filled hs attr.Nothing n) k s e) r)
      (base_register i (absolute_term hs' n))
  form_told (form.Deferred i) = deferred_told i

  -- what isn't the local of the last call's result
  given_told : {B : Type 0} (o : Operand32) (g : Where → Result B TemplateKind) → ((i : ℕ) → EachOk (λ (x : B). Touches o) (g (Saved i))) → (w : Where) → Told w o →
      EachOk (λ (x : B). Touches o) (g w)
  given_told o g h (Saved i) k = h i
  given_told o g h (Immediate t) k = always_ok (g (Immediate t)) k
  given_told o g h (Register t) k = always_ok (g (Register t)) k
  given_told o g h OwnRegister k = always_ok (g OwnRegister) k
  given_told o g h RegisterZero k = always_ok (g RegisterZero) k
  given_told o g h (Value z i) k = always_ok (g (Value z i)) k
  given_told o g h (Place z i) k = always_ok (g (Place z i)) k
  given_told o g h (Local i) k = always_ok (g (Local i)) k
  given_told o g h (SavedPlace z i) k = always_ok (g (SavedPlace z i)) k
  given_told o g h (At a p) k = always_ok (g (At a p)) k

  by_form : (f : Form) (g : Where → Result ActShape TemplateKind) → ((i : ℕ) → EachOk (λ (x : ActShape). Touches (filled q hs attr.Nothing f)) (g (Saved i))) →
      EachOk (λ (x : ActShape). Touches (filled q hs attr.Nothing f)) (form_where set hs' None f >>= g)
  by_form f g h =
      bind_each (λ w. Told w (filled q hs attr.Nothing f)) (λ (x : ActShape). Touches (filled q hs attr.Nothing f)) (form_where set hs' None f) g
      (given_told (filled q hs attr.Nothing f) g h) (form_told f)

  constant_told : (h : Hole) (i : ℕ) (a : Attr Operand32) → Tells q h a → (attr_touches l32 a s ≡ true → Somewhere) → EachOk (λ (t : Shape). Touches (operand_in q a)) (constant_of h i)
  constant_told hole_kind.Constant i a k f = λ e. f (k s e)
  constant_told (hole_kind.Literal n) i a k f = λ e. f (k s e)
  constant_told _ i a k f = tt

  constant_at : (i : ℕ) → EachOk (λ (t : Shape). Touches (operand_in q (attr_at hs attr.Nothing i))) (constant_of (hole_at hs' i) i)
  constant_at i = by (i == 0) where
    by : (b : Bool) → EachOk (λ (t : Shape). Touches (operand_in q (cond b attr.Nothing (unwrap_or (slice_get hs (i - 1)) attr.Nothing))))
        (constant_of (cond b hole_kind.Other (hole_or_other (slice_get hs' (i - 1)))) i)
    by true = tt
    by false = constant_told (hole_or_other (slice_get hs' (i - 1))) i (unwrap_or (slice_get hs (i - 1)) attr.Nothing) (tells_nth q hs' hs (i - 1) tell) (any_nth s hs (i - 1))

  number_told : (f : Form) → EachOk (λ (x : ActShape). Touches (filled q hs attr.Nothing f)) (form_number hs' f)
  unfolding filled
  number_told (form.Hole i) = still_ok _ (constant_of (hole_at hs' i) i) number_given (constant_at i)
  number_told _ = tt

  shape_told : (k : Option Kind) (f : Form) → EachOk (λ (x : ActShape). Touches (filled q hs attr.Nothing f)) (shape_given set hs' k f)
  unfolding shape_given fetched
  shape_told (Some kind.Reg) f = by_form f register_given (λ i. tt)
  shape_told (Some kind.Con) f = number_told f
  shape_told (Some kind.Ea) f = by_form f address_given (λ i. tt)
  shape_told (Some (kind.Value z)) f = by_form f (λ (w : Where). sourced set None w z >>= value_given) (λ i. tt)
  shape_told (Some (kind.Place z)) f = by_form f (place_given z) (λ i. tt)
  shape_told (Some kind.Nothing) f = tt
  shape_told None f = tt

  pub pieces_told : (k : Option Kind) (o : Option Form) → EachOk (λ (x : ActShape). Touches (filled_or_spare q hs o)) (shape_read o >>= shape_given set hs' k)
  pieces_told k None = tt
  pieces_told k (Some f) = shape_told k f

pub shape_touches : (q : TreeProgram) (classes : List Class) (rule : Rule) (e : EffectShape) (l : Line) (hs : List (Attr Operand32)) (s : Spot) →
    l32.effect classes rule ≡ Ok e → rule.give ≡ give.Shape l → Fit l32 classes rule.right hs → touches l32 (l32.operand q l hs) s ≡ true →
    list_any (λ h. attr_touches l32 h s) hs ≡ true
unfolding any.found
shape_touches q classes rule e l hs s is gives fit =
    of_shape l32_lines (setting_of classes rule) (holes_of classes rule.right) (kind_at classes rule.left) rule.lines l e
    (touches l32 (filled_operand q l.pieces hs) s ≡ true → list_any (λ h. attr_touches l32 h s) hs ≡ true)
    (pieces_told q (setting_of classes rule) (holes_of classes rule.right) hs s (all_tell q classes rule.right hs fit) (ap own_of gives)
    (ap (λ g. opening_by g rule.right) gives) (kind_at classes rule.left) (shape_of_pieces l.pieces))
    (ap (λ g. any.template_found l32_lines (setting_of classes rule) (holes_of classes rule.right) (kind_at classes rule.left) rule.lines g) (sym gives) ∙ is)

-- ---- a hole alone

slot_alone : (x : Tok) (k : ℕ) (o : Operand32) → slot_place word_operand (slot_operand tok.Arg) x k ≡ Some o → slot_operand x k ≡ o
slot_alone tok.Loc k o e = cc
slot_alone tok.Arg k o e = cc
slot_alone x k o e = absurd (cc)

token_alone : (q : TreeProgram) (x : Tok) (a : Att) (o : Operand32) → token_operand l32 x a ≡ Some o → leaf_operand q x a ≡ o
token_alone q x (att.Slot k) o e = slot_alone x k o e
token_alone q x _ o e = absurd (cc)

pub attr_alone : (q : TreeProgram) (h : Attr Operand32) (o : Operand32) → own_operand l32 h ≡ Some o → operand_in q h ≡ o
attr_alone q (attr.Place p) o e = cc
attr_alone q (attr.Token l) o e = token_alone q l.tok l.att o e
attr_alone q _ o e = absurd (cc)

alone_filled : (q : TreeProgram) (i : ℕ) (hs : List (Attr Operand32)) → filled_operand q (piece.Hole i ∷ []) hs ≡ operand_in q (attr_at hs attr.Nothing i)
unfolding forms.form_front vax_forms.number_spelled marks.at_front filled
alone_filled q i hs = refl

pub nth_is : (hs : List (Attr Operand32)) (k : ℕ) → attr_at hs attr.Nothing (suc k) ≡ unwrap_or (slice_get hs k) attr.Nothing
nth_is hs k =
    ap (λ b. cond b attr.Nothing (unwrap_or (slice_get hs (suc k - 1)) attr.Nothing)) (not_zero k)
    ∙ ap (λ n. unwrap_or (slice_get hs n) attr.Nothing) (one_less k)

pub alone_is : (q : TreeProgram) (l : Line) (i : ℕ) (hs : List (Attr Operand32)) (h : Attr Operand32) (o : Operand32) →
    l.pieces ≡ piece.Hole i ∷ [] → hole hs i ≡ Some h → own_operand l32 h ≡ Some o → l32.operand q l hs ≡ o
alone_is q l i hs h o e found own = ap (λ ps. filled_operand q ps hs) e ∙ (alone_filled q i hs ∙ nth i found) where
  nth : (i : ℕ) → hole hs i ≡ Some h → operand_in q (attr_at hs attr.Nothing i) ≡ o
  nth zero there = absurd (cc)
  nth (suc k) there = ap (operand_in q) (nth_is hs k) ∙ (ap (λ x. operand_in q (unwrap_or x attr.Nothing)) there ∙ attr_alone q h o own)
