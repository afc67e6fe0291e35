-- A shape touches nothing that none of its holes touches, and a hole alone is its symbol's place.
use Rattle.std.proofs.Common.{◌≡◌, ℕ, zero, suc, ◌-◌, ◌<◌, ◌==◌, ◌||◌, Bool, true, false, cond, Option, Some, None, Result, Ok, Err, List, [], ◌∷◌, refl, sym, ap, subst, ◌∙◌, arith, slice_get}
use Rattle.std.specs.Prelude.{nat_lt, nat_le, unwrap_or}
use Rattle.std.specs.List.{list_any}
use Rattle.gg_base.specs.declared.size.Size.{Size}
use Rattle.gg_base.specs.declared.size.Size.TheVariants.{Byte, Long}
use Rattle.gg_base.specs.Arithmetic.{neg32}
use Rattle.gg_base.proofs.Facts.{not_zero, one_less, either_is}
use Rattle.std.proofs.lemmas.Bool.{false≢true, or_left, or_right}
use Rattle.vax_target_writing.specs.tree_core.specs.declared.token.Tok.{Tok}
use Rattle.vax_target_writing.specs.tree_core.specs.declared.token.Tok.TheVariants as tok
use Rattle.vax_target_writing.specs.tree_core.specs.declared.token.AttKind.TheVariants as att_kind
use Rattle.vax_target_writing.specs.tree_core.specs.declared.tree.Att.{Att}
use Rattle.vax_target_writing.specs.tree_core.specs.declared.tree.Att.TheVariants as att
use Rattle.vax_target_writing.specs.tree_core.specs.declared.program.TreeProgram.{TreeProgram}
use Rattle.vax_target_writing.specs.tree_core.specs.Attributes.{attribute_of, is_of_kind}
use Rattle.vax_target_writing.specs.md_reader_pieces.specs.declared.piece.Piece.TheVariants as piece
use Rattle.vax_target_writing.specs.md_reader_pieces.specs.declared.piece.Line.{Line}
use Rattle.vax_target_writing.specs.md_reader.specs.declared.types.Kind.{Kind}
use Rattle.vax_target_writing.specs.md_reader.specs.declared.types.Kind.TheVariants as kind
use Rattle.vax_target_writing.specs.md_reader.specs.declared.types.Class.{Class}
use Rattle.vax_target_writing.specs.md_reader.specs.declared.types.Sym.{Sym}
use Rattle.vax_target_writing.specs.md_reader.specs.declared.types.Sym.TheVariants as grammar_symbol
use Rattle.vax_target_writing.specs.md_reader.specs.declared.types.Give.TheVariants as give
use Rattle.vax_target_writing.specs.md_reader.specs.declared.types.Rule.{Rule}
use Rattle.vax_target_writing.specs.md_reader.specs.Patterns.{kind_at}
use Rattle.vax_target_writing.specs.term_core.specs.Shape.{Shape}
use Rattle.vax_target_writing.specs.sel_terms.specs.Effects.{ActShape, EffectShape}
use Rattle.vax_target_writing.specs.sel_target.specs.declared.attr.Attr.{Attr}
use Rattle.vax_target_writing.specs.sel_target.specs.declared.attr.Attr.TheVariants as attr
use Rattle.vax_target_writing.specs.sel_target.specs.declared.fault.TemplateKind.{TemplateKind}
use Rattle.vax_target_writing.specs.sel_target.specs.Meaning.{Fault, Spot, RegAt, WordAt, touches, is_word}
use Rattle.vax_target_writing.specs.sel_target.specs.Values.{own_operand}
use Rattle.vax_target_writing.specs.sel_target.specs.Instances.{hole, attr_touches, KindFits, SymFits, Fit}
use Rattle.vax_core.specs.declared.register.Reg.{Reg}
use Rattle.vax_core.specs.declared.operand.Addr.{Addr}
use Rattle.vax_core.specs.declared.operand.Base.TheVariants as bases
use Rattle.vax_core.specs.declared.operand.Operand.{Operand}
use Rattle.vax_core.specs.Homes.{home, at_home, argument_home}
use Rattle.vax_target_writing.specs.vax_templates.specs.declared.form.Base.TheVariants as base
use Rattle.vax_target_writing.specs.vax_templates.specs.declared.form.Base.{Base as FormBase}
use Rattle.vax_target_writing.specs.vax_templates.specs.declared.form.Form.{Form}
use Rattle.vax_target_writing.specs.vax_templates.specs.declared.setting.Hole.{Hole}
use Rattle.vax_target_writing.specs.vax_templates.specs.declared.setting.Hole.TheVariants as hole_kind
use Rattle.vax_target_writing.specs.vax_templates.specs.declared.setting.Own.{Own}
use Rattle.vax_target_writing.specs.vax_templates.specs.declared.setting.Own.TheVariants as own
use Rattle.vax_target_writing.specs.vax_templates.specs.declared.setting.Opening.{Opening}
use Rattle.vax_target_writing.specs.vax_templates.specs.declared.setting.Opening.TheVariants as opening
use Rattle.vax_target_writing.specs.vax_templates.specs.declared.setting.Setting.{Setting}
use Rattle.vax_target_writing.specs.vax_templates.specs.Settings.{hole_of_token, hole_of_kind, hole_of, holes_of, hole_or_other, hole_at, own_of, opening_by, setting_of}
use Rattle.vax_target_writing.specs.vax_templates.specs.FrameWords.{word_behind}
use Rattle.vax_target_writing.specs.vax_templates.specs.Instructions.{shape_of_pieces}
use Rattle.vax_target_writing.specs.vax_templates.specs.Standing.{Where, Immediate, Register, OwnRegister, RegisterZero, Value, Place, Local}
use Rattle.vax_target_writing.specs.vax_templates.specs.Standing.{SavedPlace, Saved, At, ◌>>=◌, where_own, where_hole, where_zero}
use Rattle.vax_target_writing.specs.vax_templates.specs.Standing.{where_deferred, at, displaced, pointed, negated, itself, where_base, moved}
use Rattle.vax_target_writing.specs.vax_templates.specs.Standing.{where_indexed, form_where}
use Rattle.vax_target_writing.specs.vax_templates.specs.HoleTerms.{constant_of, register_of, own_value, register_term, number_term}
use Rattle.vax_target_writing.specs.vax_templates.specs.HoleTerms.{absolute_term}
use Rattle.vax_target_writing.specs.vax_templates.specs.Taking.{fetched}
use Rattle.vax_target_writing.specs.vax_templates.specs.Progress.{Progress, start, at_line, lines_judged}
use Rattle.vax_target_writing.specs.vax_templates.specs.GiveLines.{given_line, register_given, base_number, number_given, address_given}
use Rattle.vax_target_writing.specs.vax_templates.specs.GiveLines.{value_given, place_given, without_index, shape_given, shape_read}
use Rattle.vax_target_writing.specs.vax_templates.specs.GiveLines.{given_shape}
use Rattle.vax_target_writing.specs.vax_templates.specs.Found.{ended, template_found, checked, with_divisors, found}
use Rattle.vax_target_writing.specs.vax_templates.specs.Filled.{alone, spare, numbered, register_in, attr_at, addr_in, addr_number, number_addr, object_addr, word_operand, slot_operand}
use Rattle.vax_target_writing.specs.vax_templates.specs.Filled.{slot_deferred, argument_deferred, operand_in, deferred_in, filled_base, with_index, filled, filled_or_spare, filled_operand}
use Rattle.vax_target_writing.specs.vax_target_meaning.specs.Vax.{vax}
use Rattle.vax_target_writing.specs.vax_target_meaning.proofs.Own.{attr_alone}
use Rattle.vax_target_writing.proofs.Each.{EachOk, bind_each, always_ok, still_ok, of_ok}
use Rattle.vax_target_writing.proofs.Given.{at_its_line}
use Rattle.vax_target_spelling.proofs.Own.{names_at, base_at, touches_is}

-- ---- operands that touch nothing, and those that touch what a register touches

imm_touches : (a : Addr) (s : Spot) → touches vax (alone (bases.Imm a)) s ≡ true → ⊥
imm_touches a (RegAt n) e = false≢true (sym (touches_is (alone (bases.Imm a)) (RegAt n)) ∙ e)
imm_touches a (WordAt w) e = false≢true e

abs_touches : (n : ℕ) (s : Spot) → touches vax (alone (bases.Abs n)) s ≡ true → ⊥
abs_touches n (RegAt k) e = false≢true (sym (touches_is (alone (bases.Abs n)) (RegAt k)) ∙ e)
abs_touches n (WordAt w) e = false≢true e

rel_touches : (a : Addr) (s : Spot) → touches vax (alone (bases.Rel a)) s ≡ true → ⊥
rel_touches a (RegAt n) e = false≢true (sym (touches_is (alone (bases.Rel a)) (RegAt n)) ∙ e)
rel_touches a (WordAt w) e = false≢true e

reldef_touches : (a : Addr) (s : Spot) → touches vax (alone (bases.RelDef a)) s ≡ true → ⊥
reldef_touches a (RegAt n) e = false≢true (sym (touches_is (alone (bases.RelDef a)) (RegAt n)) ∙ e)
reldef_touches a (WordAt w) e = false≢true e

def_touches : (r : Reg) (s : Spot) → touches vax (alone (bases.Def r)) s ≡ true → touches vax (alone (bases.Reg r)) s ≡ true
def_touches r (RegAt n) e = e
def_touches r (WordAt w) e = absurd (false≢true e)

-- only fp stands before a word of the frame
no_word : (n : ℕ) (a : Addr) → n < 12 → word_behind (numbered n) a ≡ None
no_word zero a lt = refl
no_word (suc zero) a lt = refl
no_word (suc (suc zero)) a lt = refl
no_word (suc (suc (suc zero))) a lt = refl
no_word (suc (suc (suc (suc zero)))) a lt = refl
no_word (suc (suc (suc (suc (suc zero))))) a lt = refl
no_word (suc (suc (suc (suc (suc (suc zero)))))) a lt = refl
no_word (suc (suc (suc (suc (suc (suc (suc zero))))))) a lt = refl
no_word (suc (suc (suc (suc (suc (suc (suc (suc zero)))))))) a lt = refl
no_word (suc (suc (suc (suc (suc (suc (suc (suc (suc zero))))))))) a lt = refl
no_word (suc (suc (suc (suc (suc (suc (suc (suc (suc (suc zero)))))))))) a lt = refl
no_word (suc (suc (suc (suc (suc (suc (suc (suc (suc (suc (suc zero))))))))))) a lt = refl
no_word (suc (suc (suc (suc (suc (suc (suc (suc (suc (suc (suc (suc n)))))))))))) a lt = absurd (omega arith)

disp_touches : (n : ℕ) (a : Addr) (s : Spot) → n < 12 → touches vax (alone (bases.Disp a (numbered n))) s ≡ true → touches vax (alone (bases.Reg (numbered n))) s ≡ true
disp_touches n a (RegAt k) lt e = e
disp_touches n a (WordAt w) lt e = absurd (false≢true (ap (λ o. is_word o w) (sym (no_word n a lt)) ∙ e))

dispdef_touches : (n : ℕ) (a : Addr) (s : Spot) → n < 12 → touches vax (alone (bases.DispDef a (numbered n))) s ≡ true → touches vax (alone (bases.Reg (numbered n))) s ≡ true
dispdef_touches n a (RegAt k) lt e = e
dispdef_touches n a (WordAt w) lt e = absurd (false≢true (ap (λ o. is_word o w) (sym (no_word n a lt)) ∙ e))

indexed_touches : (o : Operand) (r : Reg) (s : Spot) (P : Type 0) → touches vax (record o { index = Some r }) s ≡ true →
    (touches vax o s ≡ true → P) → (touches vax (alone (bases.Reg r)) s ≡ true → P) → P
indexed_touches o r s P e f g =
    either_is (base_at o.base s) (names_at (Some r) s) (sym (touches_is (record o { index = Some r }) s) ∙ e)
    (λ b. f (touches_is o s ∙ or_left (base_at o.base s) (names_at o.index s) b))
    (λ n. g (touches_is (alone (bases.Reg r)) s ∙ as_register s n)) where
      as_register : (s : Spot) → names_at (Some r) s ≡ true → (base_at (bases.Reg r) s || names_at None s) ≡ true
      as_register (RegAt n) e = or_left _ false e
      as_register (WordAt w) e = absurd (false≢true e)

-- ---- what holes touch

-- the operand of an attribute touches what the attribute touches
abbrev pub TouchesAlike : Operand → Attr Operand → Type 0
TouchesAlike o a = (s : Spot) → touches vax o s ≡ true → attr_touches vax a s ≡ true

pub record IsRegister (a : Attr Operand) : Type 0 where
  pub number : ℕ
  pub below : number < 12
  pub is : a ≡ attr.Reg number

pub record IsPointer (q : TreeProgram) (a : Attr Operand) : Type 0 where
  pub place : TouchesAlike (operand_in q a) a
  pub deferred : TouchesAlike (deferred_in q a) a

abbrev pub Tells : TreeProgram → Hole → Attr Operand → Type 0
Tells q hole_kind.Register a = IsRegister a
Tells q (hole_kind.Value z) a = TouchesAlike (operand_in q a) a
Tells q (hole_kind.Place z) a = TouchesAlike (operand_in q a) a
Tells q hole_kind.Local a = IsPointer q a
Tells q (hole_kind.SavedPlace z) a = TouchesAlike (operand_in q a) a
Tells q hole_kind.Address a = TouchesAlike (operand_in q a) a
Tells q hole_kind.Constant a = TouchesAlike (operand_in q a) a
Tells q (hole_kind.Literal n) a = TouchesAlike (operand_in q a) a
Tells q hole_kind.Object a = IsPointer q a
Tells q hole_kind.Saved a = Unit {0}
Tells q hole_kind.Relation a = Unit {0}
Tells q hole_kind.Other a = Unit {0}

abbrev pub AllTell : TreeProgram → List Hole → List (Attr Operand) → Type 0
AllTell q [] [] = Unit {0}
AllTell q [] (a ∷ hs) = ⊥
AllTell q (h ∷ hs') [] = ⊥
AllTell q (h ∷ hs') (a ∷ hs) = Tells q h a × AllTell q hs' hs

number_tells : (q : TreeProgram) (x : Tok) (a : Att) (n : ℕ) → a ≡ att.Number n → TouchesAlike (operand_in q (attr.Token (record { tok = x; att = a }))) (attr.Token (record { tok = x; att = a }))
number_tells q x a n is s e = absurd (imm_touches (addr_number n) s (ap (λ b. touches vax (operand_in q (attr.Token (record { tok = x; att = b }))) s) (sym is) ∙ e))

own_tells : (q : TreeProgram) (x : Tok) (k : ℕ) (a : Att) → is_of_kind (att_kind.Own k) a ≡ true →
    TouchesAlike (operand_in q (attr.Token (record { tok = x; att = a }))) (attr.Token (record { tok = x; att = a }))
own_tells q x k (att.Number n) f = number_tells q x (att.Number n) n refl
own_tells q x k _ f = absurd (cc)

other_tells : (q : TreeProgram) (x : Tok) (a : Att) → is_of_kind att_kind.Other a ≡ true →
    TouchesAlike (operand_in q (attr.Token (record { tok = x; att = a }))) (attr.Token (record { tok = x; att = a }))
other_tells q x (att.Number n) f = number_tells q x (att.Number n) n refl
other_tells q x _ f = absurd (cc)

object_tells : (q : TreeProgram) (x : Tok) (a : Att) → is_of_kind att_kind.Object a ≡ true → IsPointer q (attr.Token (record { tok = x; att = a }))
object_tells q x (att.Object object offset) f = record {
  place = λ s e. absurd (rel_touches (object_addr q object offset) s e);
  deferred = λ s e. absurd (reldef_touches (object_addr q object offset) s e);
}
object_tells q x _ f = absurd (cc)

at_home_touches : (k : ℕ) (s : Spot) → touches vax (at_home k) s ≡ true → touches vax (home k) s ≡ true
at_home_touches k (RegAt n) e = e
at_home_touches k (WordAt w) e = e

word_deferred_touches : (k : ℕ) (s : Spot) → touches vax (slot_deferred tok.Loc k) s ≡ true → touches vax (word_operand k) s ≡ true
word_deferred_touches k s e = by (nat_lt k 1024) e where
  by : (b : Bool) → touches vax (cond b (at_home k) spare) s ≡ true → touches vax (cond b (home k) spare) s ≡ true
  by true e = at_home_touches k s e
  by false e = e

argument_at_touches : (k : ℕ) (s : Spot) → touches vax (argument_deferred k) s ≡ true → touches vax (argument_home k) s ≡ true
argument_at_touches k (RegAt n) e = e
argument_at_touches k (WordAt w) e = e

argument_deferred_touches : (k : ℕ) (s : Spot) → touches vax (slot_deferred tok.Arg k) s ≡ true → touches vax (slot_operand tok.Arg k) s ≡ true
argument_deferred_touches k s e = by (nat_le k 255) e where
  by : (b : Bool) → touches vax (cond b (argument_deferred k) spare) s ≡ true → touches vax (cond b (argument_home k) spare) s ≡ true
  by true e = argument_at_touches k s e
  by false e = e

local_tells : (q : TreeProgram) (a : Att) → is_of_kind att_kind.Local a ≡ true → IsPointer q (attr.Token (record { tok = tok.Loc; att = a }))
local_tells q (att.Slot k) f = record { place = λ s e. e; deferred = word_deferred_touches k }
local_tells q _ f = absurd (cc)

argument_tells : (q : TreeProgram) (a : Att) → is_of_kind att_kind.Argument a ≡ true → IsPointer q (attr.Token (record { tok = tok.Arg; att = a }))
argument_tells q (att.Slot k) f = record { place = λ s e. e; deferred = argument_deferred_touches k }
argument_tells q _ f = absurd (cc)

token_tells : (q : TreeProgram) (x : Tok) (a : Att) → is_of_kind (attribute_of x) a ≡ true → Tells q (hole_of_token x) (attr.Token (record { tok = x; att = a }))
token_tells q tok.Zero a f = own_tells q tok.Zero 0 a f
token_tells q tok.One a f = own_tells q tok.One 1 a f
token_tells q tok.Two a f = own_tells q tok.Two 2 a f
token_tells q tok.Four a f = own_tells q tok.Four 4 a f
token_tells q tok.Eight a f = own_tells q tok.Eight 8 a f
token_tells q tok.Const a f = other_tells q tok.Const a f
token_tells q tok.Gaddr a f = object_tells q tok.Gaddr a f
token_tells q tok.Loc a f = local_tells q a f
token_tells q tok.Arg a f = argument_tells q a f
token_tells q x a f = tt

class_tells : (q : TreeProgram) (k : Option Kind) (h : Attr Operand) → KindFits vax k h → Tells q (hole_of_kind k) h
class_tells q None h f = absurd f
class_tells q (Some kind.Reg) (attr.Reg r) f = record { number = r; below = f; is = refl }
class_tells q (Some (kind.Value z)) (attr.Value o) f = λ s e. e
class_tells q (Some (kind.Place z)) (attr.Place o) f = λ s e. e
class_tells q (Some kind.Con) (attr.Con n) f = λ s e. absurd (imm_touches (addr_number n) s e)
class_tells q (Some kind.Ea) (attr.Ea o) f = λ s e. e
class_tells q (Some kind.Nothing) h f = tt
class_tells q (Some k) h f = absurd f

symbol_tells : (q : TreeProgram) (classes : List Class) (x : Sym) (h : Attr Operand) → SymFits vax classes x h → Tells q (hole_of classes x) h
symbol_tells q classes (grammar_symbol.Class c) h f = class_tells q (kind_at classes c) h f
symbol_tells q classes (grammar_symbol.Tok x) (attr.Token l) f = subst (λ y. Tells q (hole_of_token y) (attr.Token l)) f.0 (token_tells q l.tok l.att f.1)
symbol_tells q classes (grammar_symbol.Tok x) h f = absurd f

all_tell : (q : TreeProgram) (classes : List Class) (right : List Sym) (hs : List (Attr Operand)) → Fit vax classes right hs → AllTell q (holes_of classes right) hs
all_tell q classes [] [] f = tt
all_tell q classes [] (h ∷ hs) f = absurd f
all_tell q classes (x ∷ right) [] f = absurd f
all_tell q classes (x ∷ right) (h ∷ hs) f = (symbol_tells q classes x h f.0, all_tell q classes right hs f.1)

tells_nth : (q : TreeProgram) (hs' : List Hole) (hs : List (Attr Operand)) (k : ℕ) → AllTell q hs' hs →
    Tells q (hole_or_other (slice_get hs' k)) (unwrap_or (slice_get hs k) attr.Nothing)
tells_nth q [] [] k h = tt
tells_nth q [] (a ∷ hs) k h = absurd h
tells_nth q (x ∷ hs') [] k h = absurd h
tells_nth q (x ∷ hs') (a ∷ hs) zero h = h.0
tells_nth q (x ∷ hs') (a ∷ hs) (suc k) h = tells_nth q hs' hs k h.1

any_nth : (s : Spot) (hs : List (Attr Operand)) (k : ℕ) → attr_touches vax (unwrap_or (slice_get hs k) attr.Nothing) s ≡ true → list_any (λ h. attr_touches vax h s) hs ≡ true
any_nth s [] k e = absurd (false≢true e)
any_nth s (h ∷ hs) zero e = or_left (attr_touches vax h s) (list_any (λ g. attr_touches vax g s) hs) e
any_nth s (h ∷ hs) (suc k) e = or_right (attr_touches vax h s) (list_any (λ g. attr_touches vax g s) hs) (any_nth s hs k e)

-- ---- where shapes stand

module _ (q : TreeProgram) (set : Setting) (hs' : List Hole) (hs : List (Attr Operand)) (s : Spot) (tell : AllTell q hs' hs)
    (no_own : set.own ≡ own.Nothing) (other : set.opening ≡ opening.Other) where
  -- some hole touches it
  abbrev Somewhere : Type 0
  Somewhere = list_any (λ h. attr_touches vax h s) hs ≡ true

  abbrev Touches : Operand → Type 0
  Touches o = touches vax o s ≡ true → Somewhere

  abbrev Told : Where → Operand → Type 0
  Told (Immediate t) o = Touches o
  Told (Register t) o = Touches o
  Told OwnRegister o = Touches o
  Told RegisterZero o = Touches o
  Told (Value z i) o = Touches o
  Told (Place z i) o = Touches o
  Told (Local i) o = Touches o
  Told (SavedPlace z i) o = Touches o
  Told (Saved i) o = Unit {0}
  Told (At a p) o = Touches o

  hole_touches : (i : ℕ) → attr_touches vax (attr_at hs attr.Nothing i) s ≡ true → Somewhere
  hole_touches i e = by (i == 0) e where
    by : (b : Bool) → attr_touches vax (cond b attr.Nothing (unwrap_or (slice_get hs (i - 1)) attr.Nothing)) s ≡ true → Somewhere
    by true e = absurd (false≢true e)
    by false e = any_nth s hs (i - 1) e

  -- a hole's register
  abbrev IsRegisterAt : ℕ → Type 0
  IsRegisterAt i = IsRegister (attr_at hs attr.Nothing i)

  register_hole : (h : Hole) (i : ℕ) (a : Attr Operand) → Tells q h a → EachOk (λ (t : Shape). IsRegister a) (register_of h i)
  register_hole hole_kind.Register i a k = k
  register_hole (hole_kind.Value z) i a k = tt
  register_hole (hole_kind.Place z) i a k = tt
  register_hole hole_kind.Local i a k = tt
  register_hole (hole_kind.SavedPlace z) i a k = tt
  register_hole hole_kind.Address i a k = tt
  register_hole hole_kind.Constant i a k = tt
  register_hole (hole_kind.Literal n) i a k = tt
  register_hole hole_kind.Object i a k = tt
  register_hole hole_kind.Saved i a k = tt
  register_hole hole_kind.Relation i a k = tt
  register_hole hole_kind.Other i a k = tt

  no_value : (P : Shape → Type 0) (o : Own) → EachOk P (own_value o None)
  no_value P own.Nothing = tt
  no_value P own.Register = tt
  no_value P (own.Slot z) = tt

  register_at : (i : ℕ) → EachOk (λ (t : Shape). IsRegisterAt i) (register_term set hs' None i)
  register_at i = by (i == 0) where
    by : (b : Bool) → EachOk (λ (t : Shape). IsRegister (cond b attr.Nothing (unwrap_or (slice_get hs (i - 1)) attr.Nothing)))
        (cond b (own_value set.own None) (register_of (cond b hole_kind.Other (hole_or_other (slice_get hs' (i - 1)))) i))
    by true = no_value _ set.own
    by false = register_hole (hole_or_other (slice_get hs' (i - 1))) i (unwrap_or (slice_get hs (i - 1)) attr.Nothing) (tells_nth q hs' hs (i - 1) tell)

  -- its register touches what the hole touches
  register_touches : (i : ℕ) (r : IsRegisterAt i) → touches vax (alone (bases.Reg (numbered r.number))) s ≡ true → Somewhere
  register_touches i r e = hole_touches i (ap (λ a. attr_touches vax a s) r.is ∙ e)

  register_is : (i : ℕ) (r : IsRegisterAt i) → register_in (attr_at hs attr.Nothing i) ≡ numbered r.number
  register_is i r = ap register_in r.is

  by_register : (i : ℕ) (made : Reg → Operand) → ((n : ℕ) → n < 12 → touches vax (made (numbered n)) s ≡ true → touches vax (alone (bases.Reg (numbered n))) s ≡ true) →
      IsRegisterAt i → Touches (made (register_in (attr_at hs attr.Nothing i)))
  by_register i made h r e = register_touches i r (h r.number r.below (ap (λ x. touches vax (made x) s) (sym (register_is i r)) ∙ e))

  own_told : (o : Own) (x : Operand) → o ≡ own.Nothing → EachOk (λ w. Told w x) (where_own o)
  own_told own.Nothing x e = tt
  own_told own.Register x e = absurd (cc)
  own_told (own.Slot z) x e = absurd (cc)

  zero_told : (o : Opening) (x : Operand) → o ≡ opening.Other → EachOk (λ w. Told w x) (where_zero o)
  zero_told opening.Other x e = tt
  zero_told opening.Save x e = absurd (cc)
  zero_told opening.Return x e = absurd (cc)

  symbol_told : (h : Hole) (i : ℕ) (a : Attr Operand) → Tells q h a → (attr_touches vax a s ≡ true → Somewhere) → EachOk (λ w. Told w (operand_in q a)) (where_hole h i)
  symbol_told hole_kind.Register i a k f = λ e. f (ap (λ b. attr_touches vax b s) k.is ∙ (ap (λ b. touches vax (operand_in q b) s) (sym k.is) ∙ e))
  symbol_told (hole_kind.Value z) i a k f = λ e. f (k s e)
  symbol_told (hole_kind.Place z) i a k f = λ e. f (k s e)
  symbol_told hole_kind.Local i a k f = λ e. f (k.place s e)
  symbol_told (hole_kind.SavedPlace z) i a k f = λ e. f (k s e)
  symbol_told hole_kind.Address i a k f = λ e. f (k s e)
  symbol_told hole_kind.Constant i a k f = tt
  symbol_told (hole_kind.Literal n) i a k f = tt
  symbol_told hole_kind.Object i a k f = λ e. f (k.place s e)
  symbol_told hole_kind.Saved i a k f = tt
  symbol_told hole_kind.Relation i a k f = tt
  symbol_told hole_kind.Other i a k f = tt

  hole_told : (i : ℕ) → EachOk (λ w. Told w (operand_in q (attr_at hs attr.Nothing i))) (cond (i == 0) (where_own set.own) (where_hole (hole_at hs' i) i))
  hole_told i = by (i == 0) where
    by : (b : Bool) → EachOk (λ w. Told w (operand_in q (cond b attr.Nothing (unwrap_or (slice_get hs (i - 1)) attr.Nothing))))
        (cond b (where_own set.own) (where_hole (cond b hole_kind.Other (hole_or_other (slice_get hs' (i - 1)))) i))
    by true = own_told set.own (operand_in q attr.Nothing) no_own
    by false = symbol_told (hole_or_other (slice_get hs' (i - 1))) i (unwrap_or (slice_get hs (i - 1)) attr.Nothing) (tells_nth q hs' hs (i - 1) tell) (any_nth s hs (i - 1))

  pointer_told : (h : Hole) (i : ℕ) (a : Attr Operand) → Tells q h a → (attr_touches vax a s ≡ true → Somewhere) → EachOk (λ w. Told w (deferred_in q a)) (where_deferred h i)
  pointer_told hole_kind.Register i a k f = tt
  pointer_told (hole_kind.Value z) i a k f = tt
  pointer_told (hole_kind.Place z) i a k f = tt
  pointer_told hole_kind.Local i a k f = λ e. f (k.deferred s e)
  pointer_told (hole_kind.SavedPlace z) i a k f = tt
  pointer_told hole_kind.Address i a k f = tt
  pointer_told hole_kind.Constant i a k f = tt
  pointer_told (hole_kind.Literal n) i a k f = tt
  pointer_told hole_kind.Object i a k f = λ e. f (k.deferred s e)
  pointer_told hole_kind.Saved i a k f = tt
  pointer_told hole_kind.Relation i a k f = tt
  pointer_told hole_kind.Other i a k f = tt

  deferred_told : (i : ℕ) → EachOk (λ w. Told w (deferred_in q (attr_at hs attr.Nothing i))) (where_deferred (hole_at hs' i) i)
  deferred_told i = by (i == 0) where
    by : (b : Bool) → EachOk (λ w. Told w (deferred_in q (cond b attr.Nothing (unwrap_or (slice_get hs (i - 1)) attr.Nothing))))
        (where_deferred (cond b hole_kind.Other (hole_or_other (slice_get hs' (i - 1)))) i)
    by true = tt
    by false = pointer_told (hole_or_other (slice_get hs' (i - 1))) i (unwrap_or (slice_get hs (i - 1)) attr.Nothing) (tells_nth q hs' hs (i - 1) tell) (any_nth s hs (i - 1))

  untouched : (o : Operand) → (touches vax o s ≡ true → ⊥) → (w : Where) → Told w o
  untouched o h (Immediate t) = λ e. absurd (h e)
  untouched o h (Register t) = λ e. absurd (h e)
  untouched o h OwnRegister = λ e. absurd (h e)
  untouched o h RegisterZero = λ e. absurd (h e)
  untouched o h (Value z i) = λ e. absurd (h e)
  untouched o h (Place z i) = λ e. absurd (h e)
  untouched o h (Local i) = λ e. absurd (h e)
  untouched o h (SavedPlace z i) = λ e. absurd (h e)
  untouched o h (Saved i) = tt
  untouched o h (At a p) = λ e. absurd (h e)

  each_told : (o : Operand) → (touches vax o s ≡ true → ⊥) → (r : Result Where TemplateKind) → EachOk (λ w. Told w o) r
  each_told o h (Ok w) = untouched o h w
  each_told o h (Err e) = tt

  base_register : (i : ℕ) (d : Result Shape TemplateKind) → EachOk (λ (t : Shape). IsRegisterAt i) (displaced d (register_term set hs' None i))
  base_register i (Ok a) = by (register_term set hs' None i) (register_at i) where
    by : (r : Result Shape TemplateKind) → EachOk (λ (t : Shape). IsRegisterAt i) r → EachOk (λ (t : Shape). IsRegisterAt i) (displaced (Ok a) r)
    by (Ok b) h = h
    by (Err e) h = tt
  base_register i (Err e) = tt

  base_told : (b : FormBase) → EachOk (λ w. Told w (filled_base q hs attr.Nothing b)) (where_base set hs' None b)
  unfolding where_base filled_base
  base_told base.RegisterZero = zero_told set.opening _ other
  base_told (base.Hole i) = hole_told i
  base_told (base.Immediate n) =
      each_told (alone (bases.Imm (number_addr q hs attr.Nothing n))) (imm_touches (number_addr q hs attr.Nothing n) s) (number_term hs' n >>= itself)
  base_told (base.Negative i) =
      each_told (alone (bases.Imm (addr_number (neg32 (addr_in q (attr_at hs attr.Nothing i)).offset)))) (imm_touches (addr_number (neg32 (addr_in q (attr_at hs attr.Nothing i)).offset)) s)
      (constant_of (hole_at hs' i) i >>= negated)
  base_told (base.RegisterDeferred i) =
      bind_each (λ (t : Shape). IsRegisterAt i) (λ w. Told w (alone (bases.Def (register_in (attr_at hs attr.Nothing i))))) (register_term set hs' None i) at
      (λ t r. by_register i (λ x. alone (bases.Def x)) (λ n lt e. def_touches (numbered n) s e) r) (register_at i)
  base_told (base.Displacement n i) =
      bind_each (λ (t : Shape). IsRegisterAt i) (λ w. Told w (alone (bases.Disp (number_addr q hs attr.Nothing n) (register_in (attr_at hs attr.Nothing i)))))
      (displaced (number_term hs' n) (register_term set hs' None i)) at
      (λ t r. by_register i (λ x. alone (bases.Disp (number_addr q hs attr.Nothing n) x)) (λ k lt e. disp_touches k (number_addr q hs attr.Nothing n) s lt e) r)
      (base_register i (number_term hs' n))
  base_told (base.DisplacementDeferred n i) =
      bind_each (λ (t : Shape). IsRegisterAt i) (λ w. Told w (alone (bases.DispDef (number_addr q hs attr.Nothing n) (register_in (attr_at hs attr.Nothing i)))))
      (displaced (number_term hs' n) (register_term set hs' None i)) pointed
      (λ t r. by_register i (λ x. alone (bases.DispDef (number_addr q hs attr.Nothing n) x)) (λ k lt e. dispdef_touches k (number_addr q hs attr.Nothing n) s lt e) r)
      (base_register i (number_term hs' n))
  base_told (base.Absolute n) =
      each_told (alone (bases.Abs (number_addr q hs attr.Nothing n).offset)) (abs_touches (number_addr q hs attr.Nothing n).offset s) (absolute_term hs' n >>= at)
  base_told (base.Deferred i) = deferred_told i

  indexed_told : (x : Option ℕ) (size : Size) (o : Operand) (w : Where) → Told w o → EachOk (λ w. Told w (with_index hs attr.Nothing x o)) (where_indexed set hs' None x size w)
  indexed_told None size o w h = h
  indexed_told (Some i) size o w h =
      bind_each (λ (t : Shape). IsRegisterAt i) (λ w. Told w (record o { index = Some (register_in (attr_at hs attr.Nothing i)) })) (register_term set hs' None i) (moved size w)
      (λ t r. moves w t h r) (register_at i) where
        moves : (w : Where) (t : Shape) → Told w o → IsRegisterAt i → EachOk (λ w. Told w (record o { index = Some (register_in (attr_at hs attr.Nothing i)) })) (moved size w t)
        moves (Immediate y) t h r = tt
        moves (Register y) t h r = tt
        moves OwnRegister t h r = tt
        moves RegisterZero t h r = tt
        moves (Value z j) t h r = tt
        moves (Place z j) t h r = tt
        moves (Local j) t h r = tt
        moves (SavedPlace z j) t h r = tt
        moves (Saved j) t h r = tt
        moves (At a p) t h r = λ e. indexed_touches o (register_in (attr_at hs attr.Nothing i)) s Somewhere e h
            (by_register i (λ x. alone (bases.Reg x)) (λ n lt e. e) r)

  form_told : (f : Form) (size : Size) → EachOk (λ w. Told w (filled q hs attr.Nothing f)) (form_where set hs' None f size)
  unfolding form_where
  form_told f size =
      bind_each (λ w. Told w (filled_base q hs attr.Nothing f.base)) (λ w. Told w (filled q hs attr.Nothing f)) (where_base set hs' None f.base)
      (where_indexed set hs' None f.index size) (λ w h. indexed_told f.index size (filled_base q hs attr.Nothing f.base) w h) (base_told f.base)

  -- what isn't the local of the last call's result
  given_told : {B : Type 0} (o : Operand) (g : Where → Result B TemplateKind) → ((i : ℕ) → EachOk (λ (x : B). Touches o) (g (Saved i))) → (w : Where) → Told w o →
      EachOk (λ (x : B). Touches o) (g w)
  given_told o g h (Immediate t) k = always_ok (g (Immediate t)) k
  given_told o g h (Register t) k = always_ok (g (Register t)) k
  given_told o g h OwnRegister k = always_ok (g OwnRegister) k
  given_told o g h RegisterZero k = always_ok (g RegisterZero) k
  given_told o g h (Value z i) k = always_ok (g (Value z i)) k
  given_told o g h (Place z i) k = always_ok (g (Place z i)) k
  given_told o g h (Local i) k = always_ok (g (Local i)) k
  given_told o g h (SavedPlace z i) k = always_ok (g (SavedPlace z i)) k
  given_told o g h (Saved i) k = h i
  given_told o g h (At a p) k = always_ok (g (At a p)) k

  by_form : (f : Form) (size : Size) (g : Where → Result ActShape TemplateKind) → ((i : ℕ) → EachOk (λ (x : ActShape). Touches (filled q hs attr.Nothing f)) (g (Saved i))) →
      EachOk (λ (x : ActShape). Touches (filled q hs attr.Nothing f)) (form_where set hs' None f size >>= g)
  by_form f size g h =
      bind_each (λ w. Told w (filled q hs attr.Nothing f)) (λ (x : ActShape). Touches (filled q hs attr.Nothing f)) (form_where set hs' None f size) g
      (given_told (filled q hs attr.Nothing f) g h) (form_told f size)

  constant_told : (h : Hole) (i : ℕ) (a : Attr Operand) → Tells q h a → (attr_touches vax a s ≡ true → Somewhere) → EachOk (λ (t : Shape). Touches (operand_in q a)) (constant_of h i)
  constant_told hole_kind.Register i a k f = tt
  constant_told (hole_kind.Value z) i a k f = tt
  constant_told (hole_kind.Place z) i a k f = tt
  constant_told hole_kind.Local i a k f = tt
  constant_told (hole_kind.SavedPlace z) i a k f = tt
  constant_told hole_kind.Address i a k f = tt
  constant_told hole_kind.Constant i a k f = λ e. f (k s e)
  constant_told (hole_kind.Literal n) i a k f = λ e. f (k s e)
  constant_told hole_kind.Object i a k f = tt
  constant_told hole_kind.Saved i a k f = tt
  constant_told hole_kind.Relation i a k f = tt
  constant_told hole_kind.Other i a k f = tt

  constant_at : (i : ℕ) → EachOk (λ (t : Shape). Touches (operand_in q (attr_at hs attr.Nothing i))) (constant_of (hole_at hs' i) i)
  constant_at i = by (i == 0) where
    by : (b : Bool) → EachOk (λ (t : Shape). Touches (operand_in q (cond b attr.Nothing (unwrap_or (slice_get hs (i - 1)) attr.Nothing))))
        (constant_of (cond b hole_kind.Other (hole_or_other (slice_get hs' (i - 1)))) i)
    by true = tt
    by false = constant_told (hole_or_other (slice_get hs' (i - 1))) i (unwrap_or (slice_get hs (i - 1)) attr.Nothing) (tells_nth q hs' hs (i - 1) tell) (any_nth s hs (i - 1))

  number_told : (b : FormBase) → EachOk (λ (x : ActShape). Touches (filled_base q hs attr.Nothing b)) (base_number hs' b)
  unfolding filled_base
  number_told (base.Hole i) = still_ok _ (constant_of (hole_at hs' i) i) number_given (constant_at i)
  number_told base.RegisterZero = tt
  number_told (base.Immediate n) = tt
  number_told (base.Negative i) = tt
  number_told (base.RegisterDeferred i) = tt
  number_told (base.Displacement n i) = tt
  number_told (base.DisplacementDeferred n i) = tt
  number_told (base.Absolute n) = tt
  number_told (base.Deferred i) = tt

  con_told : (b : FormBase) (x : Option ℕ) → EachOk (λ (y : ActShape). Touches (with_index hs attr.Nothing x (filled_base q hs attr.Nothing b)))
      (without_index (record { base = b; index = x }) (base_number hs' b))
  con_told b None = number_told b
  con_told b (Some i) = tt

  ea_told : (b : FormBase) (x : Option ℕ) → EachOk (λ (y : ActShape). Touches (filled q hs attr.Nothing (record { base = b; index = x })))
      (without_index (record { base = b; index = x }) (form_where set hs' None (record { base = b; index = x }) Byte >>= address_given))
  ea_told b None = by_form (record { base = b; index = None }) Byte address_given (λ i. tt)
  ea_told b (Some i) = tt

  shape_told : (k : Option Kind) (f : Form) → EachOk (λ (x : ActShape). Touches (filled q hs attr.Nothing f)) (shape_given set hs' k f)
  unfolding shape_given fetched
  shape_told (Some kind.Reg) f = by_form f Long register_given (λ i. tt)
  shape_told (Some kind.Con) f = con_told f.base f.index
  shape_told (Some kind.Ea) f = ea_told f.base f.index
  shape_told (Some (kind.Value z)) f = by_form f z (λ (w : Where). fetched set None w z >>= value_given) (λ i. tt)
  shape_told (Some (kind.Place z)) f = by_form f z (place_given z) (λ i. tt)
  shape_told (Some kind.Nothing) f = tt
  shape_told None f = tt

  pieces_told : (k : Option Kind) (o : Option Form) → EachOk (λ (x : ActShape). Touches (filled_or_spare q hs o)) (shape_read o >>= shape_given set hs' k)
  pieces_told k None = tt
  pieces_told k (Some f) = shape_told k f

  template_told : (k : Option Kind) (ls : List Line) (l : Line) (e : EffectShape) → template_found set hs' k ls (give.Shape l) ≡ Ok e → Touches (filled_operand q l.pieces hs)
  unfolding template_found ended
  template_told k ls l e is =
      of_ok (λ (x : EffectShape). Touches (filled_operand q l.pieces hs)) (template_found set hs' k ls (give.Shape l)) e is
      (ends (lines_judged set hs' true start ls)) where
        ends : (r : Result Progress Fault) →
            EachOk (λ (x : EffectShape). Touches (filled_operand q l.pieces hs)) (r >>= ended set hs' k (given_line ls (give.Shape l)) (give.Shape l))
        ends (Ok p) = still_ok _ (at_line (given_line ls (give.Shape l)) (given_shape set hs' k l.pieces)) (λ (deed : ActShape). checked p (with_divisors p deed))
            (at_its_line _ (given_line ls (give.Shape l)) (given_shape set hs' k l.pieces) (pieces_told k (shape_of_pieces l.pieces)))
        ends (Err e) = tt

pub shape_touches : (q : TreeProgram) (classes : List Class) (rule : Rule) (e : EffectShape) (l : Line) (hs : List (Attr Operand)) (s : Spot) →
    vax.effect classes rule ≡ Ok e → rule.give ≡ give.Shape l → Fit vax classes rule.right hs → touches vax (vax.operand q l hs) s ≡ true →
    list_any (λ h. attr_touches vax h s) hs ≡ true
unfolding found
shape_touches q classes rule e l hs s is gives fit =
    template_told q (setting_of classes rule) (holes_of classes rule.right) hs s (all_tell q classes rule.right hs fit) (ap own_of gives)
    (ap (λ g. opening_by g rule.right) gives) (kind_at classes rule.left) rule.lines l e
    (ap (λ g. template_found (setting_of classes rule) (holes_of classes rule.right) (kind_at classes rule.left) rule.lines g) (sym gives) ∙ is)

-- ---- a hole alone

alone_filled : (q : TreeProgram) (i : ℕ) (hs : List (Attr Operand)) → filled_operand q (piece.Hole i ∷ []) hs ≡ operand_in q (attr_at hs attr.Nothing i)
unfolding Rattle.vax_target_writing.specs.vax_templates.specs.Forms.form_front Rattle.vax_target_writing.specs.vax_templates.specs.Forms.base_front Rattle.vax_target_writing.specs.vax_templates.specs.Forms.number_spelled
    Rattle.vax_target_writing.specs.vax_templates.specs.Forms.index_front Rattle.vax_target_writing.specs.vax_templates.specs.Marks.at_front filled_base
alone_filled q i hs = refl

pub nth_is : (hs : List (Attr Operand)) (k : ℕ) → attr_at hs attr.Nothing (suc k) ≡ unwrap_or (slice_get hs k) attr.Nothing
nth_is hs k =
    ap (λ b. cond b attr.Nothing (unwrap_or (slice_get hs (suc k - 1)) attr.Nothing)) (not_zero k)
    ∙ ap (λ n. unwrap_or (slice_get hs n) attr.Nothing) (one_less k)

pub alone_is : (q : TreeProgram) (l : Line) (i : ℕ) (hs : List (Attr Operand)) (h : Attr Operand) (o : Operand) →
    l.pieces ≡ piece.Hole i ∷ [] → hole hs i ≡ Some h → own_operand vax h ≡ Some o → vax.operand q l hs ≡ o
alone_is q l i hs h o e found own = ap (λ ps. filled_operand q ps hs) e ∙ (alone_filled q i hs ∙ nth i found) where
  nth : (i : ℕ) → hole hs i ≡ Some h → operand_in q (attr_at hs attr.Nothing i) ≡ o
  nth zero there = absurd (cc)
  nth (suc k) there = ap (operand_in q) (nth_is hs k) ∙ (ap (λ x. operand_in q (unwrap_or x attr.Nothing)) there ∙ attr_alone q h o own)
