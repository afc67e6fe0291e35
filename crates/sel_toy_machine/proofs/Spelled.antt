-- What the toy machine's operands spell: they are told apart, and touch what they spell.
use Rattle.std.proofs.Common.{◌≡◌, ℕ, zero, suc, ◌^◌, ◌<◌, ◌==◌, List, [], ◌∷◌, Option, Some, None, true, false, refl, sym, ap, ◌∙◌, subst, slice_get}
use Rattle.std.specs.Prelude.{◌↔◌, cond, unwrap_or}
use Rattle.std.specs.List.{list_any}
use Rattle.std.specs.Int.{bit_at}
use Rattle.std.proofs.lemmas.Nat.Bits.{bit_at-zero, bit_at-pow_same}
use Rattle.std.proofs.lemmas.Bool.{eqb-true, lt-ltb, false≢true}
use Rattle.std.proofs.lemmas.Option.{none-some, same_Some}
use Rattle.std.proofs.lemmas.Map.Keys.{any_passes_from_place}
use Rattle.sel_target.specs.sel_terms.proofs.Alike.{number_is}
use Rattle.tree_core.specs.declared.token.Tok.{Tok}
use Rattle.tree_core.specs.declared.tree.Att.{Att}
use Rattle.tree_core.specs.declared.tree.Att.TheVariants as att
use Rattle.tree_core.specs.declared.program.TreeProgram.{TreeProgram}
use Rattle.md_reader_pieces.specs.declared.piece.Line.{Line}
use Rattle.md_reader_pieces.specs.declared.piece.Piece.TheVariants as piece
use Rattle.sel_target.specs.declared.attr.Attr.{Attr}
use Rattle.sel_target.specs.declared.attr.Attr.TheVariants as attr
use Rattle.sel_target.specs.Meaning.{Spot, RegAt, WordAt, touches}
use Rattle.sel_target.specs.Values.{own_operand, slot_place, address_of}
use Rattle.sel_target.specs.Instances.{hole, attr_touches, some_touches}
use Rattle.sel_toy_machine.specs.declared.operand.Operand.{Operand}
use Rattle.sel_toy_machine.specs.declared.operand.Operand.TheVariants.{Register, Based, Word, Deferred, Argument, Number}
use Rattle.sel_toy_machine.specs.declared.form.ShapeForm.{ShapeForm}
use Rattle.sel_toy_machine.specs.declared.form.ShapeForm.TheVariants as shape_form
use Rattle.sel_toy_machine.specs.Machine.{bit_of, same}
use Rattle.sel_toy_machine.specs.Forms.{shape_of}
use Rattle.sel_toy_machine.specs.Filling.{nought, token_operand, operand_of, some_operand, operand_at, based, shaped, operand_filled}
use Rattle.sel_toy_machine.specs.Toy.{toy}

alike : (a b : Operand) → same a b ≡ true → a ≡ b
alike (Register i) (Register j) e = ap Register (eqb-true i j e)
alike (Based i) (Based j) e = ap Based (eqb-true i j e)
alike (Word i) (Word j) e = ap Word (eqb-true i j e)
alike (Deferred i) (Deferred j) e = ap Deferred (eqb-true i j e)
alike (Argument i) (Argument j) e = ap Argument (eqb-true i j e)
alike (Number i) (Number j) e = ap Number (eqb-true i j e)
alike _ _ e = absurd (false≢true e)

itself : (a : Operand) → same a a ≡ true
itself (Register i) = number_is i
itself (Based i) = number_is i
itself (Word i) = number_is i
itself (Deferred i) = number_is i
itself (Argument i) = number_is i
itself (Number i) = number_is i

pub same_is : (a b : Operand) → (same a b ≡ true) ↔ (a ≡ b)
same_is a b = (alike a b, λ e. subst (λ o. same a o ≡ true) e (itself a))

pub own_bit : (r : ℕ) → r < 12 → bit_of r ≡ 2 ^ r
own_bit r lt = ap (λ b. cond b (2 ^ r) 0) (lt-ltb r 12 lt)

-- an operand that spells a register below 12 touches it
pub own_register : (r : ℕ) → r < 12 → (bit_at (bit_of r) r == 1) ≡ true
own_register r lt = ap (λ n. bit_at n r == 1) (own_bit r lt) ∙ ap (λ n. n == 1) (bit_at-pow_same r)

no_bit : (r : ℕ) → (bit_at 0 r == 1) ≡ false
no_bit r = ap (λ n. n == 1) (bit_at-zero r)

-- a number touches nothing
nothing : (s : Spot) → touches toy nought s ≡ true → ⊥
nothing (RegAt r) e = false≢true (sym (no_bit r) ∙ e)
nothing (WordAt w) e = false≢true e

number_nothing : (n : ℕ) (s : Spot) → touches toy (Number n) s ≡ true → ⊥
number_nothing n (RegAt r) e = false≢true (sym (no_bit r) ∙ e)
number_nothing n (WordAt w) e = false≢true e

slot_touches : (o : Option Operand) (s : Spot) → touches toy (unwrap_or o nought) s ≡ true → some_touches toy o s ≡ true
slot_touches None s e = absurd (nothing s e)
slot_touches (Some o) s e = e

token_touches : (q : TreeProgram) (x : Tok) (a : Att) (s : Spot) → touches toy (token_operand q x a) s ≡ true →
    some_touches toy (Rattle.sel_target.specs.Values.token_operand toy x a) s ≡ true
token_touches q x (att.Number n) s e = absurd (number_nothing n s e)
token_touches q x (att.Object object offset) s e = absurd (number_nothing (unwrap_or (address_of (slice_get q.objects object) offset) 0) s e)
token_touches q x (att.Slot k) s e = slot_touches (slot_place Word Argument x k) s e
token_touches q x _ s e = absurd (nothing s e)

of_touches : (q : TreeProgram) (h : Attr Operand) (s : Spot) → touches toy (operand_of q h) s ≡ true → attr_touches toy h s ≡ true
of_touches q (attr.Reg r) s e = e
of_touches q (attr.InSlot w) s e = e
of_touches q (attr.Value o) s e = e
of_touches q (attr.Place o) s e = e
of_touches q (attr.Con n) s e = absurd (number_nothing n s e)
of_touches q (attr.Ea o) s e = e
of_touches q (attr.Token l) s e = token_touches q l.tok l.att s e
of_touches q attr.Nothing s e = absurd (nothing s e)

hole_touches : (q : TreeProgram) (hs : List (Attr Operand)) (i : ℕ) (s : Spot) (o : Option (Attr Operand)) → hole hs i ≡ o →
    touches toy (some_operand q o) s ≡ true → list_any (λ h. attr_touches toy h s) hs ≡ true
hole_touches q hs i s None at e = absurd (nothing s e)
hole_touches q hs zero s (Some h) at e = absurd (none-some h at)
hole_touches q hs (suc i) s (Some h) at e = any_passes_from_place (λ g. attr_touches toy g s) hs i h at (of_touches q h s e)

based_touches : (o : Operand) (s : Spot) → touches toy (based o) s ≡ true → touches toy o s ≡ true
based_touches (Register r) (RegAt k) e = e
based_touches (Register r) (WordAt w) e = absurd (false≢true e)
based_touches _ s e = absurd (nothing s e)

shaped_touches : (q : TreeProgram) (f : ShapeForm) (hs : List (Attr Operand)) (s : Spot) → touches toy (shaped q f hs) s ≡ true →
    list_any (λ h. attr_touches toy h s) hs ≡ true
shaped_touches q (shape_form.Alone i) hs s e = hole_touches q hs i s (hole hs i) refl e
shaped_touches q (shape_form.Based i) hs s e = hole_touches q hs i s (hole hs i) refl (based_touches (operand_at q hs i) s e)

-- a shape touches what its hole touches
pub shape_touches : (q : TreeProgram) (l : Line) (hs : List (Attr Operand)) (s : Spot) → touches toy (operand_filled q l hs) s ≡ true →
    list_any (λ h. attr_touches toy h s) hs ≡ true
shape_touches q l hs s e = shaped_touches q (shape_of l.pieces) hs s e

slot_is : (o : Option Operand) (p : Operand) → o ≡ Some p → unwrap_or o nought ≡ p
slot_is o p e = ap (λ w. unwrap_or w nought) e

token_is : (q : TreeProgram) (x : Tok) (a : Att) (p : Operand) → Rattle.sel_target.specs.Values.token_operand toy x a ≡ Some p → token_operand q x a ≡ p
token_is q x (att.Slot k) p e = slot_is (slot_place Word Argument x k) p e
token_is q x _ p e = absurd (none-some p e)

-- a symbol that is a place has its own operand
pub own_is : (q : TreeProgram) (h : Attr Operand) (p : Operand) → own_operand toy h ≡ Some p → operand_of q h ≡ p
own_is q (attr.Place o) p e = same_Some o p e
own_is q (attr.Token l) p e = token_is q l.tok l.att p e
own_is q _ p e = absurd (none-some p e)

pub alone : (q : TreeProgram) (l : Line) (i : ℕ) (hs : List (Attr Operand)) (h : Attr Operand) (o : Operand) →
    l.pieces ≡ piece.Hole i ∷ [] → hole hs i ≡ Some h → own_operand toy h ≡ Some o → operand_filled q l hs ≡ o
alone q l i hs h o e at own = ap (λ ps. shaped q (shape_of ps) hs) e ∙ (ap (some_operand q) at ∙ own_is q h o own)
