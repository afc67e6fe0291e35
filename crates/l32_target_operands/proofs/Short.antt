-- The numbers that a line's operands spell are longwords.
use Rattle.std.proofs.Common.{ℕ, Some, None, List, [], ◌∷◌, ◌++◌}
use Rattle.std.specs.Prelude.{codes}
use Rattle.std.specs.Option.{option_and_then}
use Rattle.std.specs.List.{AllByRecursion}
use Rattle.judging_laws.specs.md_reader_pieces.specs.declared.piece.Piece.{Piece}
use Rattle.judging_laws.specs.vax_templates.specs.declared.form.Mark.{Mark}
use Rattle.judging_laws.specs.vax_templates.specs.declared.form.Number.{Number}
use Rattle.judging_laws.specs.vax_templates.specs.declared.form.Number.TheVariants as number
use Rattle.judging_laws.specs.vax_templates.specs.Marks.{strip, hole_front, at_front, marks_of}
use Rattle.judging_laws.specs.vax_templates.specs.Forms.{number_spelled, negative_hole}
use Rattle.judging_laws.specs.vax_templates.specs.md_reader_text.specs.Words.{same}
use Rattle.judging_laws.specs.vax_templates.specs.Instructions.{word_of, marks_behind, behind_blank, is_empty}
use Rattle.judging_laws.specs.Each.{Each}
use Rattle.judging_laws.specs.Numbers.{IsShort}
use Rattle.judging_laws.proofs.Parts.{map_or_each, and_then_each, map_each, always, if_each}
use Rattle.judging_laws.proofs.Numbers.{IsLongSpelled, spelled_long}
use Rattle.l32_target_meaning.specs.l32_templates.specs.l32_core.specs.declared.op.Op32.{Op32}
use Rattle.l32_target_meaning.specs.l32_templates.specs.l32_core.specs.declared.op.Op32.TheVariants as ops
use Rattle.l32_target_meaning.specs.l32_templates.specs.l32_core.specs.declared.op.Part.{Part}
use Rattle.l32_target_meaning.specs.l32_templates.specs.l32_core.specs.declared.op.Part.TheVariants.{Operand, Label}
use Rattle.l32_target_meaning.specs.l32_templates.specs.l32_core.specs.Ops.{shape}
use Rattle.l32_target_meaning.specs.l32_templates.specs.declared.form.Form.{Form}
use Rattle.l32_target_meaning.specs.l32_templates.specs.declared.form.Form.TheVariants as form
use Rattle.l32_target_meaning.specs.l32_templates.specs.Forms.{of_number, of_hole, alone, near, far, deferred_front, immediate_front, register_zero, named_front, form_front}
use Rattle.l32_target_meaning.specs.l32_templates.specs.Instructions.{Instruction, Relation, Calls, Operates, label_front, forms_from, is_call, operates, is_call_op, calls, with_op, relation_behind, relation}
use Rattle.l32_target_meaning.specs.l32_templates.specs.Instructions.{instruction_of, whole, shape_of_pieces}
use Rattle.l32_target_meaning.specs.l32_templates.specs.l32_core.specs.Mnemonics.{op_of}
use Rattle.l32_target_operands.specs.Places.{FormIsShort}

abbrev IsShortStart : Form × List Mark → Type 0
IsShortStart x = FormIsShort x.0

alone_short : (made : ℕ → Form) → ((i : ℕ) → FormIsShort (made i)) → (n : Number) (rest : List Mark) → Each IsShortStart (alone made n rest)
alone_short made h (number.Symbol i) rest = h i
alone_short made h (number.Itself n) rest = tt

near_short : (x : Number × List Mark) → IsShort x.0 → Each IsShortStart (near x)
near_short x h =
    map_or_each IsShortStart (at_front x.1) (of_hole (form.Displacement x.0)) (alone form.Hole x.0 x.1) (λ y e. h) (alone_short form.Hole (λ i. tt) x.0 x.1)

far_short : (x : Number × List Mark) → IsShort x.0 → Each IsShortStart (far x)
far_short x h =
    map_or_each IsShortStart (at_front x.1) (of_hole (form.DisplacementDeferred x.0)) (alone form.Deferred x.0 x.1) (λ y e. h)
    (alone_short form.Deferred (λ i. tt) x.0 x.1)

deferred_short : (ms : List Mark) → Each IsShortStart (deferred_front ms)
deferred_short ms = and_then_each IsLongSpelled IsShortStart (number_spelled ms) far far_short (spelled_long ms)

immediate_short : (ms : List Mark) → Each IsShortStart (immediate_front ms)
unfolding immediate_front
immediate_short ms =
    map_or_each IsShortStart (negative_hole ms) (of_hole form.Negative) (option_and_then (of_number form.Immediate) (number_spelled ms)) (λ x e. tt)
    (and_then_each IsLongSpelled IsShortStart (number_spelled ms) (of_number form.Immediate) (λ x h. h) (spelled_long ms))

named_short : (ms : List Mark) → Each IsShortStart (named_front ms)
named_short ms = and_then_each (λ x. Unit {0}) IsShortStart (strip 48 ms) register_zero (λ x u. tt) (always (strip 48 ms) tt)

pub form_short : (ms : List Mark) → Each IsShortStart (form_front ms)
unfolding form_front
form_short ms =
    map_or_each IsShortStart (strip 64 ms) deferred_front _ (λ rest e. deferred_short rest)
    (map_or_each IsShortStart (strip 36 ms) immediate_front _ (λ rest e. immediate_short rest)
    (map_or_each IsShortStart (strip 97 ms) named_front _ (λ rest e. named_short rest)
    (and_then_each IsLongSpelled IsShortStart (number_spelled ms) near near_short (spelled_long ms))))

abbrev pub AreShort : List Form → Type 0
AreShort fs = AllByRecursion FormIsShort fs

one_more : (fs : List Form) (f : Form) → AreShort fs → FormIsShort f → AreShort (fs ++ f ∷ [])
one_more [] f h s = (s, tt)
one_more (g ∷ fs) f h s = (h.0, one_more fs f h.1 s)

forms_are : (before : ℕ) (read : List Form) (ps : List Part) (ms : List Mark) → AreShort read → Each AreShort (forms_from before read ps ms)
forms_are before read [] [] h = h
forms_are before read [] (m ∷ ms) h = tt
forms_are before read (Operand role ∷ ps) ms h =
    and_then_each IsShortStart AreShort (option_and_then form_front (strip before ms)) (λ (x : Form × List Mark). forms_from 44 (read ++ x.0 ∷ []) ps x.1)
    (λ x short. forms_are 44 (read ++ x.0 ∷ []) ps x.1 (one_more read x.0 h short))
    (and_then_each (λ y. Unit {0}) IsShortStart (strip before ms) form_front (λ y u. form_short y) (always (strip before ms) tt))
forms_are before read (Label ∷ ps) ms h =
    and_then_each (λ x. Unit {0}) AreShort (option_and_then label_front (strip before ms)) (λ (rest : List Mark). forms_from 44 read ps rest)
    (λ rest u. forms_are 44 read ps rest h) (always (option_and_then label_front (strip before ms)) tt)

-- the forms of an instruction
abbrev pub IsShortLine : Instruction → Type 0
IsShortLine (Relation i fs) = AreShort fs
IsShortLine Calls = Unit {0}
IsShortLine (Operates op fs) = AreShort fs

with_op_short : (ms : List Mark) (op : Op32) → Each IsShortLine (with_op ms op)
with_op_short ms op =
    if_each IsShortLine (is_call_op op) (calls ms) (operates op ms)
    (λ e. if_each IsShortLine (behind_blank is_call (strip 32 ms)) (Some Calls) None (λ f. tt) (λ f. tt))
    (λ e. map_each IsShortLine (forms_from 32 [] (shape op).parts ms) (Operates op) (forms_are 32 [] (shape op).parts ms tt))

relation_short : (word : List ℕ) (ms : List Mark) → Each IsShortLine (relation word ms)
relation_short word ms =
    if_each IsShortLine (same word (codes "j")) (option_and_then relation_behind (hole_front ms)) None
    (λ e. and_then_each (λ x. Unit {0}) IsShortLine (hole_front ms) relation_behind
    (λ x u. map_each IsShortLine (forms_from 32 [] (shape ops.Beq).parts x.1) (Relation x.0) (forms_are 32 [] (shape ops.Beq).parts x.1 tt))
    (always (hole_front ms) tt))
    (λ e. tt)

pub line_short : (ps : List Piece) → Each IsShortLine (instruction_of ps)
line_short ps =
    let ms = marks_behind ps in
    map_or_each IsShortLine (op_of (word_of ps)) (with_op ms) (relation (word_of ps) ms) (λ op e. with_op_short ms op) (relation_short (word_of ps) ms)

-- what is given
pub shape_short : (ps : List Piece) → Each FormIsShort (shape_of_pieces ps)
shape_short ps = and_then_each IsShortStart FormIsShort (form_front (marks_of ps)) whole wholes (form_short (marks_of ps)) where
  wholes : (x : Form × List Mark) → FormIsShort x.0 → Each FormIsShort (whole x)
  wholes x h = if_each FormIsShort (is_empty x.1) (Some x.0) None (λ e. h) (λ e. tt)
