-- What the reading of a line finds: as many operands as its instruction has, with longwords for numbers, and the holes that name a label or a call.
use Rattle.std.proofs.Common.{◌≡◌, ℕ, ◌+◌, Bool, true, false, cond, ◌||◌, Some, None, List, [], ◌∷◌, ◌++◌, map, length, drop, refl, arith, length-append}
use Rattle.std.specs.Prelude.{codes}
use Rattle.std.specs.Option.{option_and_then}
use Rattle.std.specs.List.{AllByRecursion, list_any}
use Rattle.std.proofs.lemmas.Bool.{or_right}
use Rattle.vax_target_meaning.specs.md_reader.proofs.Inversion.{All-push}
use Rattle.vax_target_meaning.specs.md_reader_text.specs.Words.{same}
use Rattle.vax_target_meaning.specs.md_reader_pieces.specs.declared.piece.Piece.{Piece}
use Rattle.vax_target_meaning.specs.md_reader_pieces.specs.declared.piece.Piece.TheVariants as piece
use Rattle.vax_core.specs.declared.op.Op.{Op}
use Rattle.vax_core.specs.declared.op.OperandKind.{OperandKind}
use Rattle.vax_core.specs.Ops.{shape}
use Rattle.vax_core.specs.Mnemonics.{op_of}
use Rattle.vax_target_meaning.specs.vax_machine.specs.declared.function.Action.{Action}
use Rattle.vax_target_meaning.specs.vax_machine.specs.declared.function.Action.TheVariants.{Compute, Push, Branch, Call, Return}
use Rattle.vax_target_meaning.specs.vax_machine.specs.declared.function.Test.{Test}
use Rattle.vax_target_meaning.specs.vax_machine.specs.declared.function.Test.TheVariants as test
use Rattle.vax_target_meaning.specs.vax_machine.specs.Functions.{action_of}
use Rattle.vax_target_meaning.specs.vax_templates.specs.declared.form.Mark.{Mark}
use Rattle.vax_target_meaning.specs.vax_templates.specs.declared.form.Mark.TheVariants as mark
use Rattle.vax_target_meaning.specs.vax_templates.specs.declared.form.Form.{Form}
use Rattle.vax_target_meaning.specs.vax_templates.specs.Marks.{marks_of, is_byte, strip, hole_front}
use Rattle.vax_target_meaning.specs.vax_templates.specs.Forms.{form_front}
use Rattle.vax_target_meaning.specs.vax_templates.specs.Instructions.{Instruction, Relation, Jump, Calls, Ret, Operates, forms_from, is_label, is_call, behind_blank, only, is_empty, jumps, operates}
use Rattle.vax_target_meaning.specs.vax_templates.specs.Instructions.{behind, relation_behind, relation, with_op, word_len, word_of, marks_behind, instruction_of, whole, shape_of_pieces}
use Rattle.vax_target_writing.proofs.Each.{Each, map_or_each, and_then_each, map_each, always, if_each}
use Rattle.vax_target_writing.proofs.Longs.{IsLongForm, IsLongFront, form_long}

-- ---- operands

pub record AreRead (count : ℕ) (fs : List Form) : Type 0 where
  pub longs : AllByRecursion IsLongForm fs
  pub many : length fs ≡ count

forms_are : (before : ℕ) (read : List Form) (kinds : List OperandKind) (ms : List Mark) (count : ℕ) → AllByRecursion IsLongForm read →
    length read + length kinds ≡ count → Each (AreRead count) (forms_from before read kinds ms)
forms_are before read [] [] count h e = record { longs = h; many = omega (arith, e) }
forms_are before read [] (m ∷ ms) count h e = tt
forms_are before read (k ∷ ks) ms count h e =
    and_then_each IsLongFront (AreRead count) (option_and_then form_front (strip before ms)) (λ (x : Form × List Mark). forms_from 44 (read ++ x.0 ∷ []) ks x.1)
    (λ x long. forms_are 44 (read ++ x.0 ∷ []) ks x.1 count (All-push IsLongForm read x.0 h long) (omega (arith, e, length-append read (x.0 ∷ []))))
    (and_then_each (λ y. Unit {0}) IsLongFront (strip before ms) form_front (λ y u. form_long y) (always (strip before ms) tt))

-- ---- holes that name a label or a call

abbrev pub is_label_mark : Mark → Bool
is_label_mark mark.Label = true
is_label_mark m = false

abbrev pub is_count_mark : Mark → Bool
is_count_mark mark.Count = true
is_count_mark m = false

-- what is read of an instruction behind its mnemonic
abbrev pub IsWell : List Mark → Instruction → Type 0
IsWell ms (Relation i) = list_any is_label_mark ms ≡ true
IsWell ms Jump = list_any is_label_mark ms ≡ true
IsWell ms Calls = list_any is_count_mark ms ≡ true
IsWell ms Ret = Unit {0}
IsWell ms (Operates op fs) = AreRead (length (shape op).operands) fs

label_alone : (ms : List Mark) → is_label ms ≡ true → list_any is_label_mark ms ≡ true
label_alone (mark.Label ∷ ms) e = refl
label_alone _ e = absurd (cc)

-- behind one byte
in_rest : (p : Mark → Bool) (passes : List Mark → Bool) (ms : List Mark) → ((rest : List Mark) → passes rest ≡ true → list_any p rest ≡ true) →
    behind_blank passes (strip 32 ms) ≡ true → list_any p ms ≡ true
in_rest p passes [] h e = absurd (cc)
in_rest p passes (m ∷ ms) h e = by (is_byte 32 m) e where
  by : (b : Bool) → behind_blank passes (cond b (Some ms) None) ≡ true → list_any p (m ∷ ms) ≡ true
  by true f = or_right (p m) (list_any p ms) (h ms f)
  by false f = absurd (cc)

call_counts : (ms : List Mark) → is_call ms ≡ true → list_any is_count_mark ms ≡ true
call_counts (mark.Count ∷ ms) e = refl
call_counts _ e = absurd (cc)

only_each : (P : Instruction → Type 0) (b : Bool) (i : Instruction) → (b ≡ true → P i) → Each P (only b i)
only_each P b i h = if_each P b (Some i) None h (λ e. tt)

jumps_well : (t : Test) (ms : List Mark) → Each (IsWell ms) (jumps t ms)
jumps_well test.Always ms = only_each (IsWell ms) (behind_blank is_label (strip 32 ms)) Jump (λ e. in_rest is_label_mark is_label ms label_alone e)
jumps_well t ms = tt

operates_well : (op : Op) (ms : List Mark) → Each (IsWell ms) (operates op ms)
operates_well op ms =
    map_each (IsWell ms) (forms_from 32 [] (shape op).operands ms) (Operates op)
    (forms_are 32 [] (shape op).operands ms (length (shape op).operands) tt (omega arith))

behind_well : (a : Action) (op : Op) (ms : List Mark) → Each (IsWell ms) (behind a op ms)
behind_well (Compute f) op ms = operates_well op ms
behind_well Push op ms = operates_well op ms
behind_well (Branch t) op ms = jumps_well t ms
behind_well Call op ms = only_each (IsWell ms) (behind_blank is_call (strip 32 ms)) Calls (λ e. in_rest is_count_mark is_call ms call_counts e)
behind_well Return op ms = only_each (IsWell ms) (is_empty ms) Ret (λ e. tt)

-- a hole, and marks behind it
relation_well : (word : List ℕ) (ms : List Mark) → Each (IsWell ms) (relation word ms)
relation_well word ms = if_each (IsWell ms) (same word (codes "j")) (option_and_then relation_behind (hole_front ms)) None (λ e. holes ms) (λ e. tt) where
  holes : (ns : List Mark) → Each (IsWell ns) (option_and_then relation_behind (hole_front ns))
  holes [] = tt
  holes (mark.Hole i ∷ ns) =
      only_each (IsWell (mark.Hole i ∷ ns)) (behind_blank is_label (strip 32 ns)) (Relation i)
      (λ e. in_rest is_label_mark is_label ns label_alone e)
  holes (mark.Byte b ∷ ns) = tt
  holes (mark.Label ∷ ns) = tt
  holes (mark.Callee ∷ ns) = tt
  holes (mark.Count ∷ ns) = tt

pub read_well : (ps : List Piece) → Each (IsWell (marks_behind ps)) (instruction_of ps)
read_well ps =
    let ms = marks_behind ps in
    map_or_each (IsWell ms) (op_of (word_of ps)) (with_op ms) (relation (word_of ps) ms) (λ op e. behind_well (action_of op) op ms)
    (relation_well (word_of ps) ms)

-- ---- the same holes among a line's pieces

abbrev pub is_label_piece : Piece → Bool
is_label_piece piece.Label = true
is_label_piece p = false

abbrev pub is_count_piece : Piece → Bool
is_count_piece piece.Count = true
is_count_piece p = false

any_next : (b some all : Bool) {P : Type 0} → (b || some) ≡ false → (b || all) ≡ true → (some ≡ false → all ≡ true → P) → P
any_next true some all none e h = absurd (cc)
any_next false some all none e h = h none e

any_in_front : (p : Mark → Bool) (ns ms : List Mark) → list_any p ns ≡ false → list_any p (ns ++ ms) ≡ true → list_any p ms ≡ true
any_in_front p [] ms none e = e
any_in_front p (n ∷ ns) ms none e = any_next (p n) (list_any p ns) (list_any p (ns ++ ms)) none e (any_in_front p ns ms)

no_label : (w : List ℕ) → list_any is_label_mark (map mark.Byte w) ≡ false
no_label [] = refl
no_label (c ∷ cs) = no_label cs

no_count : (w : List ℕ) → list_any is_count_mark (map mark.Byte w) ≡ false
no_count [] = refl
no_count (c ∷ cs) = no_count cs

labels_in : (ps : List Piece) → list_any is_label_mark (marks_of ps) ≡ true → list_any is_label_piece ps ≡ true
labels_in [] e = absurd (cc)
labels_in (piece.Bytes w ∷ ps) e = labels_in ps (any_in_front is_label_mark (map mark.Byte w) (marks_of ps) (no_label w) e)
labels_in (piece.Hole i ∷ ps) e = labels_in ps e
labels_in (piece.Label ∷ ps) e = refl
labels_in (piece.Callee ∷ ps) e = labels_in ps e
labels_in (piece.Count ∷ ps) e = labels_in ps e

counts_in : (ps : List Piece) → list_any is_count_mark (marks_of ps) ≡ true → list_any is_count_piece ps ≡ true
counts_in [] e = absurd (cc)
counts_in (piece.Bytes w ∷ ps) e = counts_in ps (any_in_front is_count_mark (map mark.Byte w) (marks_of ps) (no_count w) e)
counts_in (piece.Hole i ∷ ps) e = counts_in ps e
counts_in (piece.Label ∷ ps) e = counts_in ps e
counts_in (piece.Callee ∷ ps) e = counts_in ps e
counts_in (piece.Count ∷ ps) e = refl

pub labels_behind : (ps : List Piece) → list_any is_label_mark (marks_behind ps) ≡ true → list_any is_label_piece ps ≡ true
labels_behind [] e = absurd (cc)
labels_behind (piece.Bytes w ∷ ps) e = labels_in ps (any_in_front is_label_mark (map mark.Byte (drop (word_len w) w)) (marks_of ps) (no_label (drop (word_len w) w)) e)
labels_behind (piece.Hole i ∷ ps) e = labels_in ps e
labels_behind (piece.Label ∷ ps) e = refl
labels_behind (piece.Callee ∷ ps) e = labels_in ps e
labels_behind (piece.Count ∷ ps) e = labels_in ps e

pub counts_behind : (ps : List Piece) → list_any is_count_mark (marks_behind ps) ≡ true → list_any is_count_piece ps ≡ true
counts_behind [] e = absurd (cc)
counts_behind (piece.Bytes w ∷ ps) e = counts_in ps (any_in_front is_count_mark (map mark.Byte (drop (word_len w) w)) (marks_of ps) (no_count (drop (word_len w) w)) e)
counts_behind (piece.Hole i ∷ ps) e = counts_in ps e
counts_behind (piece.Label ∷ ps) e = counts_in ps e
counts_behind (piece.Callee ∷ ps) e = counts_in ps e
counts_behind (piece.Count ∷ ps) e = refl

-- a shape's operand has longwords for numbers
pub shape_long : (ps : List Piece) → Each IsLongForm (shape_of_pieces ps)
shape_long ps = and_then_each IsLongFront IsLongForm (form_front (marks_of ps)) whole wholes (form_long (marks_of ps)) where
  wholes : (x : Form × List Mark) → IsLongForm x.0 → Each IsLongForm (whole x)
  wholes x h = if_each IsLongForm (is_empty x.1) (Some x.0) None (λ e. h) (λ e. tt)
