-- Marks that name a label or a call, and the pieces of a line that they are read of.
use Rattle.std.proofs.Common.{◌≡◌, ℕ, Bool, true, false, ◌||◌, List, [], ◌∷◌, ◌++◌, map, drop, refl}
use Rattle.std.specs.List.{list_any}
use Rattle.judging_laws.specs.md_reader_pieces.specs.declared.piece.Piece.{Piece}
use Rattle.judging_laws.specs.md_reader_pieces.specs.declared.piece.Piece.TheVariants as piece
use Rattle.judging_laws.specs.vax_templates.specs.declared.form.Mark.{Mark}
use Rattle.judging_laws.specs.vax_templates.specs.declared.form.Mark.TheVariants as mark
use Rattle.judging_laws.specs.vax_templates.specs.Marks.{marks_of}
use Rattle.judging_laws.specs.vax_templates.specs.Instructions.{marks_behind, word_len}
use Rattle.line_names.specs.Laws.{is_label_piece, is_count_piece}

-- ---- holes that name a label or a call

abbrev pub is_label_mark : Mark → Bool
is_label_mark mark.Label = true
is_label_mark m = false

abbrev pub is_count_mark : Mark → Bool
is_count_mark mark.Count = true
is_count_mark m = false

any_next : (b some all : Bool) {P : Type 0} → (b || some) ≡ false → (b || all) ≡ true → (some ≡ false → all ≡ true → P) → P
any_next true some all none e h = absurd (cc)
any_next false some all none e h = h none e

any_in_front : (p : Mark → Bool) (ns ms : List Mark) → list_any p ns ≡ false → list_any p (ns ++ ms) ≡ true → list_any p ms ≡ true
any_in_front p [] ms none e = e
any_in_front p (n ∷ ns) ms none e = any_next (p n) (list_any p ns) (list_any p (ns ++ ms)) none e (any_in_front p ns ms)

no_label : (w : List ℕ) → list_any is_label_mark (map mark.Byte w) ≡ false
no_label [] = refl
no_label (c ∷ cs) = no_label cs

no_count : (w : List ℕ) → list_any is_count_mark (map mark.Byte w) ≡ false
no_count [] = refl
no_count (c ∷ cs) = no_count cs

labels_in : (ps : List Piece) → list_any is_label_mark (marks_of ps) ≡ true → list_any is_label_piece ps ≡ true
labels_in [] e = absurd (cc)
labels_in (piece.Bytes w ∷ ps) e = labels_in ps (any_in_front is_label_mark (map mark.Byte w) (marks_of ps) (no_label w) e)
labels_in (piece.Hole i ∷ ps) e = labels_in ps e
labels_in (piece.Label ∷ ps) e = refl
labels_in (piece.Callee ∷ ps) e = labels_in ps e
labels_in (piece.Count ∷ ps) e = labels_in ps e

counts_in : (ps : List Piece) → list_any is_count_mark (marks_of ps) ≡ true → list_any is_count_piece ps ≡ true
counts_in [] e = absurd (cc)
counts_in (piece.Bytes w ∷ ps) e = counts_in ps (any_in_front is_count_mark (map mark.Byte w) (marks_of ps) (no_count w) e)
counts_in (piece.Hole i ∷ ps) e = counts_in ps e
counts_in (piece.Label ∷ ps) e = counts_in ps e
counts_in (piece.Callee ∷ ps) e = counts_in ps e
counts_in (piece.Count ∷ ps) e = refl

pub labels_behind : (ps : List Piece) → list_any is_label_mark (marks_behind ps) ≡ true → list_any is_label_piece ps ≡ true
labels_behind [] e = absurd (cc)
labels_behind (piece.Bytes w ∷ ps) e = labels_in ps (any_in_front is_label_mark (map mark.Byte (drop (word_len w) w)) (marks_of ps) (no_label (drop (word_len w) w)) e)
labels_behind (piece.Hole i ∷ ps) e = labels_in ps e
labels_behind (piece.Label ∷ ps) e = refl
labels_behind (piece.Callee ∷ ps) e = labels_in ps e
labels_behind (piece.Count ∷ ps) e = labels_in ps e

pub counts_behind : (ps : List Piece) → list_any is_count_mark (marks_behind ps) ≡ true → list_any is_count_piece ps ≡ true
counts_behind [] e = absurd (cc)
counts_behind (piece.Bytes w ∷ ps) e = counts_in ps (any_in_front is_count_mark (map mark.Byte (drop (word_len w) w)) (marks_of ps) (no_count (drop (word_len w) w)) e)
counts_behind (piece.Hole i ∷ ps) e = counts_in ps e
counts_behind (piece.Label ∷ ps) e = counts_in ps e
counts_behind (piece.Callee ∷ ps) e = counts_in ps e
counts_behind (piece.Count ∷ ps) e = refl
