-- The first word is cut off exactly as it stands.
use Rattle.std.proofs.Common.{Bor, ◌≡◌, ◌≤◌, ◌+◌, ◌-◌, ℕ, suc, Bool, true, false, not, cond, List, [], ◌∷◌, length, take, drop, Option, Some, None, refl, sym, ap, ◌∙◌, arith}
use Rattle.std.proofs.Math.ListN.{drop_of_length-le}
use Rattle.std.proofs.Math.Seq.{take-length}
use Rattle.std.proofs.lemmas.List.{length-drop}
use Rattle.std.specs.List.{position, position_or_len}
use Rattle.std.specs.Option.{option_map}
use Rattle.md_reader_text.specs.Lists.{put_front, list_of}
use Rattle.md_reader_text.specs.Words.{is_blank, words, without_blanks, word_len, word_at, cut_word}

words_skip : (line : List ℕ) → words (without_blanks line) ≡ words line
words_skip [] = refl
words_skip (b ∷ bs) = step (is_blank b) refl (words_skip bs)
  where
    step : (t : Bool) → is_blank b ≡ t → words (without_blanks bs) ≡ words bs → words (without_blanks (b ∷ bs)) ≡ words (b ∷ bs)
    step true e h = rw e h
    step false e h = rw (e, e) refl

-- behind the first byte of a word stands the word's rest, or a blank or the end
words_front : (b : ℕ) (bs : List ℕ) → is_blank b ≡ false → words (b ∷ bs) ≡ take (word_len (b ∷ bs)) (b ∷ bs) ∷ words (drop (word_len (b ∷ bs)) (b ∷ bs))
words_front b [] e = rw e refl
words_front b (c ∷ cs) e = step (is_blank c) refl (words_front c cs)
  where
    step : (t : Bool) → is_blank c ≡ t → (is_blank c ≡ false → words (c ∷ cs) ≡ take (word_len (c ∷ cs)) (c ∷ cs) ∷ words (drop (word_len (c ∷ cs)) (c ∷ cs))) → words (b ∷ c ∷ cs)
        ≡ take (word_len (b ∷ c ∷ cs)) (b ∷ c ∷ cs) ∷ words (drop (word_len (b ∷ c ∷ cs)) (b ∷ c ∷ cs))
    step true f h = rw (e, f, f) refl
    step false f h = let k = h f in rw (e, f) (ap (put_front b) (rw f at k))

-- what is left when blanks are skipped is nothing, or a word stands in front
data Skipped : List ℕ → Type 0 where
  ended : Skipped []
  stands : (b : ℕ) (bs : List ℕ) → is_blank b ≡ false → Skipped (b ∷ bs)

skipped : (line : List ℕ) → Skipped (without_blanks line)
skipped [] = ended
skipped (b ∷ bs) = step (is_blank b) refl (skipped bs)
  where
    step : (t : Bool) → is_blank b ≡ t → Skipped (without_blanks bs) → Skipped (cond t (without_blanks bs) (b ∷ bs))
    step true e h = h
    step false e h = stands b bs e

abbrev go_on : List ℕ × List ℕ → List ℕ × List (List ℕ)
go_on x = (x.0, words x.1)

at_skipped : (rest : List ℕ) → Skipped rest → words rest ≡ list_of (option_map go_on (word_at rest))
at_skipped [] ended = refl
at_skipped (b ∷ bs) (stands c cs e) = words_front b bs e

cut_word_is : (line : List ℕ) → words line ≡ list_of (option_map go_on (cut_word line))
unfolding cut_word
cut_word_is line = sym (words_skip line) ∙ at_skipped (without_blanks line) (skipped line)

-- the same where the parts lie behind references
pub seen_words : (r : Option (Bor (List ℕ) × Bor (List ℕ))) (line : List ℕ) → option_map (λ (x : Bor (List ℕ) × Bor (List ℕ)). (x.0.now, x.1.now)) r ≡ cut_word line → words line
    ≡ list_of (option_map (λ (x : Bor (List ℕ) × Bor (List ℕ)). (x.0.now, words x.1.now)) r)
seen_words None line e = cut_word_is line ∙ ap (λ (o : Option (List ℕ × List ℕ)). list_of (option_map go_on o)) (sym e)
seen_words (Some x) line e = cut_word_is line ∙ ap (λ (o : Option (List ℕ × List ℕ)). list_of (option_map go_on o)) (sym e)

-- the blanks in front, as `position` finds the first byte that is none
abbrev pub shows : ℕ → Bool
shows b = not (is_blank b)

skips : (line : List ℕ) → without_blanks line ≡ drop (position_or_len shows line) line
skips [] = refl
skips (b ∷ bs) = step (is_blank b) (skips bs)
  where
    step : (t : Bool) → without_blanks bs ≡ drop (position_or_len shows bs) bs
        → cond t (without_blanks bs) (b ∷ bs) ≡ drop (cond (not (not t)) (1 + position_or_len shows bs) 0) (b ∷ bs)
    step true h = h ∙ ap (λ n. drop n (b ∷ bs)) (let one : suc (position_or_len shows bs) ≡ 1 + position_or_len shows bs = omega arith in one)
    step false h = refl

pub skipped_at : (line : List ℕ) (start : ℕ) → Some start ≡ position shows line → take (length line - start) (drop start line) ≡ without_blanks line
skipped_at line start e =
    let first : start ≡ position_or_len shows line = grind (arith, e) in
    ap (λ n. take n (drop start line)) (sym (length-drop start line)) ∙ (take-length (drop start line) ∙ (ap (λ n. drop n line) first ∙ sym (skips line)))

pub all_skipped : (line : List ℕ) → None ≡ position shows line → [] ≡ without_blanks line
all_skipped line e =
    let none : length line ≤ position_or_len shows line = grind (arith, e) in
    sym (skips line ∙ drop_of_length-le line none)
