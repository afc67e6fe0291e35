-- The words of a line.
use Rattle.std.specs.Prelude.{ℕ, Bool, true, false, not, ◌==◌, ◌||◌, List, [], ◌∷◌, take, drop, Option, Some, None, if◌then◌else◌}
use Rattle.std.specs.Str.{bytes_eq}
use Rattle.gg_base.specs.Fronts.{run_len}
use Rattle.md_reader_text.specs.Lists.{put_front}

-- a space or a tab
abbrev pub is_blank : ℕ → Bool
is_blank b = (b == 32) || (b == 9)

-- whether a word goes on
abbrev pub goes_on : List ℕ → Bool
goes_on [] = false
goes_on (b ∷ bs) = if is_blank b then false else true

-- what blanks part
abbrev pub words : List ℕ → List (List ℕ)
words [] = []
words (b ∷ bs) = if is_blank b then words bs else if goes_on bs then put_front b (words bs) else (b ∷ []) ∷ words bs

-- whether two words are the same
abbrev pub same : List ℕ → List ℕ → Bool
same = bytes_eq

-- how a word is cut off
abbrev pub without_blanks : List ℕ → List ℕ
without_blanks [] = []
without_blanks (b ∷ bs) = if is_blank b then without_blanks bs else b ∷ bs

abbrev pub word_len : List ℕ → ℕ
word_len line = run_len (λ b. not (is_blank b)) line

abbrev pub word_at : List ℕ → Option (List ℕ × List ℕ)
word_at [] = None
word_at (b ∷ bs) = Some (take (word_len (b ∷ bs)) (b ∷ bs), drop (word_len (b ∷ bs)) (b ∷ bs))

unfoldable pub cut_word : List ℕ → Option (List ℕ × List ℕ)
cut_word line = word_at (without_blanks line)
