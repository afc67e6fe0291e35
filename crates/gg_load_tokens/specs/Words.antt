-- Words, the blanks between them, and where they stand in a text.
use Rattle.std.specs.Prelude.{ℕ, zero, suc, ◌+◌, List, [], ◌∷◌, ◌++◌, length, Option, Some, None}
use Rattle.c_tokens.specs.declared.marks.Mark.{Mark}
use Rattle.c_tokens.specs.declared.words.Key.{Key}
use Rattle.c_tokens.specs.declared.token.Token.{Token}
use Rattle.c_tokens.specs.declared.token.Token.TheVariants as token
use Rattle.c_tokens.specs.declared.token.Spanned.{Spanned}
use Rattle.c_tokens.specs.Words.{key_text}
use Rattle.c_tokens.specs.Marks.{mark_text}
use Rattle.c_tokens.specs.Reading.{spanned}

-- how a word is written, and the token that it is; a blank is none
pub record Word : Type 0 where
  pub text : List ℕ
  pub token : Option Token

abbrev pub blank : ℕ → Word
blank b = record { text = b ∷ []; token = None }

abbrev pub key : Key → Word
key k = record { text = key_text k; token = Some (token.Key k) }

abbrev pub mark : Mark → Word
mark m = record { text = mark_text m; token = Some (token.Mark m) }

abbrev pub name : List ℕ → Word
name n = record { text = n; token = Some (token.Name n) }

abbrev pub number : List ℕ → ℕ → Word
number digits v = record { text = digits; token = Some (token.Number v) }

-- what the words are written as, one behind another, and what stands behind them
abbrev pub spelled : List Word → List ℕ → List ℕ
spelled [] rest = rest
spelled (w ∷ ws) rest = w.text ++ spelled ws rest

-- the offset of a word, by its number, where the first stands at `at`
abbrev pub place : ℕ → List Word → ℕ → ℕ
place at [] n = at
place at (w ∷ ws) zero = at
place at (w ∷ ws) (suc n) = place (at + length w.text) ws n

-- the offset behind the last word
abbrev pub behind : ℕ → List Word → ℕ
behind at [] = at
behind at (w ∷ ws) = behind (at + length w.text) ws

-- their tokens, and the tokens that stand behind them
abbrev pub onto_tokens : ℕ → List Word → List Spanned → List Spanned
onto_tokens at [] ts = ts
onto_tokens at (w ∷ ws) ts = spanned w.token at (at + length w.text) ++ onto_tokens (at + length w.text) ws ts
