-- What is wrong at the front of a text, and the first fault of a text from the left.
use Rattle.std.specs.Prelude.{◌≡◌, ◌≢◌, ◌<◌, ℕ, ◌+◌, true, false, List, [], ◌∷◌, length, Option}
use Rattle.c_tokens.specs.declared.marks.Mark.{Mark}
use Rattle.c_tokens.specs.declared.words.Key.{Key}
use Rattle.c_tokens.specs.declared.token.Token.{Token}
use Rattle.c_tokens.specs.declared.token.TokenKind.{TokenKind}
use Rattle.c_tokens.specs.declared.token.TokenKind.TheVariants.{BadByte, BadNumber, LongName, BadEscape, BadChar, Unclosed}
use Rattle.c_tokens.specs.Letters.{is_blank, is_letter, is_digit, in_word}
use Rattle.c_tokens.specs.Words.{key_text}
use Rattle.c_tokens.specs.Marks.{mark_text}
use Rattle.c_tokens.specs.Grammar.{IsRun, IsNumber, IsEscape, IsElement, Elements, NoneCloses, IsPiece}

abbrev pub NoEscape : List ℕ → Type 0
NoEscape text = (v : ℕ) (rest : List ℕ) → IsEscape text v rest → ⊥

-- the text ends here, or its line does
abbrev pub AtLineEnd : List ℕ → Type 0
AtLineEnd [] = Unit {0}
AtLineEnd (b ∷ bs) = b ≡ 10

-- a fault of this kind stands so many bytes behind the front of the text, in the piece that begins there
pub data IsWrong : List ℕ → ℕ → TokenKind → Type 0 where
  bad_byte : (b : ℕ) (bs : List ℕ) → is_blank b ≡ false → is_letter b ≡ false → is_digit b ≡ false → b ≢ 39 → b ≢ 34
      → ((m : Mark) (others : List ℕ) → mark_text m ≢ b ∷ others) → IsWrong (b ∷ bs) 0 BadByte
  bad_number : (b : ℕ) (bs word rest : List ℕ) → is_digit b ≡ true → IsRun in_word (b ∷ bs) word rest
      → ((v : ℕ) → IsNumber word v → ⊥) → IsWrong (b ∷ bs) 0 BadNumber
  long_name : (b : ℕ) (bs word rest : List ℕ) → is_letter b ≡ true → IsRun in_word (b ∷ bs) word rest
      → ((k : Key) → word ≢ key_text k) → 63 < length word → IsWrong (b ∷ bs) 0 LongName
  character_escape : (text : List ℕ) → NoEscape text → IsWrong (39 ∷ 92 ∷ text) 1 BadEscape
  string_escape : (text vs rest : List ℕ) (n : ℕ) → Elements 34 text vs (92 ∷ rest) → NoEscape rest → n + length (92 ∷ rest)
      ≡ length (34 ∷ text) → IsWrong (34 ∷ text) n BadEscape
  no_element : (rest : List ℕ) → IsWrong (39 ∷ 39 ∷ rest) 0 BadChar
  no_closing_mark : (text : List ℕ) (v b : ℕ) (rest : List ℕ) → IsElement 39 text v (b ∷ rest) → b ≢ 39 → b ≢ 10
      → IsWrong (39 ∷ text) 0 BadChar
  open_comment : (text : List ℕ) → NoneCloses text → IsWrong (47 ∷ 42 ∷ text) 0 Unclosed
  open_mark : (text : List ℕ) → AtLineEnd text → IsWrong (39 ∷ text) 0 Unclosed
  open_character : (text : List ℕ) (v : ℕ) (rest : List ℕ) → IsElement 39 text v rest → AtLineEnd rest → IsWrong (39 ∷ text) 0 Unclosed
  open_string : (text vs rest : List ℕ) → Elements 34 text vs rest → AtLineEnd rest → IsWrong (34 ∷ text) 0 Unclosed

-- the first fault of a text that begins at the offset `at`: only pieces stand in front of it
pub data FirstFault : (at : ℕ) → List ℕ → (place : ℕ) → TokenKind → Type 0 where
  here : (at : ℕ) (text : List ℕ) (n : ℕ) (kind : TokenKind) → IsWrong text n kind → FirstFault at text (at + n) kind
  behind : (at : ℕ) (text : List ℕ) (t : Option Token) (rest : List ℕ) (n place : ℕ) (kind : TokenKind) → IsPiece text t rest
      → n + length rest ≡ length text → FirstFault (at + n) rest place kind → FirstFault at text place kind
