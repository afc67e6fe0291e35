-- The grammar of tokens over whole texts: which piece stands at the front of a text, and which tokens a text has.
use Rattle.std.specs.Prelude.{◌≡◌, ◌≢◌, ◌⊎◌, ◌<◌, ◌≤◌, ℕ, ◌+◌, ◌*◌, Bool, true, false, List, [], ◌∷◌, ◌++◌, length, Option, Some, None}
use Rattle.std.specs.List.{AllByRecursion}
use Rattle.gg_base.specs.Fronts.{in_line}
use Rattle.c_tokens.specs.declared.marks.Mark.{Mark}
use Rattle.c_tokens.specs.declared.words.Key.{Key}
use Rattle.c_tokens.specs.declared.token.Token.{Token}
use Rattle.c_tokens.specs.declared.token.Token.TheVariants as token
use Rattle.c_tokens.specs.declared.token.Spanned.{Spanned}
use Rattle.c_tokens.specs.Letters.{is_blank, is_letter, is_digit, in_word, digit_value, is_digit_of}
use Rattle.c_tokens.specs.Words.{key_text}
use Rattle.c_tokens.specs.Marks.{mark_text}
use Rattle.c_tokens.specs.Escapes.{named_escape}
use Rattle.c_tokens.specs.Pieces.{sign_copied}
use Rattle.c_tokens.specs.Reading.{spanned}

-- each byte passes the test
abbrev pub Pass : (ℕ → Bool) → List ℕ → Type 0
Pass p bs = AllByRecursion (λ (b : ℕ). p b ≡ true) bs

-- what stands here does not go on with a run of bytes that pass
abbrev pub Stops : (ℕ → Bool) → List ℕ → Type 0
Stops p [] = Unit {0}
Stops p (b ∷ bs) = p b ≡ false

-- the longest run at the front of the text, and what stands behind it
pub record IsRun (p : ℕ → Bool) (text run rest : List ℕ) : Type 0 where
  pub text_is : text ≡ run ++ rest
  pub pass : Pass p run
  pub stops : Stops p rest

-- the value of the digits behind n
abbrev pub value_behind : (base n : ℕ) → List ℕ → ℕ
value_behind base n [] = n
value_behind base n (d ∷ ds) = value_behind base (n * base + digit_value d) ds

abbrev pub value : (base : ℕ) → List ℕ → ℕ
value base ds = value_behind base 0 ds

-- the digits write this number
pub record Writes (base limit : ℕ) (digits : List ℕ) (v : ℕ) : Type 0 where
  pub digits_are : Pass (is_digit_of base) digits
  pub value_is : value base digits ≡ v
  pub small : v ≤ limit

-- a number: decimal without a leading zero, octal behind a zero, hexadecimal behind 0x or 0X
pub data IsNumber : List ℕ → ℕ → Type 0 where
  decimal : (d : ℕ) (ds : List ℕ) (v : ℕ) → d ≢ 48 → Writes 10 2147483647 (d ∷ ds) v → IsNumber (d ∷ ds) v
  octal : (ds : List ℕ) (v : ℕ) → Writes 8 4294967295 ds v → IsNumber (48 ∷ ds) v
  hexadecimal : (x d : ℕ) (ds : List ℕ) (v : ℕ) → (x ≡ 120) ⊎ (x ≡ 88) → Writes 16 4294967295 (d ∷ ds) v → IsNumber (48 ∷ x ∷ d ∷ ds) v

-- the longest run of up to three octal digits
pub record IsOctal (text digits rest : List ℕ) : Type 0 where
  pub text_is : text ≡ digits ++ rest
  pub pass : Pass (is_digit_of 8) digits
  pub some : 1 ≤ length digits
  pub longest : (length digits ≡ 3) ⊎ ((length digits < 3) × Stops (is_digit_of 8) rest)

-- an escape behind its backslash, the byte that it stands for, and what stands behind it
pub data IsEscape : List ℕ → ℕ → List ℕ → Type 0 where
  named : (b v : ℕ) (rest : List ℕ) → named_escape b ≡ Some v → IsEscape (b ∷ rest) v rest
  octal : (text digits : List ℕ) (v : ℕ) (rest : List ℕ) → IsOctal text digits rest → Writes 8 255 digits v → IsEscape text v rest
  hexadecimal : (text digits : List ℕ) (v : ℕ) (rest : List ℕ) → IsRun (is_digit_of 16) text digits rest → 1 ≤ length digits
      → length digits ≤ 2 → Writes 16 255 digits v → IsEscape (120 ∷ text) v rest

-- an element between these marks
pub data IsElement (mark : ℕ) : List ℕ → ℕ → List ℕ → Type 0 where
  plain : (b : ℕ) (rest : List ℕ) → b ≢ 92 → b ≢ 10 → b ≢ mark → IsElement mark (b ∷ rest) b rest
  escape : (text : List ℕ) (v : ℕ) (rest : List ℕ) → IsEscape text v rest → IsElement mark (92 ∷ text) v rest

pub data Elements (mark : ℕ) : List ℕ → List ℕ → List ℕ → Type 0 where
  none : (rest : List ℕ) → Elements mark rest [] rest
  more : (text : List ℕ) (v : ℕ) (middle vs rest : List ℕ) → IsElement mark text v middle → Elements mark middle vs rest
      → Elements mark text (v ∷ vs) rest

-- no */ stands in it
abbrev pub NoneCloses : List ℕ → Type 0
NoneCloses [] = Unit {0}
NoneCloses (a ∷ []) = Unit {0}
NoneCloses (a ∷ b ∷ bs) = ((a ≡ 42) → (b ≡ 47) → ⊥) × NoneCloses (b ∷ bs)

-- no comment begins here
abbrev pub NoComment : List ℕ → Type 0
NoComment [] = Unit {0}
NoComment (a ∷ []) = Unit {0}
NoComment (a ∷ b ∷ bs) = a ≡ 47 → (b ≢ 42) × (b ≢ 47)

-- the piece at the front of a text, the token that it is, if any, and what stands behind it
pub data IsPiece : List ℕ → Option Token → List ℕ → Type 0 where
  blank : (b : ℕ) (rest : List ℕ) → is_blank b ≡ true → IsPiece (b ∷ rest) None rest
  comment : (body rest : List ℕ) → NoneCloses (body ++ 42 ∷ []) → IsPiece (47 ∷ 42 ∷ body ++ 42 ∷ 47 ∷ rest) None rest
  line_comment : (text body rest : List ℕ) → IsRun in_line text body rest → IsPiece (47 ∷ 47 ∷ text) None rest
  keyword : (b : ℕ) (bs word rest : List ℕ) (k : Key) → is_letter b ≡ true → IsRun in_word (b ∷ bs) word rest → word
      ≡ key_text k → IsPiece (b ∷ bs) (Some (token.Key k)) rest
  name : (b : ℕ) (bs word rest : List ℕ) → is_letter b ≡ true → IsRun in_word (b ∷ bs) word rest
      → ((k : Key) → word ≢ key_text k) → length word ≤ 63 → IsPiece (b ∷ bs) (Some (token.Name word)) rest
  number : (b : ℕ) (bs word rest : List ℕ) (v : ℕ) → is_digit b ≡ true → IsRun in_word (b ∷ bs) word rest → IsNumber word v
      → IsPiece (b ∷ bs) (Some (token.Number v)) rest
  character : (text : List ℕ) (v : ℕ) (rest : List ℕ) → IsElement 39 text v (39 ∷ rest)
      → IsPiece (39 ∷ text) (Some (token.Number (sign_copied v))) rest
  string : (text vs rest : List ℕ) → Elements 34 text vs (34 ∷ rest) → IsPiece (34 ∷ text) (Some (token.Str vs)) rest
  mark : (text : List ℕ) (m : Mark) (rest : List ℕ) → text ≡ mark_text m ++ rest
      → ((n : Mark) (others : List ℕ) → text ≡ mark_text n ++ others → length (mark_text n) ≤ length (mark_text m))
      → NoComment text → IsPiece text (Some (token.Mark m)) rest

-- these are the tokens of a text that begins at the offset `at`
pub data Tokens : (at : ℕ) → List ℕ → List Spanned → Type 0 where
  ended : (at : ℕ) → Tokens at [] (record { kind = token.End; start = at; end = at } ∷ [])
  piece : (at : ℕ) (text : List ℕ) (t : Option Token) (rest : List ℕ) (n : ℕ) (ts : List Spanned) → IsPiece text t rest → n
      + length rest ≡ length text → Tokens (at + n) rest ts → Tokens at text (spanned t at (at + n) ++ ts)

-- the last token is the end of the text
abbrev pub IsEnded : List Spanned → Type 0
IsEnded [] = ⊥
IsEnded (t ∷ []) = t.kind ≡ token.End
IsEnded (t ∷ u ∷ ts) = IsEnded (u ∷ ts)
