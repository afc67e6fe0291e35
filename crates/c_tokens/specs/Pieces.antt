-- How the piece at the front of a text is read: a token or what parts tokens, and its length.
use Rattle.std.specs.Prelude.{ℕ, zero, suc, pred, ◌+◌, Bool, false, ◌==◌, ◌&&◌, nat_le, nat_lt, List, [], ◌∷◌, length, take}
use Rattle.std.specs.Prelude.{drop, Option, Some, None, Result, Ok, Err, if◌then◌else◌}
use Rattle.std.specs.Option.{option_map}
use Rattle.gg_base.specs.Fronts.{run_len, in_line}
use Rattle.c_tokens.specs.declared.pieces.Piece.{Piece}
use Rattle.c_tokens.specs.declared.marks.Mark.{Mark}
use Rattle.c_tokens.specs.declared.words.Key.{Key}
use Rattle.c_tokens.specs.declared.token.Token.{Token}
use Rattle.c_tokens.specs.declared.token.Token.TheVariants as token
use Rattle.c_tokens.specs.declared.token.TokenFault.{TokenFault}
use Rattle.c_tokens.specs.declared.token.TokenFault.TheVariants.{At}
use Rattle.c_tokens.specs.declared.token.TokenKind.{TokenKind}
use Rattle.c_tokens.specs.declared.token.TokenKind.TheVariants.{BadByte, BadNumber, LongName, BadEscape, BadChar, Unclosed}
use Rattle.c_tokens.specs.Letters.{is_blank, is_letter, is_digit, in_word}
use Rattle.c_tokens.specs.Words.{key_of}
use Rattle.c_tokens.specs.Marks.{mark_of, mark_text}
use Rattle.c_tokens.specs.Numbers.{number_of}
use Rattle.c_tokens.specs.Escapes.{element_of}

abbrev pub parts : ℕ → Result Piece TokenFault
parts n = Ok (record { token = None; length = n })

abbrev pub holds : ℕ → Result Token TokenFault → Result Piece TokenFault
holds n (Ok t) = Ok (record { token = Some t; length = n })
holds n (Err e) = Err e

abbrev pub wrong : {A : Type 0} → ℕ → TokenKind → Result A TokenFault
wrong place kind = Err (At place kind)

-- words
abbrev pub keyword_or_name : ℕ → Option Key → List ℕ → Result Token TokenFault
keyword_or_name at (Some k) word = Ok (token.Key k)
keyword_or_name at None word = if nat_le (length word) 63 then Ok (token.Name word) else wrong at LongName

abbrev pub word_token : ℕ → List ℕ → Result Token TokenFault
word_token at word = keyword_or_name at (key_of word) word

abbrev pub word_piece : ℕ → List ℕ → Result Piece TokenFault
word_piece at text = holds (run_len in_word text) (word_token at (take (run_len in_word text) text))

-- numbers
abbrev pub number_or_not : ℕ → Option ℕ → Result Token TokenFault
number_or_not at (Some v) = Ok (token.Number v)
number_or_not at None = wrong at BadNumber

abbrev pub number_piece : ℕ → List ℕ → Result Piece TokenFault
number_piece at text = holds (run_len in_word text) (number_or_not at (number_of (take (run_len in_word text) text)))

-- a byte with its sign copied into 32 bits
abbrev pub sign_copied : ℕ → ℕ
sign_copied v = if nat_lt v 128 then v else v + 4294967040

-- character constants, by what stands behind the opening mark
abbrev pub character_end : ℕ → ℕ → ℕ → List ℕ → Result Piece TokenFault
character_end at v n [] = wrong at Unclosed
character_end at v n (b ∷ bs) = if b == 10 then wrong at Unclosed else if b ==
    39 then holds (n + 2) (Ok (token.Number (sign_copied v))) else wrong at BadChar

abbrev pub character_behind : ℕ → Option (ℕ × ℕ) → List ℕ → Result Piece TokenFault
character_behind at None text = wrong (at + 1) BadEscape
character_behind at (Some x) text = character_end at x.0 x.1 (drop x.1 text)

abbrev pub character_piece : ℕ → List ℕ → Result Piece TokenFault
character_piece at [] = wrong at Unclosed
character_piece at (b ∷ bs) = if b == 10 then wrong at Unclosed else if b ==
    39 then wrong at BadChar else character_behind at (element_of (b ∷ bs)) (b ∷ bs)

-- strings, by what stands behind the opening mark: the values of the elements, and the length with the closing mark
abbrev pub put_value : ℕ → Result (List ℕ × ℕ) TokenFault → Result (List ℕ × ℕ) TokenFault
put_value v (Ok x) = Ok (v ∷ x.0, suc x.1)
put_value v (Err e) = Err e

abbrev pub put_byte : Result (List ℕ × ℕ) TokenFault → Result (List ℕ × ℕ) TokenFault
put_byte (Ok x) = Ok (x.0, suc x.1)
put_byte (Err e) = Err e

abbrev pub element_then : ℕ → Option (ℕ × ℕ) → (ℕ → Result (List ℕ × ℕ) TokenFault) → Result (List ℕ × ℕ) TokenFault
element_then at None rest = wrong at BadEscape
element_then at (Some x) rest = put_value x.0 (rest (pred x.1))

-- the string whose opening mark stands at `open`, from the offset `at` on, where the next k bytes belong to the element before
abbrev pub string_from : (opened at k : ℕ) → List ℕ → Result (List ℕ × ℕ) TokenFault
string_from opened at k [] = wrong opened Unclosed
string_from opened at zero (b ∷ bs) = if b == 34 then Ok ([], 1) else if b ==
    10 then wrong opened Unclosed else element_then at (element_of (b ∷ bs)) (λ (k : ℕ). string_from opened (suc at) k bs)
string_from opened at (suc k) (b ∷ bs) = put_byte (string_from opened (suc at) k bs)

abbrev pub string_token : Result (List ℕ × ℕ) TokenFault → Result Piece TokenFault
string_token (Ok x) = holds (x.1 + 1) (Ok (token.Str x.0))
string_token (Err e) = Err e

-- comments
abbrev pub closes : List ℕ → Bool
closes [] = false
closes (a ∷ []) = false
closes (a ∷ b ∷ bs) = (a == 42) && (b == 47)

-- the length up to and with the first */
abbrev pub comment_len : List ℕ → Option ℕ
comment_len [] = None
comment_len (b ∷ bs) = if closes (b ∷ bs) then Some 2 else option_map suc (comment_len bs)

abbrev pub comment_or_not : ℕ → Option ℕ → Result Piece TokenFault
comment_or_not at (Some n) = parts (n + 2)
comment_or_not at None = wrong at Unclosed

-- marks
abbrev pub mark_or_not : ℕ → Option Mark → Result Piece TokenFault
mark_or_not at (Some m) = holds (length (mark_text m)) (Ok (token.Mark m))
mark_or_not at None = wrong at BadByte

abbrev pub mark_piece : ℕ → List ℕ → Result Piece TokenFault
mark_piece at text = mark_or_not at (mark_of text)

-- what stands behind a /
abbrev pub slash_piece : ℕ → List ℕ → List ℕ → Result Piece TokenFault
slash_piece at [] text = mark_piece at text
slash_piece at (b ∷ bs) text = if b == 42 then comment_or_not at (comment_len bs) else if b ==
    47 then parts (run_len in_line bs + 2) else mark_piece at text

-- the piece at the front of a text that begins at the offset
abbrev pub piece_of : ℕ → List ℕ → Result Piece TokenFault
piece_of at [] = wrong at BadByte
piece_of at (b ∷ bs) = if is_blank b then parts 1 else if is_letter b then word_piece at (b ∷ bs) else if is_digit b
    then number_piece at (b ∷ bs) else if b == 39 then character_piece at bs else if b ==
    34 then string_token (string_from at (at + 1) 0 bs) else if b == 47 then slash_piece at bs (b ∷ bs) else mark_piece at (b ∷ bs)
