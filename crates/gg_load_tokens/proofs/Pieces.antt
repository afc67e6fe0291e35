-- What stands at the front of a text of words.
use Rattle.std.proofs.Common.{◌≡◌, ◌≢◌, ◌<◌, ◌≤◌, ℕ, suc, ◌^◌, true, List, [], ◌∷◌, ◌++◌, length, Option, Some, None, Result, Ok, refl, sym, subst, arith}
use Rattle.std.proofs.Math.Seq.{drop-append_seam}
use Rattle.std.proofs.lemmas.Fmt.{length-decimal-le}
use Rattle.std.specs.Fmt.{decimal}
use Rattle.c_tokens.specs.declared.pieces.Piece.{Piece}
use Rattle.c_tokens.specs.declared.marks.Mark.TheVariants.{Plus, Star}
use Rattle.c_tokens.specs.declared.words.Key.{Key}
use Rattle.c_tokens.specs.declared.token.Token.{Token}
use Rattle.c_tokens.specs.declared.token.Token.TheVariants as token
use Rattle.c_tokens.specs.declared.token.TokenFault.{TokenFault}
use Rattle.c_tokens.specs.Letters.{in_word, is_digit}
use Rattle.c_tokens.specs.Words.{key_text, key_of}
use Rattle.c_tokens.specs.Marks.{mark_of}
use Rattle.c_tokens.specs.Pieces.{piece_of}
use Rattle.c_tokens.specs.Grammar as grammar
use Rattle.c_tokens.specs.Grammar.{Stops, IsPiece}
use Rattle.c_tokens.proofs.PieceLaws.{PieceSays, piece_says}
use Rattle.c_tokens.proofs.TableLaws.{no_key}
use Rattle.gg_load_tokens.specs.Words.{Word}
use Rattle.gg_load_tokens.specs.Lines.{function_name}
use Rattle.gg_load_tokens.proofs.Digits.{IsDigit, on_digit, decimal_digits, pass_word, first_of, decimal_is_number}

-- the reader of a piece takes this word
abbrev pub IsTaken : Word → List ℕ → Type 0
IsTaken w rest = piece_of 0 (w.text ++ rest) ≡ Ok (record { token = w.token; length = length w.text })

taken_piece : (b : ℕ) (bs rest : List ℕ) (t : Option Token) → piece_of 0 (b ∷ bs ++ rest) ≡ Ok (record { token = t; length = suc (length bs) }) → IsPiece (b ∷ bs ++ rest) t rest
taken_piece b bs rest t e =
    let says = subst (λ (r : Result Piece TokenFault). PieceSays 0 (b ∷ bs ++ rest) r) e (piece_says 0 b (bs ++ rest)) in
    subst (λ (r : List ℕ). IsPiece (b ∷ bs ++ rest) t r) (drop-append_seam (b ∷ bs) rest) says.is

nothing_taken : (rest : List ℕ) (t : Option Token) → piece_of 0 rest ≡ Ok (record { token = t; length = 0 }) → ⊥
nothing_taken [] t e = cc
nothing_taken (b ∷ bs) t e =
    let one : 1 ≤ 0 = (subst (λ (r : Result Piece TokenFault). PieceSays 0 (b ∷ bs) r) e (piece_says 0 b bs)).some in omega arith

pub taken : (w : Word) (rest : List ℕ) → IsTaken w rest → IsPiece (w.text ++ rest) w.token rest
taken w rest = by w.text w.token
  where
    by : (text : List ℕ) (t : Option Token) → piece_of 0 (text ++ rest) ≡ Ok (record { token = t; length = length text }) → IsPiece (text ++ rest) t rest
    by [] t e = absurd (nothing_taken rest t e)
    by (b ∷ bs) t e = taken_piece b bs rest t e

-- f and a digit begin no keyword
no_keyword : (d : ℕ) (ds : List ℕ) → IsDigit d → key_of (102 ∷ d ∷ ds) ≡ None
unfolding key_of
no_keyword d ds = on_digit (λ (d : ℕ). key_of (102 ∷ d ∷ ds) ≡ None) refl refl refl refl refl refl refl refl refl refl d

pub function_name_is_none : (i : ℕ) → i < 1000 → (k : Key) → function_name i ≢ key_text k
function_name_is_none i low =
    let f = first_of i (omega arith) in
    no_key (function_name i) (subst (λ (ds : List ℕ). key_of (102 ∷ ds) ≡ None) (sym f.is) (no_keyword f.digit f.others f.digits.are.0))

pub function_name_taken : (i : ℕ) → i < 1000 → (rest : List ℕ) → Stops in_word rest → IsPiece (function_name i ++ rest) (Some (token.Name (function_name i))) rest
function_name_taken i low rest stops =
    let short : length (decimal i) ≤ 3 = length-decimal-le 3 i (omega arith) (omega arith) (omega arith) in
    let pass = pass_word (decimal i) (decimal_digits i (omega arith)).are in
    grammar.name 102 (decimal i ++ rest) (function_name i) rest refl (record { text_is = refl; pass = (refl, pass); stops = stops }) (function_name_is_none i low) (omega arith)

first_is_digit : (d : ℕ) → IsDigit d → is_digit d ≡ true
first_is_digit = on_digit (λ (d : ℕ). is_digit d ≡ true) refl refl refl refl refl refl refl refl refl refl

pub number_taken : (n : ℕ) → n ≤ 2147483647 → (rest : List ℕ) → Stops in_word rest → IsPiece (decimal n ++ rest) (Some (token.Number n)) rest
number_taken n low rest stops =
    let f = first_of n (omega arith) in
    let pass = pass_word (f.digit ∷ f.others) f.digits.are in
    subst (λ (ds : List ℕ). IsPiece (ds ++ rest) (Some (token.Number n)) rest) (sym f.is)
    (grammar.number f.digit (f.others ++ rest) (f.digit ∷ f.others) rest n (first_is_digit f.digit f.digits.are.0)
    (record { text_is = refl; pass = pass; stops = stops }) (subst (λ (ds : List ℕ). grammar.IsNumber ds n) f.is (decimal_is_number n low)))

-- a sign in front of a digit is no longer mark
star_before : (d : ℕ) (ds : List ℕ) → IsDigit d → piece_of 0 (42 ∷ d ∷ ds) ≡ Ok (record { token = Some (token.Mark Star); length = 1 })
unfolding mark_of
star_before d ds = on_digit (λ (d : ℕ). piece_of 0 (42 ∷ d ∷ ds) ≡ Ok (record { token = Some (token.Mark Star); length = 1 })) refl refl refl refl refl refl refl refl refl refl d

plus_before : (d : ℕ) (ds : List ℕ) → IsDigit d → piece_of 0 (43 ∷ d ∷ ds) ≡ Ok (record { token = Some (token.Mark Plus); length = 1 })
unfolding mark_of
plus_before d ds = on_digit (λ (d : ℕ). piece_of 0 (43 ∷ d ∷ ds) ≡ Ok (record { token = Some (token.Mark Plus); length = 1 })) refl refl refl refl refl refl refl refl refl refl d

pub star_taken : (n : ℕ) → n < 2 ^ 64 → (rest : List ℕ) → IsPiece (42 ∷ (decimal n ++ rest)) (Some (token.Mark Star)) (decimal n ++ rest)
star_taken n low rest =
    let f = first_of n low in
    subst (λ (ds : List ℕ). IsPiece (42 ∷ (ds ++ rest)) (Some (token.Mark Star)) (ds ++ rest)) (sym f.is)
    (taken_piece 42 [] (f.digit ∷ f.others ++ rest) (Some (token.Mark Star)) (star_before f.digit (f.others ++ rest) f.digits.are.0))

pub plus_taken : (n : ℕ) → n < 2 ^ 64 → (rest : List ℕ) → IsPiece (43 ∷ (decimal n ++ rest)) (Some (token.Mark Plus)) (decimal n ++ rest)
plus_taken n low rest =
    let f = first_of n low in
    subst (λ (ds : List ℕ). IsPiece (43 ∷ (ds ++ rest)) (Some (token.Mark Plus)) (ds ++ rest)) (sym f.is)
    (taken_piece 43 [] (f.digit ∷ f.others ++ rest) (Some (token.Mark Plus)) (plus_before f.digit (f.others ++ rest) f.digits.are.0))
