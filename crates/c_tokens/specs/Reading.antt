-- How a text is read, piece by piece.
use Rattle.std.specs.Prelude.{◌≡◌, ℕ, zero, suc, pred, ◌+◌, List, [], ◌∷◌, ◌++◌, Option, Some, None, Result, Ok, Err}
use Rattle.std.specs.Global.{Vec}
use Rattle.c_tokens.specs.declared.pieces.Piece.{Piece}
use Rattle.c_tokens.specs.declared.token.Token.{Token}
use Rattle.c_tokens.specs.declared.token.Token.TheVariants.{End}
use Rattle.c_tokens.specs.declared.token.Spanned.{Spanned}
use Rattle.c_tokens.specs.declared.token.TokenFault.{TokenFault}
use Rattle.c_tokens.specs.declared.token.TokenFault.TheVariants.{NoMemory, At}
use Rattle.c_tokens.specs.Pieces.{piece_of}

-- the answer is this one, or memory ran out
abbrev pub Gives : {A : Type 0} → Result A TokenFault → Result A TokenFault → Type 0
Gives (Ok x) wanted = wanted ≡ Ok x
Gives (Err NoMemory) wanted = Unit {0}
Gives (Err (At place kind)) wanted = wanted ≡ Err (At place kind)

abbrev pub spanned : Option Token → ℕ → ℕ → List Spanned
spanned None from to = []
spanned (Some t) from to = record { kind = t; start = from; end = to } ∷ []

abbrev pub in_front : List Spanned → Result (List Spanned) TokenFault → Result (List Spanned) TokenFault
in_front xs (Ok ys) = Ok (xs ++ ys)
in_front xs (Err e) = Err e

abbrev pub then_read : ℕ → Result Piece TokenFault → (ℕ → Result (List Spanned) TokenFault) → Result (List Spanned) TokenFault
then_read at (Ok p) rest = in_front (spanned p.token at (at + p.length)) (rest (pred p.length))
then_read at (Err e) rest = Err e

-- the tokens of the text from the offset `at` on, where the next k bytes belong to the piece before
abbrev pub read_from : (k at : ℕ) → List ℕ → Result (List Spanned) TokenFault
read_from k at [] = Ok (record { kind = End; start = at; end = at } ∷ [])
read_from zero at (b ∷ bs) = then_read at (piece_of at (b ∷ bs)) (λ (k : ℕ). read_from k (suc at) bs)
read_from (suc k) at (b ∷ bs) = read_from k (suc at) bs

-- the tokens of a whole text, or its first fault from the left
unfoldable pub read : List ℕ → Result (List Spanned) TokenFault
read bytes = read_from 0 0 bytes

-- the answer is this one, or memory ran out
abbrev pub Answers : Result (Vec Spanned) TokenFault → Result (List Spanned) TokenFault → Type 0
Answers (Ok v) wanted = wanted ≡ Ok v.items
Answers (Err NoMemory) wanted = Unit {0}
Answers (Err (At place kind)) wanted = wanted ≡ Err (At place kind)
