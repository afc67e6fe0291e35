-- A text of words has their tokens where each is the piece at the front of what stands there.
use Rattle.std.proofs.Common.{◌≡◌, ◌<◌, ℕ, zero, suc, ◌+◌, List, [], ◌∷◌, ◌++◌, length, refl, sym, subst, ap, arith, length-append}
use Rattle.c_tokens.specs.declared.token.Token.TheVariants.{End}
use Rattle.c_tokens.specs.Grammar.{IsPiece, Tokens, ended, piece}
use Rattle.gg_load_tokens.specs.Words.{Word, spelled, behind, onto_tokens}
use Rattle.gg_load_tokens.specs.Lines.{words_up_to}
use Rattle.gg_load_tokens.proofs.Pieces.{IsTaken, taken}

-- each word is a piece, where `rest` stands behind the last
abbrev pub AreRead : List Word → List ℕ → Type 0
AreRead [] rest = Unit {0}
AreRead (w ∷ ws) rest = IsPiece (w.text ++ spelled ws rest) w.token (spelled ws rest) × AreRead ws rest

-- it is one for the reader of pieces
abbrev pub AreTaken : List Word → List ℕ → Type 0
AreTaken [] rest = Unit {0}
AreTaken (w ∷ ws) rest = IsTaken w (spelled ws rest) × AreTaken ws rest

pub are_taken : (ws : List Word) (rest : List ℕ) → AreTaken ws rest → AreRead ws rest
are_taken [] rest h = tt
are_taken (w ∷ ws) rest h = (taken w (spelled ws rest) h.0, are_taken ws rest h.1)

pub spelled-append : (xs ys : List Word) (rest : List ℕ) → spelled (xs ++ ys) rest ≡ spelled xs (spelled ys rest)
spelled-append [] ys rest = refl
spelled-append (x ∷ xs) ys rest = ap (λ (l : List ℕ). x.text ++ l) (spelled-append xs ys rest)

pub are_read-append : (xs ys : List Word) (rest : List ℕ) → AreRead xs (spelled ys rest) → AreRead ys rest → AreRead (xs ++ ys) rest
are_read-append [] ys rest h k = k
are_read-append (x ∷ xs) ys rest h k =
    (subst (λ (r : List ℕ). IsPiece (x.text ++ r) x.token r) (sym (spelled-append xs ys rest)) h.0, are_read-append xs ys rest h.1 k)

-- lines that are read whatever stands behind them
pub lines_are_read : (line : ℕ → List Word) (n : ℕ) → ((i : ℕ) → i < n → (rest : List ℕ) → AreRead (line i) rest) → (rest : List ℕ) → AreRead (words_up_to line n) rest
lines_are_read line zero each rest = tt
lines_are_read line (suc n) each rest =
    are_read-append (words_up_to line n) (line n) rest
    (lines_are_read line n (λ i low. each i (omega arith)) (spelled (line n) rest)) (each n (omega arith) rest)

pub tokens_of_words : (at : ℕ) (ws : List Word) → AreRead ws [] → Tokens at (spelled ws []) (onto_tokens at ws (record { kind = End; start = behind at ws; end = behind at ws } ∷ []))
tokens_of_words at [] h = ended at
tokens_of_words at (w ∷ ws) h =
    piece at (w.text ++ spelled ws []) w.token (spelled ws []) (length w.text) _ h.0 (sym (length-append w.text (spelled ws [])))
    (tokens_of_words (at + length w.text) ws h.1)
