-- What is left of a text behind the pieces that were read.
use Rattle.std.proofs.Common.{◌≡◌, ◌≤◌, ℕ, zero, suc, pred, ◌+◌, List, [], ◌∷◌, ◌++◌, length, drop, Result, Ok, Err, refl, ◌∙◌, arith, append_assoc}
use Rattle.c_tokens.specs.declared.pieces.Piece.{Piece}
use Rattle.c_tokens.specs.declared.token.Spanned.{Spanned}
use Rattle.c_tokens.specs.declared.token.TokenFault.{TokenFault}
use Rattle.c_tokens.specs.Pieces.{piece_of}
use Rattle.c_tokens.proofs.PieceLaws.{piece_says}
use Rattle.c_tokens.specs.Reading.{read_from, read, in_front, spanned}

-- bytes that belong to the piece before are passed
pub read_skip : (k at : ℕ) (text : List ℕ) → k ≤ length text → read_from k at text ≡ read_from 0 (at + k) (drop k text)
read_skip zero at text low = let e : at + 0 ≡ at = omega arith in rw e refl
read_skip (suc k) at [] low = absurd (omega arith)
read_skip (suc k) at (b ∷ bs) low =
    let here : suc at + k ≡ at + suc k = omega arith in
    let below : k ≤ length bs = omega arith in
    read_skip k (suc at) bs below ∙ rw here refl

-- what is read behind a piece
pub piece_then : (at : ℕ) (b : ℕ) (bs : List ℕ) (p : Piece) → piece_of at (b ∷ bs) ≡ Ok p → 1 ≤ p.length → p.length ≤ suc (length bs) → read_from 0 at (b ∷ bs)
    ≡ in_front (spanned p.token at (at + p.length)) (read_from 0 (at + p.length) (drop p.length (b ∷ bs)))
piece_then at b bs p e one low = rw e (by p.length one low)
  where
    by : (n : ℕ) → 1 ≤ n → n ≤ suc (length bs) → in_front (spanned p.token at (at + p.length)) (read_from (pred n) (suc at) bs)
        ≡ in_front (spanned p.token at (at + p.length)) (read_from 0 (at + n) (drop n (b ∷ bs)))
    by zero one low = absurd (omega arith)
    by (suc k) one low =
        let here : suc at + k ≡ at + suc k = omega arith in
        let below : k ≤ length bs = omega arith in
        rw (read_skip k (suc at) bs below, here) refl

in_front_twice : (xs ys : List Spanned) (r : Result (List Spanned) TokenFault) → in_front (xs ++ ys) r ≡ in_front xs (in_front ys r)
in_front_twice xs ys (Ok zs) = rw (append_assoc xs ys zs) refl
in_front_twice xs ys (Err e) = refl

-- one more piece
pub reads_on : (found more : List Spanned) (at m : ℕ) (rest behind : List ℕ) (p : Piece) → 1 ≤ length rest → piece_of at rest ≡ Ok p → 1 ≤ p.length → p.length ≤ length rest → more ≡ found
    ++ spanned p.token at m → behind ≡ drop p.length rest → m ≡ at + p.length → in_front more (read_from 0 m behind) ≡ in_front found (read_from 0 at rest)
reads_on found more at m [] behind p some e one low h i j = absurd (omega arith)
reads_on found more at m (b ∷ bs) behind p some e one low h i j = rw (h, i, j, in_front_twice, piece_then at b bs p e one low) refl

pub reads_begin : (bytes : List ℕ) → in_front [] (read_from 0 0 bytes) ≡ read bytes
unfolding read
reads_begin bytes = by (read_from 0 0 bytes)
  where
    by : (r : Result (List Spanned) TokenFault) → in_front [] r ≡ r
    by (Ok x) = refl
    by (Err e) = refl

-- a piece has at least one byte
pub piece_some : (at : ℕ) (text : List ℕ) (p : Piece) → 1 ≤ length text → piece_of at text ≡ Ok p → 1 ≤ p.length
piece_some at [] p some e = absurd (omega arith)
piece_some at (b ∷ bs) p some e = (rw e at (piece_says at b bs)).some
