-- What is left of a string behind the elements that were read.
use Rattle.std.proofs.Common.{◌≡◌, ◌<◌, ◌≤◌, ℕ, zero, suc, ◌+◌, false, eqb, List, [], ◌∷◌, ◌++◌, length, drop, get_or, Some, Result, Ok, Err, refl, sym, ◌∙◌, ap, arith, append_assoc, length-drop}
use Rattle.std.proofs.lemmas.Bool.{ne_eqb}
use Rattle.c_tokens.specs.declared.token.TokenFault.{TokenFault}
use Rattle.c_tokens.specs.Escapes.{element_of}
use Rattle.c_tokens.specs.Pieces.{string_from, put_value, put_byte}

-- these values, with so many bytes, and what is read behind them
abbrev pub so_far : List ℕ → ℕ → Result (List ℕ × ℕ) TokenFault → Result (List ℕ × ℕ) TokenFault
so_far vs n (Ok x) = Ok (vs ++ x.0, n + x.1)
so_far vs n (Err e) = Err e

-- what stands behind the bytes that were taken
pub rest_length : (total n m taken : ℕ) (rest behind : List ℕ) → behind ≡ drop taken rest → taken ≤ length rest → n + length rest ≡ total → m ≡ n + taken → m + length behind ≡ total
rest_length total n m taken rest behind e low f g = omega (arith, ap length e, length-drop taken rest)

pub rest_shorter : (taken : ℕ) (rest behind : List ℕ) → behind ≡ drop taken rest → 1 ≤ taken → taken ≤ length rest → length behind < length rest
rest_shorter taken rest behind e one low = omega (arith, ap length e, length-drop taken rest)

-- bytes that belong to the element before are passed
pub string_skip : (o at k : ℕ) (text : List ℕ) → k ≤ length text → string_from o at k text ≡ so_far [] k (string_from o (at + k) 0 (drop k text))
string_skip o at zero text low = rw (add_zero at) (ends (string_from o at 0 text))
  where
    add_zero : (n : ℕ) → n + 0 ≡ n
    add_zero n = omega arith

    ends : (r : Result (List ℕ × ℕ) TokenFault) → r ≡ so_far [] 0 r
    ends (Ok x) = let sums : 0 + x.1 ≡ x.1 = omega arith in rw sums refl
    ends (Err e) = refl
string_skip o at (suc k) [] low = absurd (omega arith)
string_skip o at (suc k) (b ∷ bs) low =
    let here : suc at + k ≡ at + suc k = omega arith in
    let below : k ≤ length bs = omega arith in
    ap put_byte (string_skip o (suc at) k bs below) ∙ (rw here (more (string_from o (at + suc k) 0 (drop k bs))))
  where
    more : (r : Result (List ℕ × ℕ) TokenFault) → put_byte (so_far [] k r) ≡ so_far [] (suc k) r
    more (Ok x) = let sums : suc k + x.1 ≡ suc (k + x.1) = omega arith in rw sums refl
    more (Err e) = refl

pub element_step : (o a n : ℕ) (vs : List ℕ) (b v k : ℕ) (bs : List ℕ) → eqb b 34 ≡ false → eqb b 10 ≡ false → element_of (b ∷ bs) ≡ Some (v, suc k) → k ≤ length bs
    → so_far (vs ++ v ∷ []) (n + suc k) (string_from o (a + suc k) 0 (drop k bs)) ≡ so_far vs n (string_from o a 0 (b ∷ bs))
element_step o a n vs b v k bs e f g low =
    let here : suc a + k ≡ a + suc k = omega arith in
    rw (e, f, g, string_skip o (suc a) k bs low, here) (joins (string_from o (a + suc k) 0 (drop k bs)))
  where
    joins : (r : Result (List ℕ × ℕ) TokenFault) → so_far (vs ++ v ∷ []) (n + suc k) r ≡ so_far vs n (put_value v (so_far [] k r))
    joins (Ok x) = let sums : n + suc k + x.1 ≡ n + suc (k + x.1) = omega arith in rw (append_assoc vs (v ∷ []) x.0, sums) refl
    joins (Err e) = refl

-- one more element
pub string_goes : (o a n : ℕ) (vs : List ℕ) (v taken : ℕ) (rest ws behind : List ℕ) (m b : ℕ) → 1 ≤ length rest → (get_or rest 0 0 ≡ 34 → ⊥) → (get_or rest 0 0 ≡ 10 → ⊥) → Some (v, taken)
    ≡ element_of rest → 1 ≤ taken → taken ≤ length rest → ws ≡ vs ++ v ∷ [] → behind ≡ drop taken rest → b ≡ a + taken → m ≡ n + taken → so_far ws m (string_from o b 0 behind)
    ≡ so_far vs n (string_from o a 0 rest)
string_goes o a n vs v taken [] ws behind m b some e f g one low h i j l = absurd (omega arith)
string_goes o a n vs v zero (c ∷ cs) ws behind m b some e f g one low h i j l = absurd (omega arith)
string_goes o a n vs v (suc k) (c ∷ cs) ws behind m b some e f g one low h i j l =
    let below : k ≤ length cs = omega arith in
    rw (h, i, j, l) (element_step o a n vs c v k cs (ne_eqb c 34 e) (ne_eqb c 10 f) (sym g) below)
