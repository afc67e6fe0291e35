-- Numbers in lists of bytes, byte by byte.
use Rattle.std.proofs.Common.{◌≡◌, ◌⊎◌, inl, inr, ℕ, zero, suc, ◌+◌, ◌-◌, ◌%◌, ◌^◌, ◌<◌, ◌≤◌, List, [], ◌∷◌, ◌++◌, length, take, drop, refl, sym, ap, ◌∙◌, arith}
use Rattle.std.proofs.Common.{length-take-le, drop-cons, get_or-set_other, get_or-set_same, get_or-drop, get_or-take}
use Rattle.std.specs.Prelude.{slice_index}
use Rattle.std.specs.Int.{w16, w32, to_le_bytes, from_le_bytes}
use Rattle.gg_base.specs.declared.size.Size.{Size}
use Rattle.gg_base.specs.declared.size.Size.TheVariants.{Byte, Word, Long}
use Rattle.gg_base.specs.Sizes.{bytes_of}
use Rattle.gg_base.specs.LittleEndian.{number_in, with_number}

-- ---- a number by its bytes

one_more : (xs ys : List ℕ) (at n : ℕ) → at < length xs → at < length ys → slice_index xs at ≡ slice_index ys at
    → take n (drop (suc at) xs) ≡ take n (drop (suc at) ys) → take (suc n) (drop at xs) ≡ take (suc n) (drop at ys)
one_more xs ys at n p q e rest =
    ap (take (suc n)) (drop-cons xs at 0 p) ∙ ap (λ (b : ℕ). b ∷ take n (drop (suc at) xs)) e ∙ ap (λ (bs : List ℕ). slice_index ys at ∷ bs) rest
    ∙ sym (ap (take (suc n)) (drop-cons ys at 0 q))

parts_same : (n : ℕ) (xs ys : List ℕ) (at : ℕ) → at + n ≤ length xs → at + n ≤ length ys → ((j : ℕ) → j < n → slice_index xs (at + j) ≡ slice_index ys (at + j))
    → take n (drop at xs) ≡ take n (drop at ys)
parts_same zero xs ys at p q e = refl
parts_same (suc n) xs ys at p q e =
    let here : at + 0 ≡ at = omega arith in
    one_more xs ys at n (omega (arith, p)) (omega (arith, q))
    (ap (slice_index xs) (sym here) ∙ e 0 (omega arith) ∙ ap (slice_index ys) here)
    (parts_same n xs ys (suc at) (omega (arith, p)) (omega (arith, q))
    (λ j lt. let next : at + suc j ≡ suc at + j = omega arith in ap (slice_index xs) (sym next) ∙ e (suc j) (omega (arith, lt)) ∙ ap (slice_index ys) next))

pub numbers_same : (size : Size) (xs ys : List ℕ) (at : ℕ) → at + bytes_of size ≤ length xs → at + bytes_of size ≤ length ys
    → ((j : ℕ) → j < bytes_of size → slice_index xs (at + j) ≡ slice_index ys (at + j)) → number_in size xs at ≡ number_in size ys at
numbers_same Byte xs ys at p q e = let here : at + 0 ≡ at = omega arith in ap (slice_index xs) (sym here) ∙ e 0 (omega arith) ∙ ap (slice_index ys) here
numbers_same Word xs ys at p q e = ap (from_le_bytes w16) (parts_same 2 xs ys at p q e)
numbers_same Long xs ys at p q e = ap (from_le_bytes w32) (parts_same 4 xs ys at p q e)

-- ---- the bytes behind a number was put

front : (xs ys : List ℕ) (i : ℕ) → i < length xs → slice_index (xs ++ ys) i ≡ slice_index xs i
front [] ys i lt = absurd (omega (arith, lt))
front (x ∷ xs) ys zero lt = refl
front (x ∷ xs) ys (suc i) lt = front xs ys i (omega (arith, lt))

behind : (xs ys : List ℕ) (i : ℕ) → length xs ≤ i → slice_index (xs ++ ys) i ≡ slice_index ys (i - length xs)
behind [] ys i le = ap (slice_index ys) (omega arith)
behind (x ∷ xs) ys zero le = absurd (omega (arith, le))
behind (x ∷ xs) ys (suc i) le = behind xs ys i (omega (arith, le)) ∙ ap (slice_index ys) (omega arith)

-- some bytes put over others
module _ (mid : List ℕ) (n : ℕ) (of_size : length mid ≡ n) (xs : List ℕ) (at : ℕ) (fits : at + n ≤ length xs) where
  start : length (take at xs) ≡ at
  start = length-take-le at xs (omega (arith, fits))

  put_below : (i : ℕ) → i < at → slice_index (take at xs ++ (mid ++ drop (at + n) xs)) i ≡ slice_index xs i
  put_below i lt = front (take at xs) (mid ++ drop (at + n) xs) i (omega (arith, start, lt)) ∙ get_or-take at xs i 0 lt

  put_inside : (i : ℕ) → at ≤ i → i < at + n → slice_index (take at xs ++ (mid ++ drop (at + n) xs)) i ≡ slice_index mid (i - at)
  put_inside i from to =
      behind (take at xs) (mid ++ drop (at + n) xs) i (omega (arith, start, from)) ∙ front mid (drop (at + n) xs) (i - length (take at xs)) (omega (arith, start, to, from, of_size))
      ∙ ap (λ (k : ℕ). slice_index mid (i - k)) start

  put_above : (i : ℕ) → at + n ≤ i → slice_index (take at xs ++ (mid ++ drop (at + n) xs)) i ≡ slice_index xs i
  put_above i from =
      behind (take at xs) (mid ++ drop (at + n) xs) i (omega (arith, start, from))
      ∙ behind mid (drop (at + n) xs) (i - length (take at xs)) (omega (arith, start, from, of_size))
      ∙ get_or-drop (at + n) xs (i - length (take at xs) - length mid) 0 ∙ ap (slice_index xs) (omega (arith, start, from, of_size))

pub with_outside : (size : Size) (xs : List ℕ) (at v i : ℕ) → at + bytes_of size ≤ length xs → (i < at) ⊎ (at + bytes_of size ≤ i)
    → slice_index (with_number size xs at v) i ≡ slice_index xs i
with_outside Byte xs at v i fits (inl lt) = get_or-set_other xs at i (v % 2 ^ 8) 0 (λ e. omega (arith, e, lt))
with_outside Byte xs at v i fits (inr le) = get_or-set_other xs at i (v % 2 ^ 8) 0 (λ e. omega (arith, e, le))
with_outside Word xs at v i fits (inl lt) = put_below (to_le_bytes w16 (v % 2 ^ 16)) 2 refl xs at fits i lt
with_outside Word xs at v i fits (inr le) = put_above (to_le_bytes w16 (v % 2 ^ 16)) 2 refl xs at fits i le
with_outside Long xs at v i fits (inl lt) = put_below (to_le_bytes w32 v) 4 refl xs at fits i lt
with_outside Long xs at v i fits (inr le) = put_above (to_le_bytes w32 v) 4 refl xs at fits i le

pub with_inside : (size : Size) (xs ys : List ℕ) (at v i : ℕ) → at + bytes_of size ≤ length xs → at + bytes_of size ≤ length ys → at ≤ i → i < at + bytes_of size
    → slice_index (with_number size xs at v) i ≡ slice_index (with_number size ys at v) i
with_inside Byte xs ys at v i p q from to =
    let here : i ≡ at = omega (arith, from, to) in
    ap (slice_index (with_number Byte xs at v)) here ∙ get_or-set_same xs at (v % 2 ^ 8) 0 (omega (arith, p)) ∙ sym (get_or-set_same ys at (v % 2 ^ 8) 0 (omega (arith, q)))
    ∙ ap (slice_index (with_number Byte ys at v)) (sym here)
with_inside Word xs ys at v i p q from to =
    put_inside (to_le_bytes w16 (v % 2 ^ 16)) 2 refl xs at p i from to ∙ sym (put_inside (to_le_bytes w16 (v % 2 ^ 16)) 2 refl ys at q i from to)
with_inside Long xs ys at v i p q from to = put_inside (to_le_bytes w32 v) 4 refl xs at p i from to ∙ sym (put_inside (to_le_bytes w32 v) 4 refl ys at q i from to)

-- a longword that lies apart stays
pub number_stays : (size : Size) (xs : List ℕ) (at v other : ℕ) → at + bytes_of size ≤ length xs → other + 4 ≤ length xs → length (with_number size xs at v) ≡ length xs
    → (other + 4 ≤ at) ⊎ (at + bytes_of size ≤ other) → number_in Long (with_number size xs at v) other ≡ number_in Long xs other
number_stays size xs at v other fits inside same (inl le) =
    numbers_same Long (with_number size xs at v) xs other (omega (arith, same, inside)) inside (λ j lt. with_outside size xs at v (other + j) fits (inl (omega (arith, lt, le))))
number_stays size xs at v other fits inside same (inr le) =
    numbers_same Long (with_number size xs at v) xs other (omega (arith, same, inside)) inside (λ j lt. with_outside size xs at v (other + j) fits (inr (omega (arith, lt, le))))
