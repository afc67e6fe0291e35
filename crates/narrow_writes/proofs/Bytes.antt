-- A number put into a list of bytes: what stands there, that all else stays, and that it is as if a longword were put there.
use Rattle.std.proofs.Common.{◌≡◌, ◌⊎◌, inl, inr, ℕ, zero, suc, ◌+◌, ◌*◌, ◌%◌, ◌^◌, ◌<◌, ◌≤◌, List, [], ◌∷◌, ◌++◌, length, take, drop, refl, sym, ap, subst, ◌∙◌, arith}
use Rattle.std.specs.Prelude.{slice_index, slice_set}
use Rattle.std.specs.Int.{w16, w32, to_le_bytes}
use Rattle.std.proofs.lemmas.Nat.{from_le_bytes-to_le_bytes_2, le_bytes_4}
use Rattle.sel_target.proofs.AreaBytes.{take_index}
use Rattle.gg_base.specs.declared.size.Size.{Size}
use Rattle.gg_base.specs.declared.size.Size.TheVariants.{Byte, Word, Long}
use Rattle.gg_base.specs.Sizes.{bytes_of, low}
use Rattle.gg_base.specs.LittleEndian.{number_in, with_number}
use Rattle.narrow_writes.specs.Laws.{merged_long, NarrowWritesAreLong}
use Rattle.vax_machine_lists.specs.Sound.{AllBelow}
use Rattle.vax_machine_lists.proofs.Longwords.{number-with, below_take, below_drop, below_get, with_below}

-- ---- some bytes put over others

-- at the front
abbrev over : List ℕ → List ℕ → List ℕ
over [] bytes = bytes
over (x ∷ p) [] = []
over (x ∷ p) (b ∷ bs) = x ∷ over p bs

-- behind so many
abbrev patched : ℕ → List ℕ → List ℕ → List ℕ
patched zero p bytes = over p bytes
patched (suc k) p [] = []
patched (suc k) p (b ∷ bs) = b ∷ patched k p bs

front_is : (p bytes : List ℕ) (n : ℕ) → length p ≡ n → n ≤ length bytes → p ++ drop n bytes ≡ over p bytes
front_is [] bytes n e le = ap (λ k. drop k bytes) (sym e)
front_is (x ∷ p) [] n e le = absurd (omega (arith, e, le))
front_is (x ∷ p) (b ∷ bs) zero e le = absurd (omega (arith, e))
front_is (x ∷ p) (b ∷ bs) (suc n) e le = ap (λ l. x ∷ l) (front_is p bs n (omega (arith, e)) (omega (arith, le)))

put_is : (place : ℕ) (p bytes : List ℕ) (n : ℕ) → length p ≡ n → place + n ≤ length bytes → take place bytes ++ (p ++ drop (place + n) bytes) ≡ patched place p bytes
put_is zero p bytes n e le = ap (λ k. p ++ drop k bytes) (let z : 0 + n ≡ n = omega arith in z) ∙ front_is p bytes n e (omega (arith, le))
put_is (suc k) p [] n e le = absurd (omega (arith, le))
put_is (suc k) p (b ∷ bs) n e le =
    ap (λ j. b ∷ (take k bs ++ (p ++ drop j (b ∷ bs)))) (let z : suc k + n ≡ suc (k + n) = omega arith in z) ∙ ap (λ l. b ∷ l) (put_is k p bs n e (omega (arith, le)))

set_is : (place v : ℕ) (bytes : List ℕ) → slice_set bytes place v ≡ patched place (v ∷ []) bytes
set_is zero v [] = refl
set_is zero v (b ∷ bs) = refl
set_is (suc k) v [] = refl
set_is (suc k) v (b ∷ bs) = ap (λ l. b ∷ l) (set_is k v bs)

-- the bytes of a number of a size
abbrev piece : Size → ℕ → List ℕ
piece Byte v = v % 2 ^ 8 ∷ []
piece Word v = to_le_bytes w16 (v % 2 ^ 16)
piece Long v = to_le_bytes w32 v

piece_length : (size : Size) (v : ℕ) → length (piece size v) ≡ bytes_of size
piece_length Byte v = refl
piece_length Word v = refl
piece_length Long v = refl

with_is : (size : Size) (bytes : List ℕ) (place v : ℕ) → place + 4 ≤ length bytes → with_number size bytes place v ≡ patched place (piece size v) bytes
with_is Byte bytes place v le = set_is place (v % 2 ^ 8) bytes
with_is Word bytes place v le = put_is place (piece Word v) bytes 2 refl (omega (arith, le))
with_is Long bytes place v le = put_is place (piece Long v) bytes 4 refl le

-- ---- byte by byte

over_behind : (p bytes : List ℕ) (i : ℕ) → length p ≤ i → slice_index (over p bytes) i ≡ slice_index bytes i
over_behind [] bytes i le = refl
over_behind (x ∷ p) [] i le = refl
over_behind (x ∷ p) (b ∷ bs) zero le = absurd (omega (arith, le))
over_behind (x ∷ p) (b ∷ bs) (suc i) le = over_behind p bs i (omega (arith, le))

over_there : (p bytes : List ℕ) (i : ℕ) → i < length p → length p ≤ length bytes → slice_index (over p bytes) i ≡ slice_index p i
over_there [] bytes i lt le = absurd (omega (arith, lt))
over_there (x ∷ p) [] i lt le = absurd (omega (arith, le))
over_there (x ∷ p) (b ∷ bs) zero lt le = refl
over_there (x ∷ p) (b ∷ bs) (suc i) lt le = over_there p bs i (omega (arith, lt)) (omega (arith, le))

patched_before : (place : ℕ) (p bytes : List ℕ) (i : ℕ) → i < place → slice_index (patched place p bytes) i ≡ slice_index bytes i
patched_before zero p bytes i lt = absurd (omega (arith, lt))
patched_before (suc k) p [] i lt = refl
patched_before (suc k) p (b ∷ bs) zero lt = refl
patched_before (suc k) p (b ∷ bs) (suc i) lt = patched_before k p bs i (omega (arith, lt))

patched_behind : (place : ℕ) (p bytes : List ℕ) (i : ℕ) → place + length p ≤ i → slice_index (patched place p bytes) i ≡ slice_index bytes i
patched_behind zero p bytes i le = over_behind p bytes i (omega (arith, le))
patched_behind (suc k) p [] i le = refl
patched_behind (suc k) p (b ∷ bs) zero le = absurd (omega (arith, le))
patched_behind (suc k) p (b ∷ bs) (suc i) le = patched_behind k p bs i (omega (arith, le))

patched_there : (place : ℕ) (p bytes : List ℕ) (i j : ℕ) → i ≡ place + j → j < length p → place + length p ≤ length bytes → slice_index (patched place p bytes) i ≡ slice_index p j
patched_there zero p bytes i j e lt le = ap (slice_index (over p bytes)) (let z : i ≡ j = omega (arith, e) in z) ∙ over_there p bytes j lt (omega (arith, le))
patched_there (suc k) p [] i j e lt le = absurd (omega (arith, le, lt))
patched_there (suc k) p (b ∷ bs) zero j e lt le = absurd (omega (arith, e))
patched_there (suc k) p (b ∷ bs) (suc i) j e lt le = patched_there k p bs i j (omega (arith, e)) lt (omega (arith, le))

-- a byte outside what was put
outside : (place : ℕ) (p bytes : List ℕ) (i : ℕ) → (i < place) ⊎ (place + length p ≤ i) → slice_index (patched place p bytes) i ≡ slice_index bytes i
outside place p bytes i (inl lt) = patched_before place p bytes i lt
outside place p bytes i (inr le) = patched_behind place p bytes i le

-- ---- numbers, byte by byte

drop_index : (n k i : ℕ) (xs : List ℕ) → i ≡ n + k → slice_index (drop n xs) k ≡ slice_index xs i
drop_index zero k i xs e = ap (slice_index xs) (let z : k ≡ i = omega (arith, e) in z)
drop_index (suc n) k i [] e = refl
drop_index (suc n) k zero (x ∷ xs) e = absurd (omega (arith, e))
drop_index (suc n) k (suc i) (x ∷ xs) e = drop_index n k i xs (omega (arith, e))

nth_of : (n k place i : ℕ) (xs : List ℕ) → k < n → i ≡ place + k → slice_index (take n (drop place xs)) k ≡ slice_index xs i
nth_of n k place i xs lt e = take_index n k (drop place xs) lt ∙ drop_index place k i xs e

word_is : (xs : List ℕ) (place : ℕ) → number_in Word xs place ≡ slice_index xs place + slice_index xs (place + 1) * 256
word_is xs place =
    let a = nth_of 2 0 place place xs (omega arith) (omega arith) in
    let b = nth_of 2 1 place (place + 1) xs (omega arith) refl in
    omega (arith, a, b)

long_is : (xs : List ℕ) (place : ℕ) →
    number_in Long xs place ≡ slice_index xs place + slice_index xs (place + 1) * 256 + slice_index xs (place + 2) * 65536 + slice_index xs (place + 3) * 16777216
long_is xs place =
    let a = nth_of 4 0 place place xs (omega arith) (omega arith) in
    let b = nth_of 4 1 place (place + 1) xs (omega arith) refl in
    let c = nth_of 4 2 place (place + 2) xs (omega arith) refl in
    let d = nth_of 4 3 place (place + 3) xs (omega arith) refl in
    omega (arith, a, b, c, d)

-- numbers of equal bytes are equal
same_number : (size : Size) (xs ys : List ℕ) (place : ℕ) → ((k : ℕ) → k < bytes_of size → slice_index xs (place + k) ≡ slice_index ys (place + k)) →
    number_in size xs place ≡ number_in size ys place
same_number Byte xs ys place h =
    let a = h 0 (omega arith) in
    let e : place + 0 ≡ place = omega arith in
    sym (ap (slice_index xs) e) ∙ a ∙ ap (slice_index ys) e
same_number Word xs ys place h =
    let e : place + 0 ≡ place = omega arith in
    let a : slice_index xs place ≡ slice_index ys place = sym (ap (slice_index xs) e) ∙ h 0 (omega arith) ∙ ap (slice_index ys) e in
    let b = h 1 (omega arith) in
    word_is xs place ∙ (ap (λ n. n + slice_index xs (place + 1) * 256) a ∙ ap (λ n. slice_index ys place + n * 256) b) ∙ sym (word_is ys place)
same_number Long xs ys place h =
    let e : place + 0 ≡ place = omega arith in
    let a : slice_index xs place ≡ slice_index ys place = sym (ap (slice_index xs) e) ∙ h 0 (omega arith) ∙ ap (slice_index ys) e in
    let b = h 1 (omega arith) in
    let c = h 2 (omega arith) in
    let d = h 3 (omega arith) in
    let x = long_is xs place in
    let y = long_is ys place in
    omega (arith, a, b, c, d, x, y)

-- a number of any size outside what was put stays
pub number_outside : (size other : Size) (bytes : List ℕ) (place at v : ℕ) → place + 4 ≤ length bytes → (at + bytes_of other ≤ place) ⊎ (place + bytes_of size ≤ at) →
    number_in other (with_number size bytes place v) at ≡ number_in other bytes at
number_outside size other bytes place at v le apart =
    ap (λ l. number_in other l at) (with_is size bytes place v le)
    ∙ same_number other (patched place (piece size v) bytes) bytes at (λ k lt. outside place (piece size v) bytes (at + k) (sides k lt apart)) where
      sides : (k : ℕ) → k < bytes_of other → (at + bytes_of other ≤ place) ⊎ (place + bytes_of size ≤ at) → (at + k < place) ⊎ (place + length (piece size v) ≤ at + k)
      sides k lt (inl h) = inl (omega (arith, h, lt))
      sides k lt (inr h) = inr (omega (arith, h, piece_length size v))

-- what was put is there
pub number_there : (size : Size) (bytes : List ℕ) (place v : ℕ) → place + 4 ≤ length bytes → v < 2 ^ 32 → number_in size (with_number size bytes place v) place ≡ low size v
number_there Byte bytes place v le lt =
    ap (λ l. slice_index l place) (with_is Byte bytes place v le) ∙ patched_there place (piece Byte v) bytes place 0 (omega arith) (omega arith) (omega (arith, le))
number_there Word bytes place v le lt =
    let p = piece Word v in
    let a = patched_there place p bytes place 0 (omega arith) (omega arith) (omega (arith, le)) in
    let b = patched_there place p bytes (place + 1) 1 refl (omega arith) (omega (arith, le)) in
    let whole = from_le_bytes-to_le_bytes_2 (v % 2 ^ 16) (omega arith) in
    let w = word_is (patched place p bytes) place in
    ap (λ l. number_in Word l place) (with_is Word bytes place v le) ∙ (w ∙ (ap (λ n. n + slice_index (patched place p bytes) (place + 1) * 256) a ∙ ap (λ n. slice_index p 0 + n * 256) b)) ∙ whole
number_there Long bytes place v le lt = number-with bytes place v le lt

-- ---- as a longword

four_over : (p bytes : List ℕ) → length p ≤ 4 → 4 ≤ length bytes → over p bytes ≡ over (take 4 (over p bytes)) bytes
four_over [] (a ∷ b ∷ c ∷ d ∷ bytes) few le = refl
four_over (w ∷ []) (a ∷ b ∷ c ∷ d ∷ bytes) few le = refl
four_over (w ∷ x ∷ []) (a ∷ b ∷ c ∷ d ∷ bytes) few le = refl
four_over (w ∷ x ∷ y ∷ []) (a ∷ b ∷ c ∷ d ∷ bytes) few le = refl
four_over (w ∷ x ∷ y ∷ z ∷ []) (a ∷ b ∷ c ∷ d ∷ bytes) few le = refl
four_over (w ∷ x ∷ y ∷ z ∷ u ∷ p) (a ∷ b ∷ c ∷ d ∷ bytes) few le = absurd (omega (arith, few))
four_over p _ few le = absurd (omega (arith, le))

four_patched : (place : ℕ) (p bytes : List ℕ) → length p ≤ 4 → place + 4 ≤ length bytes → patched place p bytes ≡ patched place (take 4 (drop place (patched place p bytes))) bytes
four_patched zero p bytes few le = four_over p bytes few (omega (arith, le))
four_patched (suc k) p [] few le = absurd (omega (arith, le))
four_patched (suc k) p (b ∷ bs) few le = ap (λ l. b ∷ l) (four_patched k p bs few (omega (arith, le)))

over_length : (p bytes : List ℕ) → length (over p bytes) ≡ length bytes
over_length [] bytes = refl
over_length (x ∷ p) [] = refl
over_length (x ∷ p) (b ∷ bs) = ap suc (over_length p bs)

patched_length : (place : ℕ) (p bytes : List ℕ) → length (patched place p bytes) ≡ length bytes
patched_length zero p bytes = over_length p bytes
patched_length (suc k) p [] = refl
patched_length (suc k) p (b ∷ bs) = ap suc (patched_length k p bs)

four_long : (place : ℕ) (xs : List ℕ) → place + 4 ≤ length xs → length (take 4 (drop place xs)) ≡ 4
four_long zero (a ∷ b ∷ c ∷ d ∷ xs) le = refl
four_long (suc k) (x ∷ xs) le = four_long k xs (omega (arith, le))
four_long _ _ le = absurd (omega (arith, le))

few_bytes : (size : Size) (v : ℕ) → length (piece size v) ≤ 4
few_bytes Byte v = omega arith
few_bytes Word v = omega arith
few_bytes Long v = omega arith

pub as_long : (size : Size) (bytes : List ℕ) (place v : ℕ) → AllBelow 256 bytes → place + 4 ≤ length bytes →
    with_number size bytes place v ≡ with_number Long bytes place (merged_long size bytes place v)
as_long size bytes place v below le =
    let is = with_is size bytes place v le in
    let new = patched place (piece size v) bytes in
    let four = take 4 (drop place new) in
    let many : length four ≡ 4 = four_long place new (omega (arith, le, patched_length place (piece size v) bytes)) in
    let small = below_take 256 4 (drop place new) (below_drop 256 place new (subst (AllBelow 256) is (with_below size bytes place v below))) in
    let bytes_are : to_le_bytes w32 (merged_long size bytes place v) ≡ four =
    le_bytes_4 four (merged_long size bytes place v) many (λ i. below_get 256 i four (omega arith) small) (ap (λ l. number_in Long l place) is) in
    is ∙ four_patched place (piece size v) bytes (few_bytes size v) le ∙ sym (put_is place four bytes 4 many le)
    ∙ ap (λ l. take place bytes ++ (l ++ drop (place + 4) bytes)) (sym bytes_are)

pub narrow_writes_are_long : NarrowWritesAreLong
narrow_writes_are_long = record { there = number_there; outside = number_outside; long = as_long }
