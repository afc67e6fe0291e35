-- Longwords in a list of bytes.
use Rattle.std.proofs.Common.{◌≡◌, ℕ, zero, suc, ◌+◌, ◌-◌, ◌%◌, ◌^◌, ◌<◌, ◌≤◌, List, [], ◌∷◌, ◌++◌, length, take, drop, refl, sym, ap, ◌∙◌, arith, length-append, length-set}
use Rattle.std.specs.Prelude.{slice_index, slice_set}
use Rattle.std.specs.Int.{w16, w32, to_le_bytes, from_le_bytes}
use Rattle.std.proofs.lemmas.List.{drop_at, drop-drop, length-take-le, length-drop, drop-take, take-append-le, take-take}
use Rattle.std.proofs.lemmas.Nat.{from_le_bytes-to_le_bytes_4}
use Rattle.std.specs.List.{AllByRecursion}
use Rattle.gg_base.specs.declared.size.Size.{Size}
use Rattle.gg_base.specs.declared.size.Size.TheVariants.{Byte, Word, Long}
use Rattle.gg_base.specs.Sizes.{bytes_of}
use Rattle.gg_base.specs.LittleEndian.{number_in, with_number}
use Rattle.vax_machine_lists.specs.Sound.{AllBelow}

pub length-with : (bytes : List ℕ) (at v : ℕ) → at + 4 ≤ length bytes → length (with_number Long bytes at v) ≡ length bytes
length-with bytes at v le =
    omega (arith, length-append (take at bytes) (to_le_bytes w32 v ++ drop (at + 4) bytes), length-take-le at bytes (omega arith), length-drop (at + 4) bytes)

pub length-with_any : (size : Size) (bytes : List ℕ) (at v : ℕ) → at + bytes_of size ≤ length bytes → length (with_number size bytes at v) ≡ length bytes
length-with_any Byte bytes at v le = length-set bytes at (v % 2 ^ 8)
length-with_any Word bytes at v le =
    omega (arith, length-append (take at bytes) (to_le_bytes w16 (v % 2 ^ 16) ++ drop (at + 2) bytes), length-take-le at bytes (omega arith), length-drop (at + 2) bytes)
length-with_any Long bytes at v le = length-with bytes at v le

-- what was put there
pub number-with : (bytes : List ℕ) (at v : ℕ) → at + 4 ≤ length bytes → v < 2 ^ 32 → number_in Long (with_number Long bytes at v) at ≡ v
number-with bytes at v le lt =
    let e : drop at (with_number Long bytes at v) ≡ to_le_bytes w32 v ++ drop (at + 4) bytes =
    drop_at (take at bytes) (to_le_bytes w32 v ++ drop (at + 4) bytes) at (length-take-le at bytes (omega arith)) in
    ap (λ (x : List ℕ). from_le_bytes w32 (take 4 x)) e ∙ from_le_bytes-to_le_bytes_4 v lt

-- what stands above it stays
drop-with : (bytes : List ℕ) (at r v : ℕ) → at + 4 ≤ length bytes → drop (at + (4 + r)) (with_number Long bytes at v) ≡ drop (at + 4 + r) bytes
drop-with bytes at r v le =
    let rest = to_le_bytes w32 v ++ drop (at + 4) bytes in
    sym (drop-drop (4 + r) at (take at bytes ++ rest))
    ∙ ap (λ (x : List ℕ). drop (4 + r) x) (drop_at (take at bytes) rest at (length-take-le at bytes (omega arith)))
    ∙ sym (drop-drop r 4 rest)
    ∙ ap (λ (x : List ℕ). drop r x) (drop_at (to_le_bytes w32 v) (drop (at + 4) bytes) 4 refl)
    ∙ drop-drop r (at + 4) bytes

pub number-above : (bytes : List ℕ) (at other v : ℕ) → at + 4 ≤ length bytes → at + 4 ≤ other → number_in Long (with_number Long bytes at v) other ≡ number_in Long bytes other
number-above bytes at other v le above =
    let r = other - (at + 4) in
    let p : at + (4 + r) ≡ other = omega arith in
    let q : at + 4 + r ≡ other = omega arith in
    let e = drop-with bytes at r v le in
    ap (λ (x : List ℕ). from_le_bytes w32 (take 4 x)) (sym (ap (λ (k : ℕ). drop k (with_number Long bytes at v)) p) ∙ e ∙ ap (λ (k : ℕ). drop k bytes) q)

-- and what stands below it
pub number-below : (bytes : List ℕ) (at other v : ℕ) → at + 4 ≤ length bytes → other + 4 ≤ at → number_in Long (with_number Long bytes at v) other ≡ number_in Long bytes other
number-below bytes at other v le below =
    let rest = to_le_bytes w32 v ++ drop (at + 4) bytes in
    let front : length (take at bytes) ≡ at = length-take-le at bytes (omega arith) in
    ap (from_le_bytes w32)
    (sym (drop-take other 4 (take at bytes ++ rest))
    ∙ ap (drop other) (take-append-le (other + 4) (take at bytes) rest (omega (arith, front)) ∙ take-take (other + 4) at bytes below)
    ∙ drop-take other 4 bytes)

-- ---- bounds

pub below_append : (k : ℕ) (xs ys : List ℕ) → AllBelow k xs → AllBelow k ys → AllBelow k (xs ++ ys)
below_append k [] ys h g = g
below_append k (x ∷ xs) ys h g = (h.0, below_append k xs ys h.1 g)

pub below_take : (k n : ℕ) (xs : List ℕ) → AllBelow k xs → AllBelow k (take n xs)
below_take k zero xs h = tt
below_take k (suc n) [] h = tt
below_take k (suc n) (x ∷ xs) h = (h.0, below_take k n xs h.1)

pub below_drop : (k n : ℕ) (xs : List ℕ) → AllBelow k xs → AllBelow k (drop n xs)
below_drop k zero xs h = h
below_drop k (suc n) [] h = tt
below_drop k (suc n) (x ∷ xs) h = below_drop k n xs h.1

pub below_set : (k n v : ℕ) (xs : List ℕ) → v < k → AllBelow k xs → AllBelow k (slice_set xs n v)
below_set k n v [] lt h = tt
below_set k zero v (x ∷ xs) lt h = (lt, h.1)
below_set k (suc n) v (x ∷ xs) lt h = (h.0, below_set k n v xs lt h.1)

pub below_get : (k n : ℕ) (xs : List ℕ) → 0 < k → AllBelow k xs → slice_index xs n < k
below_get k n [] lt h = lt
below_get k zero (x ∷ xs) lt h = h.0
below_get k (suc n) (x ∷ xs) lt h = below_get k n xs lt h.1

pub four_below : (v : ℕ) → AllBelow 256 (to_le_bytes w32 v)
four_below v = (omega arith, (omega arith, (omega arith, (omega arith, tt))))

pub two_below : (v : ℕ) → AllBelow 256 (to_le_bytes w16 v)
two_below v = (omega arith, (omega arith, tt))

pub with_below : (size : Size) (bytes : List ℕ) (at v : ℕ) → AllBelow 256 bytes → AllBelow 256 (with_number size bytes at v)
with_below Byte bytes at v h = below_set 256 at (v % 2 ^ 8) bytes (omega arith) h
with_below Word bytes at v h =
    below_append 256 (take at bytes) _ (below_take 256 at bytes h) (below_append 256 (to_le_bytes w16 (v % 2 ^ 16)) _ (two_below (v % 2 ^ 16)) (below_drop 256 (at + 2) bytes h))
with_below Long bytes at v h = below_append 256 (take at bytes) _ (below_take 256 at bytes h) (below_append 256 (to_le_bytes w32 v) _ (four_below v) (below_drop 256 (at + 4) bytes h))

from_four : (bytes : List ℕ) → AllBelow 256 bytes → from_le_bytes w32 bytes < 2 ^ 32
from_four bytes h =
    let a = below_get 256 0 bytes (omega arith) h in
    let b = below_get 256 1 bytes (omega arith) h in
    let c = below_get 256 2 bytes (omega arith) h in
    let d = below_get 256 3 bytes (omega arith) h in
    omega (arith, a, b, c, d)

pub long_below : (bytes : List ℕ) (at : ℕ) → AllBelow 256 bytes → number_in Long bytes at < 2 ^ 32
long_below bytes at h = from_four (take 4 (drop at bytes)) (below_take 256 4 (drop at bytes) (below_drop 256 at bytes h))

-- each is a byte
pub all_bytes : (xs : List ℕ) → AllBelow 256 xs → AllByRecursion (λ b. b < 256) xs
all_bytes [] h = tt
all_bytes (x ∷ xs) h = (h.0, all_bytes xs h.1)
