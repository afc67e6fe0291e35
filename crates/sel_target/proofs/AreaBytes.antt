-- The bytes of a data area: what is read there, and that terms read the same.
use Rattle.std.proofs.Common.{◌≡◌, ℕ, zero, suc, ◌+◌, ◌-◌, ◌*◌, ◌%◌, ◌^◌, ◌<◌, ◌≤◌, List, [], ◌∷◌, length, Some, None, true, refl, sym, ap, ◌∙◌, subst}
use Rattle.std.proofs.Common.{arith, take, drop}
use Rattle.std.specs.Prelude.{slice_index, nat_le, cond}
use Rattle.std.specs.List.{AllByRecursion}
use Rattle.std.proofs.lemmas.Bool.Decides.{nat_tests}
use Rattle.std.proofs.lemmas.Option.{same_Some, cond_some}
use Rattle.gg_base.proofs.Facts.{first_true}
use Rattle.gg_base.specs.declared.size.Size.{Size}
use Rattle.gg_base.specs.declared.size.Size.TheVariants.{Byte, Word, Long}
use Rattle.gg_base.specs.Sizes.{bytes_of}
use Rattle.gg_base.specs.LittleEndian.{number_in}
use Rattle.tree_core.specs.Area.{is_inside, fetched}
use Rattle.sel_terms_meaning.specs.term_core.specs.Value.{memory_at}
use Rattle.sel_target.specs.Values.{View, term_state}

abbrev pub Bytes : List ℕ → Type 0
Bytes bytes = AllByRecursion (λ b. b < 256) bytes

byte_at : (bytes : List ℕ) (n : ℕ) → Bytes bytes → slice_index bytes n < 256
byte_at [] n h = omega arith
byte_at (b ∷ bs) zero h = h.0
byte_at (b ∷ bs) (suc n) h = byte_at bs n h.1

pub take_index : (n k : ℕ) (xs : List ℕ) → k < n → slice_index (take n xs) k ≡ slice_index xs k
take_index zero k xs lt = absurd (omega (arith, lt))
take_index (suc n) k [] lt = refl
take_index (suc n) zero (x ∷ xs) lt = refl
take_index (suc n) (suc k) (x ∷ xs) lt = take_index n k xs (omega (arith, lt))

drop_index : (n k : ℕ) (xs : List ℕ) → slice_index (drop n xs) k ≡ slice_index xs (n + k)
drop_index zero k xs = ap (slice_index xs) (let e : k ≡ 0 + k = omega arith in e)
drop_index (suc n) k [] = refl
drop_index (suc n) k (x ∷ xs) = drop_index n k xs ∙ ap (slice_index (x ∷ xs)) (let e : suc (n + k) ≡ suc n + k = omega arith in e)

piece_index : (n k at : ℕ) (xs : List ℕ) → k < n → slice_index (take n (drop at xs)) k ≡ slice_index xs (at + k)
piece_index n k at xs lt = take_index n k (drop at xs) lt ∙ drop_index at k xs

piece_byte : (n k at : ℕ) (xs : List ℕ) → k < n → Bytes xs → slice_index (take n (drop at xs)) k < 256
piece_byte n k at xs lt h = subst (λ b. b < 256) (sym (piece_index n k at xs lt)) (byte_at xs (at + k) h)

pub number_small : (size : Size) (bytes : List ℕ) (at : ℕ) → Bytes bytes → number_in size bytes at < 2 ^ (8 * bytes_of size)
number_small Byte bytes at h = byte_at bytes at h
number_small Word bytes at h =
    let a = piece_byte 2 0 at bytes (omega arith) h in
    let b = piece_byte 2 1 at bytes (omega arith) h in
    omega (arith, a, b)
number_small Long bytes at h =
    let a = piece_byte 4 0 at bytes (omega arith) h in
    let b = piece_byte 4 1 at bytes (omega arith) h in
    let c = piece_byte 4 2 at bytes (omega arith) h in
    let d = piece_byte 4 3 at bytes (omega arith) h in
    omega (arith, a, b, c, d)

-- what is fetched is of its size
pub fetched_small : (size : Size) (area : List ℕ) (a x : ℕ) → Bytes area → fetched size area a ≡ Some x → x < 2 ^ (8 * bytes_of size)
fetched_small size area a x h e =
    let r = cond_some (is_inside size area a) (number_in size area (a - 65536)) x e in
    subst (λ n. n < 2 ^ (8 * bytes_of size)) r.1 (number_small size area (a - 65536) h)

pub outside_0 : (size : Size) (area : List ℕ) → is_inside size area 0 ≡ true → ⊥
outside_0 size area e =
    let h = first_true (nat_le 65536 0) (nat_le (0 + bytes_of size) (65536 + length area)) e in
    grind (arith, nat_tests)

-- nothing lies at address 0
pub not_at_0 : (size : Size) (area : List ℕ) (x : ℕ) → fetched size area 0 ≡ Some x → ⊥
not_at_0 size area x e =
    let r = cond_some (is_inside size area 0) (number_in size area (0 - 65536)) x e in
    outside_0 size area r.0

from_65536 : (size : Size) (area : List ℕ) (a : ℕ) → is_inside size area a ≡ true → 65536 ≤ a
from_65536 size area a e =
    let h = first_true (nat_le 65536 a) (nat_le (a + bytes_of size) (65536 + length area)) e in
    grind (arith, nat_tests)

-- a byte as a term reads it
term_byte : (v : View) (a n : ℕ) → Bytes v.state.area → a - 65536 ≡ n → (term_state v).byte a % 2 ^ 8 ≡ slice_index v.state.area n
term_byte v a n h e =
    let b = byte_at v.state.area n h in
    ap (λ k. slice_index v.state.area k % 2 ^ 8) e ∙ (let small : slice_index v.state.area n % 2 ^ 8 ≡ slice_index v.state.area n = omega (arith, b) in small)

-- terms read what the area holds
pub memory_is : (v : View) (size : Size) (a : ℕ) → Bytes v.state.area → 65536 ≤ a → number_in size v.state.area (a - 65536) ≡ memory_at (term_state v) size a
memory_is v Byte a h le = sym (term_byte v a (a - 65536) h refl)
memory_is v Word a h le =
    let n = a - 65536 in
    let p0 = piece_index 2 0 n v.state.area (omega arith) in
    let p1 = piece_index 2 1 n v.state.area (omega arith) in
    let b0 = term_byte v a (n + 0) h (omega (arith, le)) in
    let b1 = term_byte v (a + 1) (n + 1) h (omega (arith, le)) in
    omega (arith, p0, p1, b0, b1)
memory_is v Long a h le =
    let n = a - 65536 in
    let p0 = piece_index 4 0 n v.state.area (omega arith) in
    let p1 = piece_index 4 1 n v.state.area (omega arith) in
    let p2 = piece_index 4 2 n v.state.area (omega arith) in
    let p3 = piece_index 4 3 n v.state.area (omega arith) in
    let b0 = term_byte v a (n + 0) h (omega (arith, le)) in
    let b1 = term_byte v (a + 1) (n + 1) h (omega (arith, le)) in
    let b2 = term_byte v (a + 2) (n + 2) h (omega (arith, le)) in
    let b3 = term_byte v (a + 2 + 1) (n + 3) h (omega (arith, le)) in
    omega (arith, p0, p1, p2, p3, b0, b1, b2, b3)

pub fetched_is : (v : View) (size : Size) (a : ℕ) → Bytes v.state.area → is_inside size v.state.area a ≡ true →
    fetched size v.state.area a ≡ Some (memory_at (term_state v) size a)
fetched_is v size a h inside =
    ap (λ b. cond b (Some (number_in size v.state.area (a - 65536))) None) inside ∙ ap Some (memory_is v size a h (from_65536 size v.state.area a inside))

-- what is fetched from the area is what a term reads there
pub area_read : (v : View) (size : Size) (a x : ℕ) → Bytes v.state.area → fetched size v.state.area a ≡ Some x → memory_at (term_state v) size a ≡ x
area_read v size a x h e =
    let r = cond_some (is_inside size v.state.area a) (number_in size v.state.area (a - 65536)) x e in
    same_Some (memory_at (term_state v) size a) x (sym (fetched_is v size a h r.0) ∙ e)
