-- A number is stored in a data area: it stays one of bytes, and as long.
use Rattle.std.proofs.Common.{◌≡◌, ℕ, zero, suc, ◌+◌, ◌≤◌, ◌<◌, ◌^◌, ◌%◌, List, [], ◌∷◌, ◌++◌, length, Some, None, refl, arith, subst, length-append}
use Rattle.std.specs.Prelude.{Bool, true, false, cond, nat_le, slice_set, take, drop, ◌-◌}
use Rattle.std.specs.Int.{w16, w32, to_le_bytes}
use Rattle.std.proofs.lemmas.Bool.{and_parts, leb-true}
use Rattle.std.proofs.lemmas.List.{length-set, length-take-le, length-drop}
use Rattle.gg_base.specs.declared.size.Size.{Size}
use Rattle.gg_base.specs.declared.size.Size.TheVariants as sizes
use Rattle.gg_base.specs.Sizes.{bytes_of}
use Rattle.gg_base.specs.LittleEndian.{with_number}
use Rattle.tree_core.specs.Area.{stored, is_inside}
use Rattle.c_sound.specs.Fits.{AreBytes}
use Rattle.c_sound.proofs.Bytes.{bytes_joined, bytes_drop}
use Rattle.c_lower_follows.proofs.Values.{bytes_take}

-- writing to memory keeps bytes
pub bytes_set : (xs : List ℕ) (n v : ℕ) → v < 256 → AreBytes xs → AreBytes (slice_set xs n v)
bytes_set [] n v lt h = tt
bytes_set (x ∷ xs) zero v lt h = (lt, h.1)
bytes_set (x ∷ xs) (suc n) v lt h = (h.0, bytes_set xs n v lt h.1)

number_bytes : (z : Size) (area : List ℕ) (x v : ℕ) → AreBytes area → AreBytes (with_number z area x v)
number_bytes sizes.Byte area x v h = bytes_set area x (v % 2 ^ 8) (omega arith) h
number_bytes sizes.Word area x v h = bytes_joined (take x area) _ (bytes_take x area h)
    (bytes_joined (to_le_bytes w16 (v % 2 ^ 16)) (drop (x + 2) area) (omega arith, (omega arith, tt)) (bytes_drop (x + 2) area h))
number_bytes sizes.Long area x v h = bytes_joined (take x area) _ (bytes_take x area h)
    (bytes_joined (to_le_bytes w32 v) (drop (x + 4) area) (omega arith, (omega arith, (omega arith, (omega arith, tt)))) (bytes_drop (x + 4) area h))

stored_by : (b : Bool) (xs ys : List ℕ) → cond b (Some xs) None ≡ Some ys → xs ≡ ys
stored_by true xs ys e = cc
stored_by false xs ys e = absurd (cc)

pub stored_bytes : (z : Size) (area : List ℕ) (x v : ℕ) (area' : List ℕ) → AreBytes area → stored z area x v ≡ Some area' → AreBytes area'
stored_bytes z area x v area' h e = subst AreBytes (stored_by (is_inside z area x) (with_number z area (x - 65536) v) area' e) (number_bytes z area (x - 65536) v h)

-- bytes in the middle of a list are replaced
replaced_long : (area mid : List ℕ) (x n : ℕ) → length mid ≡ n → x + n ≤ length area → length (take x area ++ (mid ++ drop (x + n) area)) ≡ length area
replaced_long area mid x n is le =
    omega (arith, length-append (take x area) (mid ++ drop (x + n) area), length-append mid (drop (x + n) area), length-take-le x area (omega arith), length-drop (x + n) area)

number_long : (z : Size) (area : List ℕ) (x v : ℕ) → x + bytes_of z ≤ length area → length (with_number z area x v) ≡ length area
number_long sizes.Byte area x v le = length-set area x (v % 2 ^ 8)
number_long sizes.Word area x v le = replaced_long area (to_le_bytes w16 (v % 2 ^ 16)) x 2 refl le
number_long sizes.Long area x v le = replaced_long area (to_le_bytes w32 v) x 4 refl le

long_by : (z : Size) (area : List ℕ) (x v : ℕ) (b : Bool) (area' : List ℕ) → is_inside z area x ≡ b → cond b (Some (with_number z area (x - 65536) v)) None ≡ Some area' → length area' ≡ length area
long_by z area x v true area' is e =
    let parts = and_parts (nat_le 65536 x) (nat_le (x + bytes_of z) (65536 + length area)) is in
    let low = leb-true 65536 x parts.0 in
    let high = leb-true (x + bytes_of z) (65536 + length area) parts.1 in
    let same : with_number z area (x - 65536) v ≡ area' = cc in
    subst (λ (l : List ℕ). length l ≡ length area) same (number_long z area (x - 65536) v (omega arith))
long_by z area x v false area' is e = absurd (cc)

pub stored_long : (z : Size) (area : List ℕ) (x v : ℕ) (area' : List ℕ) → stored z area x v ≡ Some area' → length area' ≡ length area
stored_long z area x v area' e = long_by z area x v (is_inside z area x) area' refl e
