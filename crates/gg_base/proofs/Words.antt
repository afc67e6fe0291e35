-- Laws of arithmetic on 32 bits.
use Rattle.std.proofs.Common.{◌≡◌, ℕ, ◌+◌, ◌-◌, ◌*◌, ◌/◌, ◌%◌, ◌^◌, ◌<◌, ◌≤◌, ◌==◌, Bool, true, false, ◌⊎◌, inl, inr, refl, ap, ◌∙◌, arith}
use Rattle.std.specs.Prelude.{nat_lt, min, if◌then◌else◌, Some, None}
use Rattle.std.specs.Option.{unwrap_or}
use Rattle.std.proofs.Math.Nat.{mul_comm, div-le_self}
use Rattle.std.proofs.Math.Pow.{pow_mono}
use Rattle.std.proofs.lemmas.Nat.{and_le_l, and_comm, and_mask, shr_le}
use Rattle.std.proofs.lemmas.Bool.{ne_eqb}
use Rattle.std.proofs.lemmas.Bool.Decides.{nat_tests}
use Rattle.gg_base.specs.declared.size.Size.{Size}
use Rattle.gg_base.specs.declared.size.Size.TheVariants.{Byte, Word, Long}
use Rattle.gg_base.specs.Sizes.{bytes_of}
use Rattle.gg_base.specs.Arithmetic.{add32, sub32, mul32, and32, neg32, com32, zext8, zext16, sext8, sext16, is_negative, magnitude, same_sign, div32, shifted_left, shifted_right, ash32}

-- results are below 2^32

pub zero_small : 0 < 2 ^ 32
zero_small = omega arith

pub zext8_small : (a : ℕ) → zext8 a < 2 ^ 32
zext8_small a = omega arith

pub zext16_small : (a : ℕ) → zext16 a < 2 ^ 32
zext16_small a = omega arith

pub sext8_small : (a : ℕ) → sext8 a < 2 ^ 32
sext8_small a = grind (arith, nat_tests)

pub sext16_small : (a : ℕ) → sext16 a < 2 ^ 32
sext16_small a = grind (arith, nat_tests)

pub neg_small : (a : ℕ) → neg32 a < 2 ^ 32
neg_small a = omega arith

pub and_small : (a b : ℕ) → a < 2 ^ 32 → and32 a b < 2 ^ 32
and_small a b h = omega (arith, and_le_l a b)

pub shifted_left_small : (k a : ℕ) → shifted_left k a < 2 ^ 32
shifted_left_small k a = grind (arith, nat_tests)

-- a choice of two small numbers is small
pub either_small : (b : Bool) (x y : ℕ) → x < 2 ^ 32 → y < 2 ^ 32 → (if b then x else y) < 2 ^ 32
either_small true x y hx hy = hx
either_small false x y hx hy = hy

pub shifted_right_small : (k a : ℕ) → a < 2 ^ 32 → shifted_right k a < 2 ^ 32
shifted_right_small k a h = either_small (is_negative a) _ _ (omega arith) (omega (arith, shr_le a (min k 31)))

pub ash_small : (c a : ℕ) → a < 2 ^ 32 → ash32 c a < 2 ^ 32
ash_small c a h = either_small (nat_lt (zext8 c) (2 ^ 7)) _ _ (shifted_left_small (zext8 c) a) (shifted_right_small (2 ^ 8 - zext8 c) a h)

pub magnitude_small : (a : ℕ) → a < 2 ^ 32 → magnitude a < 2 ^ 32
magnitude_small a h = either_small (is_negative a) _ _ (omega arith) h

pub quotient_small : (a b : ℕ) → a < 2 ^ 32 → magnitude a / magnitude b < 2 ^ 32
quotient_small a b h = omega (arith, div-le_self (magnitude a) (magnitude b), magnitude_small a h)

pub div_small_by : (zero same : Bool) (q : ℕ) → q < 2 ^ 32 → unwrap_or (if zero then None else if same then Some q else Some (neg32 q)) 0 < 2 ^ 32
div_small_by true same q h = omega arith
div_small_by false true q h = h
div_small_by false false q h = omega arith

pub div_small : (a b : ℕ) → a < 2 ^ 32 → unwrap_or (div32 a b) 0 < 2 ^ 32
div_small a b h = div_small_by (b == 0) (same_sign a b) (magnitude a / magnitude b) (quotient_small a b h)

some_quotient_by : (zero same : Bool) (p q : ℕ) → zero ≡ false →
    (if zero then None else if same then Some p else Some q) ≡ Some (unwrap_or (if zero then None else if same then Some p else Some q) 0)
some_quotient_by true same p q e = absurd (cc)
some_quotient_by false true p q e = refl
some_quotient_by false false p q e = refl

-- a quotient by another number than 0
pub some_quotient : (x y : ℕ) → (y ≡ 0 → ⊥) → div32 x y ≡ Some (unwrap_or (div32 x y) 0)
some_quotient x y h = some_quotient_by (y == 0) (same_sign x y) (magnitude x / magnitude y) (neg32 (magnitude x / magnitude y)) (ne_eqb y 0 h)

-- sums and products

pub add_turned : (a b : ℕ) → add32 a b ≡ add32 b a
add_turned a b = omega arith

pub add_zero : (a : ℕ) → a < 2 ^ 32 → add32 0 a ≡ a
add_zero a h = omega arith

pub add_again : (c d t : ℕ) → add32 c (add32 d t) ≡ add32 (add32 c d) t
add_again c d t = omega arith

pub sub_is : (a b : ℕ) → sub32 a b ≡ add32 a (neg32 b)
sub_is a b = omega arith

pub neg_twice : (a : ℕ) → a < 2 ^ 32 → neg32 (neg32 a) ≡ a
neg_twice a h = omega arith

pub com_twice : (a : ℕ) → a < 2 ^ 32 → com32 (com32 a) ≡ a
com_twice a h = omega arith

pub mul_turned : (a b : ℕ) → mul32 a b ≡ mul32 b a
mul_turned a b = ap (λ n. n % 2 ^ 32) (mul_comm a b)

pub mul_one : (a : ℕ) → a < 2 ^ 32 → mul32 1 a ≡ a
mul_one a h = omega arith

pub and_ones : (a : ℕ) → a < 2 ^ 32 → and32 (2 ^ 32 - 1) a ≡ a
and_ones a h = and_comm (2 ^ 32 - 1) a ∙ and_mask a 32 ∙ (let e : a % 2 ^ 32 ≡ a = omega arith in e)

pub and_count : (a : ℕ) → a < 32 → and32 31 a ≡ a
and_count a h = and_comm 31 a ∙ and_mask a 5 ∙ (let e : a % 2 ^ 5 ≡ a = omega arith in e)

pub low_count : (y : ℕ) → and32 y 31 ≡ y % 32
low_count y = and_mask y 5

-- what fits an operand of a size

pub is_long : (z : Size) (x : ℕ) → x < 2 ^ (8 * bytes_of z) → x < 2 ^ 32
is_long Byte x lt = omega (arith, lt)
is_long Word x lt = omega (arith, lt)
is_long Long x lt = lt

pub low_long : (z : Size) (x : ℕ) → x < 2 ^ (8 * bytes_of z) → x % 2 ^ 32 ≡ x
low_long Byte x lt = omega (arith, lt)
low_long Word x lt = omega (arith, lt)
low_long Long x lt = omega (arith, lt)

-- extensions

pub sext8_cases : (a : ℕ) → ((a % 2 ^ 8 < 128) × (sext8 a ≡ a % 2 ^ 8)) ⊎ ((128 ≤ a % 2 ^ 8) × (sext8 a ≡ a % 2 ^ 8 + (2 ^ 32 - 2 ^ 8)))
sext8_cases a = grind (arith, nat_tests)

pub sext16_cases : (a : ℕ) → ((a % 2 ^ 16 < 2 ^ 15) × (sext16 a ≡ a % 2 ^ 16)) ⊎ ((2 ^ 15 ≤ a % 2 ^ 16) × (sext16 a ≡ a % 2 ^ 16 + (2 ^ 32 - 2 ^ 16)))
sext16_cases a = grind (arith, nat_tests)

pub zext8_zext8 : (a : ℕ) → zext8 (zext8 a) ≡ zext8 a
zext8_zext8 a = omega arith

pub zext8_sext8 : (a : ℕ) → zext8 (sext8 a) ≡ zext8 a
zext8_sext8 a = elim (sext8_cases a) [ inl p ↦ rw p.1 (omega arith) | inr q ↦ rw q.1 (omega arith) ]

pub zext16_zext16 : (a : ℕ) → zext16 (zext16 a) ≡ zext16 a
zext16_zext16 a = omega arith

pub zext16_sext16 : (a : ℕ) → zext16 (sext16 a) ≡ zext16 a
zext16_sext16 a = elim (sext16_cases a) [ inl p ↦ rw p.1 (omega arith) | inr q ↦ rw q.1 (omega arith) ]

pub sext8_zext8 : (a : ℕ) → sext8 (zext8 a) ≡ sext8 a
sext8_zext8 a = ap (λ n. if nat_lt n (2 ^ 7) then n else n + (2 ^ 32 - 2 ^ 8)) (zext8_zext8 a)

pub sext8_sext8 : (a : ℕ) → sext8 (sext8 a) ≡ sext8 a
sext8_sext8 a = ap (λ n. if nat_lt n (2 ^ 7) then n else n + (2 ^ 32 - 2 ^ 8)) (zext8_sext8 a)

pub sext16_zext16 : (a : ℕ) → sext16 (zext16 a) ≡ sext16 a
sext16_zext16 a = ap (λ n. if nat_lt n (2 ^ 15) then n else n + (2 ^ 32 - 2 ^ 16)) (zext16_zext16 a)

pub sext16_sext16 : (a : ℕ) → sext16 (sext16 a) ≡ sext16 a
sext16_sext16 a = ap (λ n. if nat_lt n (2 ^ 15) then n else n + (2 ^ 32 - 2 ^ 16)) (zext16_sext16 a)

-- shifts

pub ash_zext8 : (c a : ℕ) → ash32 (zext8 c) a ≡ ash32 c a
ash_zext8 c a = ap (λ n. if nat_lt n (2 ^ 7) then shifted_left n a else shifted_right (2 ^ 8 - n) a) (zext8_zext8 c)

pub ash_sext8 : (c a : ℕ) → ash32 (sext8 c) a ≡ ash32 c a
ash_sext8 c a = ap (λ n. if nat_lt n (2 ^ 7) then shifted_left n a else shifted_right (2 ^ 8 - n) a) (zext8_sext8 c)

pub shifted_left_is : (k a : ℕ) → k < 32 → shifted_left k a ≡ (a * 2 ^ k) % 2 ^ 32
shifted_left_is k a h = grind (arith, nat_tests)

pub ash_count : (k a : ℕ) → k < 32 → ash32 k a ≡ mul32 (2 ^ k) a
ash_count k a h =
    let low : zext8 k ≡ k = omega arith in
    let left : (if nat_lt k (2 ^ 7) then shifted_left k a else shifted_right (2 ^ 8 - k) a) ≡ shifted_left k a = grind (arith, nat_tests) in
    ap (λ n. if nat_lt n (2 ^ 7) then shifted_left n a else shifted_right (2 ^ 8 - n) a) low ∙ left ∙ shifted_left_is k a h ∙ ap (λ n. n % 2 ^ 32) (mul_comm a (2 ^ k))

pub power_small : (k : ℕ) → k < 32 → 2 ^ k < 2 ^ 32
power_small k h = omega (arith, pow_mono h)
