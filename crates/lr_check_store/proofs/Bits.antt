-- Bits of sets.
use Rattle.std.proofs.Common.{◌≡◌, ◌⊎◌, ℕ, zero, suc, min, max, inl, inr, refl, sym, ◌∙◌, arith}
use Rattle.std.specs.Int.{bit_at}
use Rattle.std.specs.Int.Bits.{bit_and}
use Rattle.std.specs.Int.RustNames.{bit_or}
use Rattle.std.proofs.lemmas.Nat.Bits.{bit_at_and, bit_at_or, bit_at-lt, bit_at-zero}

pub in_left : (a b i : ℕ) → bit_at (bit_and a b) i ≡ 1 → bit_at a i ≡ 1
in_left a b i x =
    let m : min (bit_at a i) (bit_at b i) ≡ 1 = sym (bit_at_and a b i) ∙ x in
    let l = bit_at-lt a i in
    omega (arith, m, l)

pub in_right : (a b i : ℕ) → bit_at (bit_and a b) i ≡ 1 → bit_at b i ≡ 1
in_right a b i x =
    let m : min (bit_at a i) (bit_at b i) ≡ 1 = sym (bit_at_and a b i) ∙ x in
    let l = bit_at-lt b i in
    omega (arith, m, l)

one_of : (x y : ℕ) → max x y ≡ 1 → (x ≡ 1) ⊎ (y ≡ 1)
one_of zero y e = inr (omega (arith, e))
one_of (suc zero) y e = inl refl
one_of (suc (suc x)) y e = absurd (omega (arith, e))

pub in_either : (a b i : ℕ) → bit_at (bit_or a b) i ≡ 1 → (bit_at a i ≡ 1) ⊎ (bit_at b i ≡ 1)
in_either a b i x = one_of (bit_at a i) (bit_at b i) (sym (bit_at_or a b i) ∙ x)

pub in_none : (i : ℕ) → bit_at 0 i ≡ 1 → ⊥
in_none i x = let z = bit_at-zero i in omega (arith, z, x)
