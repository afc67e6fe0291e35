-- Bits of sets.
use Rattle.std.proofs.Common.{◌≡◌, ℕ, ap, sym, ◌∙◌, arith}
use Rattle.std.specs.Prelude.{min}
use Rattle.std.specs.Int.{bit_at}
use Rattle.std.specs.Int.Bits.{bit_and}
use Rattle.std.proofs.lemmas.Nat.Bits.{bit_at_and, bit_at-lt}

-- what is in both is in the set of what is in both
pub in_both : (a b i : ℕ) → bit_at a i ≡ 1 → bit_at b i ≡ 1 → bit_at (bit_and a b) i ≡ 1
in_both a b i x y = bit_at_and a b i ∙ omega (arith, x, y)

pub in_within : (a b i : ℕ) → bit_and a b ≡ a → bit_at a i ≡ 1 → bit_at b i ≡ 1
in_within a b i same x =
    let m : min (bit_at a i) (bit_at b i) ≡ 1 = sym (bit_at_and a b i) ∙ (ap (λ n. bit_at n i) same ∙ x) in
    let l = bit_at-lt b i in
    omega (arith, m, l, x)
