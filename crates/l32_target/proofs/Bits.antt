-- The bit of a register.
use Rattle.std.proofs.Common.{◌≡◌, ℕ, ◌*◌, ◌%◌, ◌^◌, ◌<◌, ap, ◌∙◌, arith}
use Rattle.std.proofs.lemmas.Nat.{pow_below}
use Rattle.std.proofs.Math.Nat.{mod-eq_of_lt}

-- it is within 16 bits
pub shifted : (r : ℕ) → r < 12 → 1 * 2 ^ r % 2 ^ 16 ≡ 2 ^ r
shifted r lt =
    let below = pow_below r 16 (omega (arith, lt)) in
    let one : 1 * 2 ^ r ≡ 2 ^ r = omega arith in
    ap (λ n. n % 2 ^ 16) one ∙ mod-eq_of_lt below
