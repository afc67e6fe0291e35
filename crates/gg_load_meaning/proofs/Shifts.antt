-- Zeros that are shifted into a longword.
use Rattle.std.proofs.Common.{◌≡◌, ◌<◌, ◌≤◌, ℕ, zero, suc, ◌*◌, ◌/◌, false, length, nat_le, refl, arith}
use Rattle.std.proofs.lemmas.Bool.Decides.{nat_tests}
use Rattle.std.proofs.lemmas.Nat.{and_le_l}
use Rattle.gg_base.specs.Arithmetic.{is_negative, neg32, ash32}
use Rattle.gg_load_meaning.specs.Run.{shifted, letters}

-- 16 to this power
abbrev pub most : ℕ → ℕ
most zero = 1
most (suc j) = 16 * most j

sixteenth : (w : ℕ) → w < 2147483648 → ash32 (neg32 4) w ≡ w / 16
sixteenth w low = let h : is_negative w ≡ false = above w low in rw h refl
  where
    above : (w : ℕ) → w < 2147483648 → nat_le 2147483648 w ≡ false
    above w low = grind (arith, nat_tests)

pub shifted_small : (w m : ℕ) → w < 16 * m → 16 * m ≤ 268435456 → shifted w < m
shifted_small w m low bound =
    let h : shifted w ≤ ash32 (neg32 4) w = and_le_l (ash32 (neg32 4) w) 268435455 in
    let e : ash32 (neg32 4) w ≡ w / 16 = sixteenth w (omega arith) in
    omega arith

pub letters_few : (n v : ℕ) → length (letters n v) ≤ n
letters_few zero v = omega arith
letters_few (suc n) zero = omega arith
letters_few (suc n) (suc v) = let h : length (letters n (shifted (suc v))) ≤ n = letters_few n (shifted (suc v)) in omega arith
