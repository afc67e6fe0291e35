-- Arithmetic on longwords has longwords.
use Rattle.std.proofs.Common.{ℕ, ◌/◌, ◌^◌, ◌<◌, ◌==◌, Bool, true, false, Some, None, arith}
use Rattle.std.specs.Prelude.{if◌then◌else◌, Option}
use Rattle.gg_base.specs.Arithmetic.{neg32, magnitude, same_sign, div32}
use Rattle.gg_base.proofs.Words.{quotient_small}

-- a quotient, where there is one
abbrev pub SmallOption : Option ℕ → Type 0
SmallOption None = Unit {0}
SmallOption (Some v) = v < 2 ^ 32

div_small_by : (zero same : Bool) (q : ℕ) → q < 2 ^ 32 → SmallOption (if zero then None else if same then Some q else Some (neg32 q))
div_small_by true same q h = tt
div_small_by false true q h = h
div_small_by false false q h = omega arith

pub div_small : (a b : ℕ) → a < 2 ^ 32 → SmallOption (div32 a b)
div_small a b h = div_small_by (b == 0) (same_sign a b) (magnitude a / magnitude b) (quotient_small a b h)
