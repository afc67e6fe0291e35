-- The numbers that a template spells are longwords.
use Rattle.std.proofs.Common.{◌≡◌, ℕ, ◌-◌, ◌^◌, ◌<◌, Bool, true, false, ◌&&◌, Some, None, List, refl, arith, option_map}
use Rattle.std.specs.Prelude.{nat_le}
use Rattle.std.specs.Option.{option_and_then}
use Rattle.std.proofs.lemmas.Bool.Decides.{nat_tests}
use Rattle.vax_templates.specs.declared.form.Mark.{Mark}
use Rattle.vax_templates.specs.declared.form.Number.{Number}
use Rattle.vax_templates.specs.Marks.{strip, hole_front, number_front, positive, negative, below_zero, signed_front}
use Rattle.vax_templates.specs.Forms.{number_spelled, of_symbol, itself}
use Rattle.judging_laws.specs.Each.{Each}
use Rattle.judging_laws.specs.Numbers.{IsShort}
use Rattle.judging_laws.proofs.Parts.{map_or_each, and_then_each, map_each, always, if_each}

-- a number in front of further marks
abbrev IsLongRead : ℕ × List Mark → Type 0
IsLongRead x = x.0 < 2 ^ 32

small : (n : ℕ) → nat_le n 2147483647 ≡ true → n < 2 ^ 32
small n e = grind (arith, nat_tests)

positive_long : (x : ℕ × List Mark) → Each IsLongRead (positive x)
positive_long x = if_each IsLongRead (nat_le x.0 2147483647) (Some x) None (λ e. small x.0 e) (λ e. tt)

above : (n k : ℕ) → (nat_le 1 n && nat_le n k) ≡ true → 2 ^ 32 - n < 2 ^ 32
above n k e = by (nat_le 1 n) refl e where
  by : (b : Bool) → nat_le 1 n ≡ b → (b && nat_le n k) ≡ true → 2 ^ 32 - n < 2 ^ 32
  by true is e = grind (arith, nat_tests)
  by false is e = absurd (cc)

negative_long : (x : ℕ × List Mark) → Each IsLongRead (negative x)
negative_long x = if_each IsLongRead (nat_le 1 x.0 && nat_le x.0 2147483648) (Some (2 ^ 32 - x.0, x.1)) None (λ e. above x.0 2147483648 e) (λ e. tt)

below_zero_long : (ms : List Mark) → Each IsLongRead (below_zero ms)
below_zero_long ms = and_then_each (λ x. Unit {0}) IsLongRead (number_front ms) negative (λ x u. negative_long x) (always (number_front ms) tt)

signed_long : (ms : List Mark) → Each IsLongRead (signed_front ms)
unfolding signed_front
signed_long ms =
    map_or_each IsLongRead (number_front ms) positive (option_and_then below_zero (strip 45 ms)) (λ x e. positive_long x)
    (and_then_each (λ x. Unit {0}) IsLongRead (strip 45 ms) below_zero (λ x u. below_zero_long x) (always (strip 45 ms) tt))

abbrev pub IsLongSpelled : Number × List Mark → Type 0
IsLongSpelled x = IsShort x.0

pub spelled_long : (ms : List Mark) → Each IsLongSpelled (number_spelled ms)
unfolding number_spelled
spelled_long ms =
    map_or_each IsLongSpelled (hole_front ms) of_symbol (option_map itself (signed_front ms)) (λ x e. tt)
    (map_each IsLongSpelled (signed_front ms) itself (signed_long ms))
