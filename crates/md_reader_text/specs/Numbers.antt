-- Decimal numbers.
use Rattle.std.specs.Prelude.{ℕ, ◌+◌, ◌-◌, ◌*◌, min, nat_le, ◌==◌, List, [], ◌∷◌, Option, Some, None}
use Rattle.std.specs.Prelude.{ℤ, pos, negsuc, if◌then◌else◌}
use Rattle.std.specs.Char.{is_ascii_digit}
use Rattle.std.specs.Option.{option_and_then}

-- the number that digits go on to; what is greater than the most counts as the most
abbrev pub number_from : ℕ → ℕ → List ℕ → Option ℕ
number_from most n [] = Some n
number_from most n (d ∷ ds) = if is_ascii_digit d then number_from most (min (n * 10 + (d - 48)) most) ds else None

-- the number that a word is: it has digits alone, at least one, and no leading zero
abbrev pub number : ℕ → List ℕ → Option ℕ
number most [] = None
number most (d ∷ []) = number_from most 0 (d ∷ [])
number most (d ∷ e ∷ ds) = if d == 48 then None else number_from most 0 (d ∷ e ∷ ds)

abbrev pub positive : ℕ → Option ℤ
positive m = if nat_le m 2147483647 then Some (pos m) else None

abbrev pub negative : ℕ → Option ℤ
negative m = if m == 0 then None else if nat_le m 2147483648 then Some (negsuc (m - 1)) else None

-- the number of 32 bits with its sign that a word is
abbrev pub integer : List ℕ → Option ℤ
integer [] = None
integer (b ∷ w) = if b == 45 then option_and_then negative (number 2147483649 w) else option_and_then positive (number 2147483649 (b ∷ w))
