-- How a number is read.
use Rattle.std.specs.Prelude.{ℕ, ◌+◌, ◌*◌, ◌==◌, ◌||◌, nat_le, nat_lt, List, [], ◌∷◌, Option, Some, None, if◌then◌else◌}
use Rattle.c_tokens.specs.Letters.{digit_value}

-- the number that the digits write behind n; none where one is no digit of the base or the number passes the limit
abbrev pub number_behind : (base limit n : ℕ) → List ℕ → Option ℕ
number_behind base limit n [] = Some n
number_behind base limit n (d ∷ ds) = if nat_lt (digit_value d) base then if nat_le (n * base + digit_value d) limit
    then number_behind base limit (n * base + digit_value d) ds else None else None

abbrev pub hexadecimal : List ℕ → Option ℕ
hexadecimal [] = None
hexadecimal (d ∷ ds) = number_behind 16 4294967295 0 (d ∷ ds)

-- the number whose first digit is 0, by what stands behind that
abbrev pub number_behind_zero : List ℕ → Option ℕ
number_behind_zero [] = Some 0
number_behind_zero (d ∷ ds) = if (d == 120) || (d == 88) then hexadecimal ds else number_behind 8 4294967295 0 (d ∷ ds)

-- the number that a word writes which begins with a digit
abbrev pub number_of : List ℕ → Option ℕ
number_of [] = None
number_of (d ∷ ds) = if d == 48 then number_behind_zero ds else number_behind 10 2147483647 0 (d ∷ ds)
