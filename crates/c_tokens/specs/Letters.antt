-- Classes of bytes.
use Rattle.std.specs.Prelude.{ℕ, ◌-◌, Bool, ◌==◌, ◌||◌, ◌&&◌, nat_le, nat_lt, if◌then◌else◌}

abbrev pub is_between : ℕ → ℕ → ℕ → Bool
is_between low high b = nat_le low b && nat_le b high

-- space, TAB, LF, CR, FF
abbrev pub is_blank : ℕ → Bool
is_blank b = (b == 32) || (b == 9) || (b == 10) || (b == 13) || (b == 12)

-- a letter or _
abbrev pub is_letter : ℕ → Bool
is_letter b = is_between 65 90 b || is_between 97 122 b || (b == 95)

abbrev pub is_digit : ℕ → Bool
is_digit b = is_between 48 57 b

-- a letter, a digit or _
abbrev pub in_word : ℕ → Bool
in_word b = is_letter b || is_digit b

-- the value of a digit of base 16, and 16 for any other byte
abbrev pub digit_value : ℕ → ℕ
digit_value b = if is_digit b then b - 48 else if is_between 65 70 b then b - 55 else if is_between 97 102 b then b - 87 else 16

abbrev pub is_digit_of : (base : ℕ) → ℕ → Bool
is_digit_of base b = nat_lt (digit_value b) base
