-- How an element of a string or of a character constant is read: its value and its length.
use Rattle.std.specs.Prelude.{ℕ, suc, ◌==◌, nat_lt, List, [], ◌∷◌, take, Option, Some, None, if◌then◌else◌}
use Rattle.std.specs.Option.{option_map}
use Rattle.gg_base.specs.Fronts.{run_len}
use Rattle.c_tokens.specs.Letters.{is_digit_of}
use Rattle.c_tokens.specs.Numbers.{number_behind}

-- what a letter or a sign behind a backslash stands for
abbrev pub named_escape : ℕ → Option ℕ
named_escape b = if b == 110 then Some 10 else if b == 116 then Some 9 else if b == 114 then Some 13 else if b ==
    97 then Some 7 else if b == 98 then Some 8 else if b == 102 then Some 12 else if b == 118 then Some 11 else if b ==
    92 then Some 92 else if b == 39 then Some 39 else if b == 34 then Some 34 else None

-- the byte that the first n digits write
abbrev pub byte_of : (base n : ℕ) → List ℕ → Option (ℕ × ℕ)
byte_of base n ds = option_map (λ (v : ℕ). (v, n)) (number_behind base 255 0 (take n ds))

-- the longest run of up to three octal digits
abbrev pub octal_len : List ℕ → ℕ
octal_len ds = run_len (is_digit_of 8) (take 3 ds)

abbrev pub octal_escape : List ℕ → Option (ℕ × ℕ)
octal_escape ds = if octal_len ds == 0 then None else byte_of 8 (octal_len ds) ds

-- the longest run of hexadecimal digits, which is one or two
abbrev pub hexadecimal_escape : List ℕ → Option (ℕ × ℕ)
hexadecimal_escape ds = if run_len (is_digit_of 16) ds == 0 then None else if nat_lt 2 (run_len (is_digit_of 16) ds) then None
    else byte_of 16 (run_len (is_digit_of 16) ds) ds

abbrev pub one_longer : Option (ℕ × ℕ) → Option (ℕ × ℕ)
one_longer None = None
one_longer (Some x) = Some (x.0, suc x.1)

abbrev pub numeric_escape : List ℕ → Option (ℕ × ℕ)
numeric_escape [] = None
numeric_escape (b ∷ bs) = if b == 120 then one_longer (hexadecimal_escape bs) else octal_escape (b ∷ bs)

abbrev pub either_escape : Option ℕ → List ℕ → Option (ℕ × ℕ)
either_escape (Some v) text = Some (v, 1)
either_escape None text = numeric_escape text

-- the escape behind a backslash
abbrev pub escape_of : List ℕ → Option (ℕ × ℕ)
escape_of [] = None
escape_of (b ∷ bs) = either_escape (named_escape b) (b ∷ bs)

abbrev pub element_of : List ℕ → Option (ℕ × ℕ)
element_of [] = None
element_of (b ∷ bs) = if b == 92 then one_longer (escape_of bs) else Some (b, 1)
