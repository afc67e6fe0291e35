-- What a name in assembly text may hold.
use Rattle.std.specs.Prelude.{ℕ, Bool, ◌==◌, ◌||◌}
use Rattle.std.specs.Char.{is_ascii_alphanumeric}

-- a letter, a digit or `_`
abbrev pub is_name_part : ℕ → Bool
is_name_part c = is_ascii_alphanumeric c || (c == 95)
