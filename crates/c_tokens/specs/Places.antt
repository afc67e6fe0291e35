-- The line and the column behind some bytes, both counted from 1. A line ends with LF.
use Rattle.std.specs.Prelude.{ℕ, suc, ◌==◌, List, [], ◌∷◌, if◌then◌else◌}

-- one more than the number of line feeds
abbrev pub line_from : ℕ → List ℕ → ℕ
line_from n [] = n
line_from n (b ∷ bs) = if b == 10 then line_from (suc n) bs else line_from n bs

-- one more than the number of bytes behind the last line feed
abbrev pub column_from : ℕ → List ℕ → ℕ
column_from n [] = n
column_from n (b ∷ bs) = if b == 10 then column_from 1 bs else column_from (suc n) bs

abbrev pub line_of : List ℕ → ℕ
line_of before = line_from 1 before

abbrev pub column_of : List ℕ → ℕ
column_of before = column_from 1 before
