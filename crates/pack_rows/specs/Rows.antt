-- A row's default and its exceptions.
use Rattle.std.specs.Prelude.{ℕ, ◌+◌, List, [], ◌∷◌, Bool, ◌==◌, ◌&&◌, ◌||◌, not}
use Rattle.std.specs.Prelude.{nat_lt, slice_index, fold, count_by, filter, if◌then◌else◌}

-- how often an entry stands in a row
abbrev pub count : List ℕ → ℕ → ℕ
count row x = count_by (λ (y : ℕ). y == x) row

-- the second of two entries stands in the row more often than the first, or as often and is smaller
abbrev pub is_oftener : List ℕ → ℕ → ℕ → Bool
is_oftener row x y = nat_lt (count row x) (count row y) || ((count row x == count row y) && nat_lt y x)

abbrev pub oftener : List ℕ → ℕ → ℕ → ℕ
oftener row x y = if is_oftener row x y then y else x

-- the entry that stands in a row most often, the smaller where two stand equally often; 0 for an empty row
abbrev pub default_of : List ℕ → ℕ
default_of row = fold (oftener row) (slice_index row 0) row

-- the columns, counted on from a number, of the entries that aren't the default
abbrev pub columns_from : ℕ → ℕ → List ℕ → List ℕ
columns_from default n [] = []
columns_from default n (x ∷ row) = if x == default then columns_from default (n + 1) row else (n ∷ columns_from default (n + 1) row)

abbrev pub other_than : ℕ → List ℕ → List ℕ
other_than default row = filter (λ (x : ℕ). not (x == default)) row

-- a row's exceptions, and their columns
unfoldable pub exceptions : List ℕ → List ℕ
exceptions row = other_than (default_of row) row

unfoldable pub columns : List ℕ → List ℕ
columns row = columns_from (default_of row) 0 row
