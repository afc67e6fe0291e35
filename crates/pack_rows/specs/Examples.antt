-- Two rows and one, packed by the definition, worked out by hand.
use Rattle.std.specs.Prelude.{◌≡◌, [], ◌∷◌, refl}
use Rattle.pack_rows.specs.Rows.{exceptions, columns}
use Rattle.pack_rows.specs.Packed.{packed}

-- 9 at column 2 of the first row is the one exception
pub two_rows : packed ((7 ∷ 7 ∷ 9 ∷ []) ∷ (7 ∷ 7 ∷ 7 ∷ []) ∷ [])
    ≡ record { defaults = 7 ∷ 7 ∷ []; starts = 0 ∷ 1 ∷ 1 ∷ []; columns = 2 ∷ []; entries = 9 ∷ [] }
unfolding packed exceptions columns
two_rows = refl

-- of two entries that stand once each the smaller one is the default
pub one_row : packed ((2 ∷ 1 ∷ []) ∷ []) ≡ record { defaults = 1 ∷ []; starts = 0 ∷ 1 ∷ []; columns = 0 ∷ []; entries = 2 ∷ [] }
unfolding packed exceptions columns
one_row = refl
