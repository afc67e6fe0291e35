-- Rows as they are packed.
use Rattle.std.specs.Prelude.{◌≡◌, ℕ, ◌+◌, ◌<◌, ◌^◌, List, [], ◌∷◌, length, map, slice_index, slice_index_or, Vec}
use Rattle.std.specs.List.{All, flat_map}
use Rattle.std.specs.declared.alloc.Global.{Global}
use Rattle.pack_rows.specs.declared.packed.Packed.{Packed}
use Rattle.pack_rows.specs.Rows.{default_of, exceptions, columns}

-- rows of one length, which 32 bits hold
pub record AreRows (rows : List (List ℕ)) : Type 0 where
  pub width : ℕ
  pub narrow : width < 2 ^ 32
  pub each : All (λ (row : List ℕ). length row ≡ width) rows

-- the rows in vectors
abbrev pub rows_in : List (Vec ℕ Global) → List (List ℕ)
rows_in rows = map (λ (v : Vec ℕ Global). v.items) rows

-- the place of each row's first exception, counted on from a number, and at last the place behind all
abbrev pub starts_from : ℕ → List (List ℕ) → List ℕ
starts_from n [] = n ∷ []
starts_from n (row ∷ rows) = n ∷ starts_from (n + length (exceptions row)) rows

unfoldable pub packed : List (List ℕ) → Packed
packed rows = record {
  defaults = map default_of rows;
  starts = starts_from 0 rows;
  columns = flat_map columns rows;
  entries = flat_map exceptions rows;
}

-- it is these rows, packed, and the row and the column are in them
pub record IsWithin (rows : List (List ℕ)) (p : Packed) (row column : ℕ) : Type 0 where
  pub are_rows : AreRows rows
  pub is : p ≡ packed rows
  pub row_in : row < length rows
  pub column_in : column < length (slice_index_or rows row [])

-- it has a row and a column so
abbrev pub HasEntry : Packed → ℕ → ℕ → Type 0
HasEntry p row column = (rows : List (List ℕ)) × IsWithin rows p row column

-- the entry there, whichever rows it is packed of
abbrev pub IsEntry : Packed → ℕ → ℕ → ℕ → Type 0
IsEntry p row column x = (rows : List (List ℕ)) → IsWithin rows p row column → x ≡ slice_index (slice_index_or rows row []) column
