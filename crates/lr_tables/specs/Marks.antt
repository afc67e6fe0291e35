-- Sets of classes as marks, and what follows from them along edges.
use Rattle.std.specs.Prelude.{ℕ, zero, suc, List, [], ◌∷◌, Bool, true, false, slice_index_or, slice_set, if◌then◌else◌}
use Rattle.lr_tables.specs.declared.marks.Edge.{Edge}

-- marks where each edge leads from a class that is marked by then
abbrev pub spread : List Edge → List Bool → List Bool
spread [] m = m
spread (e ∷ es) m = spread es (if slice_index_or m e.from false then slice_set m e.to true else m)

-- that so many times
abbrev pub rounds : ℕ → List Edge → List Bool → List Bool
rounds zero es m = m
rounds (suc n) es m = spread es (rounds n es m)
