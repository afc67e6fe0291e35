-- Trees that are put into temporaries.
use Rattle.std.specs.Prelude.{ℕ, suc, List, [], ◌∷◌, Bool, true, false}
use Rattle.c_lower_scheme.specs.Trees.{Tree, Loc, Item, AssignLoc}

-- a tree is put into a temporary, or stays as it is
abbrev pub saving : Bool → ℕ → Tree → List Item
saving true u w = AssignLoc u w ∷ []
saving false u w = []

abbrev pub saved : Bool → ℕ → Tree → Tree
saved true u w = Loc u
saved false u w = w

abbrev pub next_if : Bool → ℕ → ℕ
next_if true u = suc u
next_if false u = u
