-- How the text of a tree grows, name by name.
use Rattle.std.proofs.Common.{ℕ, List, [], ◌∷◌, Bool, true, false}
use Rattle.tree_core.specs.declared.tree.Leaf.{Leaf}
use Rattle.tree_core.specs.Names.{shown}

-- what is still to be written
abbrev pub to_write : Bool → List Leaf → List ℕ
to_write b [] = []
to_write true (l ∷ w) = shown (l ∷ w)
to_write false (l ∷ w) = 32 ∷ shown (l ∷ w)
