-- Deeds that a run of trees does.
use Rattle.std.specs.Prelude.{ℕ, List, Option, Some, None}
use Rattle.tree_core.specs.Area.{stored}
use Rattle.sel_terms_trees.specs.tree_meaning.specs.declared.value.Meaning.TheVariants.{Memory}
use Rattle.sel_terms_trees.specs.tree_meaning.specs.Deeds.{Deed, Puts, Strays}

-- the memory to be written lies in the data area
abbrev pub FitsArea : Option (List ℕ) → Type 0
FitsArea None = ⊥
FitsArea (Some area) = Unit {0}

-- neither wild, nor a write outside the data area
abbrev pub IsPossible : List ℕ → Deed → Type 0
IsPossible area (Puts (Memory size address) n) = FitsArea (stored size area address n)
IsPossible area Strays = ⊥
IsPossible area d = Unit {0}
