-- Sights that see more.
use Rattle.std.specs.Prelude.{◌≡◌, ℕ, ◌<◌, List, Some, None, true, length}
use Rattle.tree_core.specs.declared.program.TreeFn.{TreeFn}
use Rattle.tree_core.specs.Attributes.{leaf_fits}
use Rattle.tree_core.specs.Valid.{leaf_names}
use Rattle.tree_core.specs.Trees.{Forest, none, tree}
use Rattle.tree_meaning.specs.Values.{Sight}

-- The second sees all that the first sees, and it may see values in locals that aren't written yet: so a machine's frame does.
pub record Completes (s t : Sight) : Type 0 where
  pub locals : (k n : ℕ) → s.locals k ≡ Some n → t.locals k ≡ Some n
  pub arguments : t.arguments ≡ s.arguments
  pub area : t.area ≡ s.area

-- A machine's frame: each local of the function has some value, and its arguments are there.
pub record Frames (f : TreeFn) (t : Sight) : Type 0 where
  pub locals : (k : ℕ) → k < f.locals → t.locals k ≡ None → ⊥
  pub arguments : length t.arguments ≡ f.args

-- the leaves of trees fit their tokens, and name what a function of the program has
abbrev pub AllNamed : List TreeFn → ℕ → TreeFn → Forest → Type 0
AllNamed fs objects f none = Unit {0}
AllNamed fs objects f (tree l below behind) =
    (leaf_fits l ≡ true) × (leaf_names fs objects f l ≡ true) × AllNamed fs objects f below × AllNamed fs objects f behind
