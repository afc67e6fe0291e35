-- Moves of a parse whose questions are answered by attributes, made one after another.
use Rattle.std.specs.Prelude.{◌≡◌, ℕ, List, [], ◌∷◌, Some, true, slice_get}
use Rattle.tree_core.specs.declared.tree.Leaf.{Leaf}
use Rattle.md_reader.specs.declared.types.Rule.{Rule}
use Rattle.lr_check_parse.specs.Moves.{Move, Shift, Reduce}
use Rattle.lr_check_parse.specs.Attributes.{Selecting, answered}

-- the moves lead from what is kept before them to what is kept behind them, and the restrictions of each rule that was taken held
pub data Made {X A : Type 0} (of : Selecting X A) (rules : List Rule) : X → List (Move Leaf) → X → Type 0 where
  none : {x : X} → Made of rules x [] x
  shift : {x y : X} {ms : List (Move Leaf)} (l : Leaf) → Made of rules (of.shifted l x) ms y → Made of rules x (Shift l ∷ ms) y
  reduce : {x x' y : X} {ms : List (Move Leaf)} {n : ℕ} (r : Rule) →
      slice_get rules n ≡ Some r → answered of r x ≡ true → of.reduced n x ≡ Some x' → Made of rules x' ms y →
      Made of rules x (Reduce n ∷ ms) y
