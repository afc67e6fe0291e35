-- The memory that a term reads in a state.
use Rattle.std.specs.Prelude.{◌≡◌, ◌⊎◌, ℕ, ◌==◌, ◌&&◌, ◌||◌, not, List, [], ◌∷◌, ◌++◌, Bool, true, false, if◌then◌else◌}
use Rattle.gg_base.specs.declared.size.Size.{Size}
use Rattle.tree_core.specs.Area.{is_inside}
use Rattle.term_core.specs.declared.operator.BinaryOp.{BinaryOp}
use Rattle.term_core.specs.declared.operator.BinaryOp.TheVariants as binary_op
use Rattle.term_core.specs.Shape.{Shape, Constant, Symbol, LastResult, Memory, Unary, Binary}
use Rattle.term_core.specs.Value.{State, value}

abbrev pub is_division : BinaryOp → Bool
is_division binary_op.Div = true
is_division op = false

-- no part of a term divides by zero
abbrev pub divides_well : State → Shape → Bool
divides_well m (Constant n) = true
divides_well m (Symbol i) = true
divides_well m LastResult = true
divides_well m (Memory size a) = divides_well m a
divides_well m (Unary op t) = divides_well m t
divides_well m (Binary op a b) = divides_well m a && (divides_well m b && not (is_division op && (value m b == 0)))

-- so many bytes at an address
pub record Access : Type 0 where
  pub size : Size
  pub address : ℕ

-- The accesses of a term in a state, from left to right: every one, or all but those whose address divides by zero, which are never made.
abbrev pub accesses : Bool → State → Shape → List Access
accesses every m (Constant n) = []
accesses every m (Symbol i) = []
accesses every m LastResult = []
accesses every m (Memory size a) = accesses every m a ++ (if every || divides_well m a then record
    { size = size; address = value m a } ∷ [] else [])
accesses every m (Unary op t) = accesses every m t
accesses every m (Binary op a b) = accesses every m a ++ accesses every m b

-- an access is one of these
abbrev pub IsOneOf : Access → List Access → Type 0
IsOneOf x [] = ⊥
IsOneOf x (y ∷ ys) = (x ≡ y) ⊎ IsOneOf x ys

-- the symbols of a term have numbers
abbrev pub Knows : (ℕ → Type 0) → Shape → Type 0
Knows known (Constant n) = Unit {0}
Knows known (Symbol i) = known i
Knows known LastResult = Unit {0}
Knows known (Memory size a) = Knows known a
Knows known (Unary op t) = Knows known t
Knows known (Binary op a b) = Knows known a × Knows known b

-- The symbols of a term have numbers, and its accesses lie in the area: every one, or all but those whose address divides by zero.
abbrev pub Safe : Bool → (ℕ → Type 0) → List ℕ → State → Shape → Type 0
Safe every known area m (Constant n) = Unit {0}
Safe every known area m (Symbol i) = known i
Safe every known area m LastResult = Unit {0}
Safe every known area m (Memory size a) = Safe every known area m a × ((every || divides_well m a) ≡ true
    → is_inside size area (value m a) ≡ true)
Safe every known area m (Unary op t) = Safe every known area m t
Safe every known area m (Binary op a b) = Safe every known area m a × Safe every known area m b
