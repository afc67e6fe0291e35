-- A term and its normal form make the same accesses.
use Rattle.std.specs.Prelude.{◌≡◌, ◌↔◌, ℕ, ◌<◌, ◌^◌, Bool, true, List}
use Rattle.tree_core.specs.Area.{is_inside}
use Rattle.term_core.specs.declared.facts.Fact.{Fact}
use Rattle.term_core.specs.Facts.{same_as}
use Rattle.term_core.specs.Shape.{Shape, Constant, Symbol, LastResult, Memory, Unary, Binary}
use Rattle.term_core.specs.Norm.{norm}
use Rattle.term_core.specs.Value.{State, Respects}
use Rattle.term_core_accesses.specs.Accesses.{Access, divides_well, accesses, IsOneOf, Knows, Safe}

-- each constant is a longword, as it is in every term that a program holds
abbrev pub IsNarrow : Shape → Type 0
IsNarrow (Constant n) = n < 2 ^ 32
IsNarrow (Symbol i) = Unit {0}
IsNarrow LastResult = Unit {0}
IsNarrow (Memory size a) = IsNarrow a
IsNarrow (Unary op t) = IsNarrow t
IsNarrow (Binary op a b) = IsNarrow a × IsNarrow b

-- No equation drops an access or makes one, and none makes a divisor zero or not.
pub record KeepsAccesses (facts : List Fact) (every : Bool) (m : State) (s : Shape) : Type 0 where
  pub divides : divides_well m (norm facts s) ≡ divides_well m s
  pub same : (x : Access) → IsOneOf x (accesses every m (norm facts s)) ↔ IsOneOf x (accesses every m s)

abbrev pub NormKeepsAccesses : Type 0
NormKeepsAccesses = (facts : List Fact) (every : Bool) (m : State) (s : Shape) → Respects facts m → IsNarrow s
    → KeepsAccesses facts every m s

-- where symbols that are spelled alike have numbers alike
abbrev pub NormIsSafe : Type 0
NormIsSafe =
    (facts : List Fact) (every : Bool) (known : ℕ → Bool) (area : List ℕ) (m : State) (s : Shape)
    → Respects facts m → ((i : ℕ) → known (same_as facts i) ≡ known i) → IsNarrow s
    → Safe every (λ i. known i ≡ true) area m (norm facts s) ↔ Safe every (λ i. known i ≡ true) area m s

-- a term is safe where its symbols have numbers and each of its accesses lies in the area
abbrev pub SafeByAccesses : Type 0
SafeByAccesses =
    (every : Bool) (known : ℕ → Bool) (area : List ℕ) (m : State) (s : Shape)
    → Safe every (λ i. known i ≡ true) area m s
    ↔ (Knows (λ i. known i ≡ true) s × ((x : Access) → IsOneOf x (accesses every m s) → is_inside x.size area x.address ≡ true))
