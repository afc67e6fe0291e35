-- What the first number that passes says, and that none passes.
use Rattle.std.proofs.Common.{ℕ, ◌<◌, ◌≤◌, Option, Some, None, arith}
use Rattle.std.specs.Prelude.{IfSome, IfNone}
use Rattle.std.specs.Option.{MatchOption}

-- the numbers below n, looked at from the first on
abbrev pub Looked : (ℕ → Type 0) → (ℕ → Type 0) → ℕ → Option ℕ → Type 0
Looked Yes No n r = MatchOption r ((k : ℕ) → 0 ≤ k → k < n → No k) (λ i. (0 ≤ i) × (i < n) × Yes i × ((k : ℕ) → 0 ≤ k → k < i → No k))

pub first_is : (Yes No : ℕ → Type 0) (n : ℕ) (r : Option ℕ) → Looked Yes No n r → IfSome r Yes
first_is Yes No n None h = tt
first_is Yes No n (Some i) h = h.2

pub none_is_there : (Yes No : ℕ → Type 0) (n : ℕ) (r : Option ℕ) → Looked Yes No n r → IfNone r ((k : ℕ) → k < n → No k)
none_is_there Yes No n None h = λ k lt. h k (omega arith) lt
none_is_there Yes No n (Some i) h = tt

pub if_none : {X : Type 0} (r : Option X) (P Q : Type 0) → (P → Q) → IfNone r P → IfNone r Q
if_none None P Q f h = f h
if_none (Some i) P Q f h = tt
