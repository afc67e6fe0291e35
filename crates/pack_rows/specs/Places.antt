-- A part of a list that rises, and a number's place in it.
use Rattle.std.specs.Prelude.{◌≡◌, ℕ, ◌<◌, ◌≤◌, List, Option, Some, None, slice_index}

pub record IsRising (xs : List ℕ) (from to : ℕ) : Type 0 where
  pub each : (i j : ℕ) → from ≤ i → i ≤ j → j < to → slice_index xs i ≤ slice_index xs j

-- its place, or that it stands nowhere there
abbrev pub IsPlaceOf : List ℕ → ℕ → ℕ → ℕ → Option ℕ → Type 0
IsPlaceOf xs from to x None = (k : ℕ) → from ≤ k → k < to → slice_index xs k ≡ x → ⊥
IsPlaceOf xs from to x (Some k) = (from ≤ k) × (k < to) × (slice_index xs k ≡ x)
