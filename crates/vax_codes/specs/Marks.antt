-- A set of places that grows until it is closed.
use Rattle.std.specs.Prelude.{◌≡◌, ◌≤◌, ◌⊎◌, ℕ, ◌+◌, ◌*◌, Bool, true, false, not, nat_eq, List, length, slice_index_or}
use Rattle.std.specs.List.{list_any, count_by}
use Rattle.vax_codes.specs.declared.marks.Marks.{Marks}

abbrev pub is_in : ℕ → List ℕ → Bool
is_in p places = list_any (λ (q : ℕ). nat_eq p q) places

abbrev pub IsMarked : Marks → ℕ → Type 0
IsMarked m p = slice_index_or m.marked.items p false ≡ true

abbrev pub waits : Marks → ℕ → Bool
waits m p = is_in p m.waiting.items

-- how much there is still to do: less with each place that is asked about
abbrev pub to_do : Marks → ℕ
to_do m = 2 * count_by not m.marked.items + length m.waiting.items

-- no place is in the set
pub record Empty (m : Marks) (places : ℕ) : Type 0 where
  pub each : length m.marked.items ≡ places
  pub marked : (p : ℕ) → IsMarked m p → ⊥
  pub waiting : (p : ℕ) → waits m p ≡ false

-- The places with P are in the set as well, and those that are new wait.
pub record Adds (P : ℕ → Type 0) (old new : Marks) : Type 0 where
  pub each : length new.marked.items ≡ length old.marked.items
  pub there : (p : ℕ) → P p → IsMarked new p
  pub stays : (p : ℕ) → IsMarked old p → IsMarked new p
  pub only : (p : ℕ) → IsMarked new p → IsMarked old p ⊎ (P p × (waits new p ≡ true))
  pub waiting : (p : ℕ) → waits old p ≡ true → waits new p ≡ true
  pub waits_only : (p : ℕ) → waits new p ≡ true → (waits old p ≡ true) ⊎ P p
  pub less : to_do new ≤ to_do old

-- A place no longer waits.
pub record Takes (place : ℕ) (old new : Marks) : Type 0 where
  pub marked : new.marked.items ≡ old.marked.items
  pub waited : waits old place ≡ true
  pub others : (p : ℕ) → waits old p ≡ true → (waits new p ≡ true) ⊎ (p ≡ place)
  pub waiting : (p : ℕ) → waits new p ≡ true → waits old p ≡ true
  pub less : to_do new + 1 ≡ to_do old

-- No place waits.
pub record Rests (old new : Marks) : Type 0 where
  pub marked : new.marked.items ≡ old.marked.items
  pub none : (p : ℕ) → waits old p ≡ false
