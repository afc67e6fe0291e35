-- For each place of a code the place of the next item.
use Rattle.std.specs.Prelude.{◌≡◌, ◌<◌, ◌≤◌, ℕ, List, length, slice_index}
use Rattle.l32_core.specs.declared.code.Item32.{Item32}
use Rattle.l32_machine.specs.Labels.{next_item}

-- from a place on
pub record HasNextsFrom (first : ℕ) (items : List Item32) (nexts : List ℕ) : Type 0 where
  pub each : length nexts ≡ length items
  pub next : (place : ℕ) → first ≤ place → place < length items → slice_index nexts place ≡ next_item items place

abbrev pub HasNexts : List Item32 → List ℕ → Type 0
HasNexts items nexts = HasNextsFrom 0 items nexts
