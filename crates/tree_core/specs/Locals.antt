-- Numbers of a function's locals.
use Rattle.std.specs.Prelude.{ℕ, ◌≤◌, nat_lt, List}
use Rattle.std.specs.List.{AllPass}
use Rattle.tree_core.specs.Items.{times}

-- no number stands twice
abbrev pub NumbersDiffer : List ℕ → Type 0
NumbersDiffer ns = (n : ℕ) → times n ns ≤ 1

-- numbers of locals, of which there are so many, that differ
abbrev pub LocalsStand : ℕ → List ℕ → Type 0
LocalsStand locals ns = AllPass (λ n. nat_lt n locals) ns × NumbersDiffer ns
