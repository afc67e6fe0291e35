-- From where branches come.
use Rattle.std.specs.Prelude.{◌≡◌, ◌<◌, ℕ, ◌+◌, true, List, [], ◌∷◌, ◌++◌, length, Option, Some, None, slice_get, slice_set, slice_index_or}
use Rattle.vax_core.specs.declared.code.CodeItem.{CodeItem}
use Rattle.vax_codes.specs.Marks.{is_in}
use Rattle.vax_codes.specs.Nexts.{goal_of}

abbrev pub put_source : List (List ℕ) → Option ℕ → ℕ → List (List ℕ)
put_source goals None place = goals
put_source goals (Some goal) place = slice_set goals goal (slice_index_or goals goal [] ++ place ∷ [])

-- for each place those among so many items that go there
pub record ComeFrom (cs : List CodeItem) (number : ℕ) (goals : List (List ℕ)) : Type 0 where
  pub each : length goals ≡ length cs + 1
  pub only : (q p : ℕ) → is_in p (slice_index_or goals q []) ≡ true → (p < number) × (goal_of cs (slice_get cs p) ≡ Some q)
  pub there : (q p : ℕ) → p < number → goal_of cs (slice_get cs p) ≡ Some q → is_in p (slice_index_or goals q []) ≡ true

abbrev pub AreSources : List CodeItem → List (List ℕ) → Type 0
AreSources cs goals = ComeFrom cs (length cs) goals
