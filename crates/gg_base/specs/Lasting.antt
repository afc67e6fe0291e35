-- What a run keeps from one number to the next.
use Rattle.std.specs.Prelude.{◌≡◌, ◌⊎◌, ℕ, suc, ◌<◌, ◌≤◌, List, ◌++◌}
use Rattle.gg_base.specs.declared.run.End.TheVariants.{Spent}
use Rattle.gg_base.specs.Runs.{Outcome, Runs}

-- from one number to the next the run is the same, or it was spent and goes on
abbrev pub Grows : ℕ → Outcome → Outcome → Type 0
Grows n a b = (b ≡ a) ⊎ ((a.end ≡ Spent) × ((more : List ℕ) × (b.output ≡ a.output ++ more)) × (b.number ≡ suc n))

-- what holds of a run below a number
pub record Lasts (k : ℕ) (r : Runs) : Type 0 where
  pub bound : (n : ℕ) → n < k → (r n).number ≤ n
  pub all_spent : (n : ℕ) → n < k → (r n).end ≡ Spent → (r n).number ≡ n
  pub grows : (n : ℕ) → suc n < k → Grows n (r n) (r (suc n))
