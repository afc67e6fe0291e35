-- What is shown of an automaton without a fault.
use Rattle.std.specs.Prelude.{ℕ, ◌<◌, ◌≤◌}
use Rattle.gg_base.specs.declared.limits.TheConstants.{SUMMARY_LIMIT}
use Rattle.lr_check_found.specs.lr_check_sets.specs.Automaton.{Automaton}
use Rattle.lr_check_found.specs.lr_check_sets.specs.Faults.{NoFault}
use Rattle.lr_check_found.specs.Count.{HasMore}

-- there is no fault, and the set of sums has so many tuples, no more and no fewer
pub record IsFlawless (A : Automaton) (n : ℕ) : Type 0 where
  pub no_fault : NoFault A
  pub few : HasMore A n → ⊥
  pub many : (m : ℕ) → m < n → HasMore A m
  pub within : n ≤ SUMMARY_LIMIT
