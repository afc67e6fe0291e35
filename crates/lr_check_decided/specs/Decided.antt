-- What a decision says.
use Rattle.std.specs.Prelude.{ℕ, ◌<◌, ◌≤◌}
use Rattle.gg_base.specs.declared.limits.TheConstants.{SUMMARY_LIMIT}
use Rattle.lr_check_sets.specs.Automaton.{Automaton}
use Rattle.lr_check_sets.specs.Faults.{NoFault}
use Rattle.lr_check_found.specs.Count.{HasMore}
use Rattle.lr_check_flaws.specs.Flaws.{IsFlaw}
use Rattle.lr_check_complete.specs.Sets.{IsComplete}
use Rattle.lr_check_decided.specs.declared.deciding.Decision.{Decision}
use Rattle.lr_check_decided.specs.declared.deciding.Decision.TheVariants.{Fine, Faulty, Full}

-- the set of sums has so many tuples: no more, and no fewer
pub record HasSums (A : Automaton) (n : ℕ) : Type 0 where
  pub few : HasMore A n → ⊥
  pub many : (m : ℕ) → m < n → HasMore A m

-- there is no fault, and so many sums; all of the sets is found and it has a flaw, and there are no more than `SUMMARY_LIMIT` sums; or
-- there are more than that
abbrev pub IsSo : Automaton → Decision → Type 0
IsSo A (Fine tuples) = NoFault A × HasSums A tuples × (tuples ≤ SUMMARY_LIMIT)
IsSo A (Faulty found flaw) = IsComplete A found × IsFlaw A found flaw × (HasMore A SUMMARY_LIMIT → ⊥)
IsSo A Full = HasMore A SUMMARY_LIMIT
