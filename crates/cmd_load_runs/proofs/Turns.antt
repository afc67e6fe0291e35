-- A source's run whose output and number are kept while it goes on.
use Rattle.std.proofs.Common.{◌≡◌, ℕ, ◌+◌, ◌-◌, ◌≤◌, List, ◌++◌, length}
use Rattle.gg_base.specs.Runs.{Outcome, Remaining}

-- what was written so far, and what is left, make the whole; so many moments were counted
pub record Remains (whole : Outcome) (out : List ℕ) (done : ℕ) (left : Remaining) : Type 0 where
  pub output : whole.output ≡ out ++ left.outcome.output
  pub end : whole.end ≡ left.outcome.end
  pub number : whole.number ≡ left.outcome.number
  pub taken : left.taken ≡ done
  pub within : left.taken ≤ left.outcome.number

-- how much is left, in bytes and in moments
abbrev pub left_of : Remaining → ℕ
left_of r = length r.outcome.output + (r.outcome.number - r.taken)
