use Rattle.std.proofs.Common.{ℕ, ◌-◌, ◌<◌, ◌≤◌, ◌^◌}
use Rattle.tree_core.specs.Items.{times}
use Rattle.tree_core.proofs.numbers.numbers_differ.Given as goal

abbrev pub invariant-loop-base : goal.invariant-loop-base
invariant-loop-base l = (n : ℕ) → n < l.from → times n l.numbers ≤ 1

abbrev pub decreases-loop-base : goal.decreases-loop-base
decreases-loop-base l = 2 ^ 34 - l.from
