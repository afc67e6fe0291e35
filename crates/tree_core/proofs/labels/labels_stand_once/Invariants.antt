use Rattle.std.proofs.Common.{ℕ, ◌-◌, ◌<◌, ◌≤◌, ◌^◌}
use Rattle.tree_core.specs.Items.{all_labels, times}
use Rattle.tree_core.proofs.labels.labels_stand_once.Given as goal

abbrev pub invariant-loop-base : goal.invariant-loop-base
invariant-loop-base l = (n : ℕ) → n < l.from → times n (all_labels l.functions) ≤ 1

abbrev pub decreases-loop-base : goal.decreases-loop-base
decreases-loop-base l = 2 ^ 34 - l.from
