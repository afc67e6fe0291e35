use Rattle.std.proofs.Common.{ℕ, ◌-◌, ◌<◌, ◌≤◌, ◌^◌}
use Rattle.tree_core.specs.Items.{times}
use Rattle.tree_core.specs.Valid.{bytes_linked}
use Rattle.tree_core.proofs.objects.bytes_apart.Given as goal

abbrev pub invariant-loop-base : goal.invariant-loop-base
invariant-loop-base l = (n : ℕ) → n < l.from → times n (bytes_linked l.links) ≤ 1

abbrev pub decreases-loop-base : goal.decreases-loop-base
decreases-loop-base l = 2 ^ 34 - l.from
