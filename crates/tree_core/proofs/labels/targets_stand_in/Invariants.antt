use Rattle.std.proofs.Common.{ℕ, ◌-◌, ◌<◌, ◌^◌}
use Rattle.tree_core.specs.declared.items.Mention.TheVariants as mention
use Rattle.tree_core.specs.Items.{labels, times}
use Rattle.tree_core.proofs.labels.targets_stand_in.Given as goal

abbrev pub invariant-loop-base : goal.invariant-loop-base
invariant-loop-base l = (n : ℕ) → n < l.from → 0 < times n (labels mention.Target l.items) → 0 < times n (labels mention.Stands l.items)

abbrev pub decreases-loop-base : goal.decreases-loop-base
decreases-loop-base l = 2 ^ 34 - l.from
