use Rattle.std.proofs.Common.{◌≡◌, ◌<◌, ◌^◌, drop, IfSome}
use Rattle.tree_core.specs.Items.{labels}
use Rattle.tree_core.specs.Window.{least}
use Rattle.tree_core.proofs.labels.least_of.Given as goal

abbrev pub invariant-loop-item : goal.invariant-loop-item
invariant-loop-item l = record {
  same : least l.from l.least (labels l.mention (drop l.item-index l.items)) ≡ least l.from l.fn.best (labels l.mention l.items);
  small : IfSome l.least (λ n. n < 2 ^ 33);
}
