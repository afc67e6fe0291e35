use Rattle.std.proofs.Common.{◌≡◌, ◌<◌, ◌^◌, drop, None, IfSome}
use Rattle.tree_core.specs.Items.{all_labels}
use Rattle.tree_core.specs.Window.{least}
use Rattle.tree_core.proofs.labels.least_of_all.Given as goal

abbrev pub invariant-loop-function : goal.invariant-loop-function
invariant-loop-function l = record {
  same : least l.from l.best (all_labels (drop l.function-index l.functions)) ≡ least l.from None (all_labels l.functions);
  small : IfSome l.best (λ n. n < 2 ^ 33);
}
