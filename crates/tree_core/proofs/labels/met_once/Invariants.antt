use Rattle.std.proofs.Common.{◌≡◌, drop, false}
use Rattle.tree_core.specs.Items.{all_labels}
use Rattle.tree_core.specs.Window.{has, met_once}
use Rattle.tree_core.proofs.labels.met_once.Given as goal

abbrev pub invariant-loop-function : goal.invariant-loop-function
invariant-loop-function l = record {
  base : l.window.base ≡ l.fn.base;
  same : met_once l.fn.base (has l.window) (all_labels (drop l.function-index l.functions)) ≡ met_once l.fn.base (λ m. false) (all_labels l.functions);
}
