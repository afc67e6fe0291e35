use Rattle.std.proofs.Common.{◌≡◌, drop, false}
use Rattle.tree_core.specs.Window.{has, met_once}
use Rattle.tree_core.proofs.numbers.met_once.Given as goal

abbrev pub invariant-loop-number : goal.invariant-loop-number
invariant-loop-number l = record {
  base : l.window.base ≡ l.fn.base;
  same : met_once l.fn.base (has l.window) (drop l.number-index l.numbers) ≡ met_once l.fn.base (λ m. false) l.numbers;
}
