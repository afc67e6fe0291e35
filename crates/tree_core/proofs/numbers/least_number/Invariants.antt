use Rattle.std.proofs.Common.{◌≡◌, ◌<◌, ◌^◌, drop, None, IfSome}
use Rattle.tree_core.specs.Window.{least}
use Rattle.tree_core.proofs.numbers.least_number.Given as goal

abbrev pub invariant-loop-number : goal.invariant-loop-number
invariant-loop-number l = record {
  same : least l.from l.best (drop l.number-index l.numbers) ≡ least l.from None l.numbers;
  small : IfSome l.best (λ n. n < 2 ^ 33);
}
