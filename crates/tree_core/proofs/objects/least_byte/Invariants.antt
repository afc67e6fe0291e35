use Rattle.std.proofs.Common.{◌≡◌, ◌<◌, ◌^◌, drop, None, IfSome}
use Rattle.tree_core.specs.Valid.{bytes_linked}
use Rattle.tree_core.specs.Window.{least}
use Rattle.tree_core.proofs.objects.least_byte.Given as goal

abbrev pub invariant-loop-link : goal.invariant-loop-link
invariant-loop-link l = record {
  same : least l.from l.best (bytes_linked (drop l.link-index l.links)) ≡ least l.from None (bytes_linked l.links);
  small : IfSome l.best (λ n. n < 2 ^ 33);
}
