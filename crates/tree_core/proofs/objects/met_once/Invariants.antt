use Rattle.std.proofs.Common.{◌≡◌, drop, false}
use Rattle.tree_core.specs.Valid.{bytes_linked}
use Rattle.tree_core.specs.Window.{has, met_once}
use Rattle.tree_core.proofs.objects.met_once.Given as goal

abbrev pub invariant-loop-link : goal.invariant-loop-link
invariant-loop-link l = record {
  base : l.window.base ≡ l.fn.base;
  same : met_once l.fn.base (has l.window) (bytes_linked (drop l.link-index l.links)) ≡ met_once l.fn.base (λ m. false) (bytes_linked l.links);
}
