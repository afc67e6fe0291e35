use Rattle.std.proofs.Common.{◌≡◌, ◌<◌, ◌^◌, ◌++◌, drop}
use Rattle.tree_core.specs.Area.{bytes_from, opening}
use Rattle.tree_core.proofs.area.opening.Given as goal

abbrev pub invariant-loop-object : goal.invariant-loop-object
invariant-loop-object l = record {
  same : l.area.items ++ bytes_from l.at (drop l.object-index l.objects) ≡ opening l.objects;
  small : l.at < 2 ^ 33;
}
