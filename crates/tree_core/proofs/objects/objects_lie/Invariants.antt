use Rattle.std.proofs.Common.{◌≡◌, ◌<◌, ◌^◌, drop}
use Rattle.tree_core.specs.Valid.{objects_lie}
use Rattle.tree_core.proofs.objects.objects_lie.Given as goal

abbrev pub invariant-loop-object : goal.invariant-loop-object
invariant-loop-object l = record {
  same : objects_lie l.at (drop l.object-index l.objects) ≡ objects_lie 65536 l.objects;
  small : l.at < 2 ^ 33;
}
