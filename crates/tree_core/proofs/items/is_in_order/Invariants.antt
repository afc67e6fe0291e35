use Rattle.std.proofs.Common.{◌≡◌, ◌≤◌, drop, false}
use Rattle.tree_core.specs.Items.{in_order}
use Rattle.tree_core.proofs.items.is_in_order.Given as goal

abbrev pub invariant-loop-item : goal.invariant-loop-item
invariant-loop-item l = record {
  same : in_order l.pushed l.is_behind (drop l.item-index l.items) ≡ in_order 0 false l.items;
  few : l.pushed ≤ l.item-index;
}
