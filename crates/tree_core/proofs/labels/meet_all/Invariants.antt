use Rattle.std.proofs.Common.{◌≡◌, drop}
use Rattle.tree_core.specs.declared.items.Mention.TheVariants as mention
use Rattle.tree_core.specs.Items.{labels}
use Rattle.tree_core.specs.Window.{has, added_all}
use Rattle.tree_core.proofs.labels.meet_all.Given as goal

abbrev pub invariant-loop-item : goal.invariant-loop-item
invariant-loop-item l = record {
  base : l.window.base ≡ l.initial.window.base;
  same : added_all l.initial.window.base (has l.window) (labels mention.Stands (drop l.item-index l.items)) ≡ added_all l.initial.window.base (has l.initial.window) (labels mention.Stands l.items);
}
