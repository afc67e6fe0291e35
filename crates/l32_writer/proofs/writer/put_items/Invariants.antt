use Rattle.std.proofs.Common.{◌≡◌, ◌++◌, take}
use Rattle.std.specs.List.{flat_map}
use Rattle.l32_core.specs.Text.{item_line}
use Rattle.l32_writer.proofs.writer.put_items.Given as goal

abbrev pub invariant-loop-item : goal.invariant-loop-item
invariant-loop-item l = l.into.items ≡ l.initial.into.items ++ flat_map item_line (take l.item-index l.items)
