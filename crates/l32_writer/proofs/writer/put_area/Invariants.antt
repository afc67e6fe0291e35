use Rattle.std.proofs.Common.{◌≡◌, ◌++◌, take}
use Rattle.std.specs.List.{flat_map}
use Rattle.vax_core.specs.Text.{area_line}
use Rattle.l32_writer.proofs.writer.put_area.Given as goal

abbrev pub invariant-loop-item : goal.invariant-loop-item
invariant-loop-item l = l.into.items ≡ l.initial.into.items ++ flat_map area_line (take l.item-index l.items)
