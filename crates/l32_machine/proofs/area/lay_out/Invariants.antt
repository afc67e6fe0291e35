use Rattle.std.proofs.Common.{◌≡◌, ◌≤◌, ◌++◌, drop, true}
use Rattle.std.specs.List.{list_all}
use Rattle.vax_core.specs.Valid.{is_area_item}
use Rattle.vax_machine.specs.Area.{end_from}
use Rattle.vax_machine.specs.Tables.{addresses_from}
use Rattle.l32_machine.proofs.area.lay_out.Given as goal

-- what is left is laid out behind what stands
pub record Left (l : goal.Live-loop-item) : Type 0 where
  pub addresses : l.addresses.items ++ addresses_from (drop l.item-index l.items) l.at ≡ addresses_from l.items 65536
  pub end : end_from (drop l.item-index l.items) l.at ≡ end_from l.items 65536
  pub small : l.at ≤ 1114112
  pub start : 65536 ≤ l.at
  pub valid : list_all is_area_item (drop l.item-index l.items) ≡ true

abbrev pub invariant-loop-item : goal.invariant-loop-item
invariant-loop-item l = Left l
