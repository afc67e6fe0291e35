use Rattle.std.proofs.Common.{◌≡◌, ◌+◌, ◌++◌, drop, length, true}
use Rattle.std.specs.List.{list_all}
use Rattle.vax_core.specs.Valid.{is_area_item}
use Rattle.vax_machine.specs.Area.{end_from, bytes_from}
use Rattle.l32_machine.proofs.area.Laid.area_bytes.Given as goal

-- the bytes of what is left stand behind those that are there
pub record Left (l : goal.Live-loop-item) : Type 0 where
  pub bytes : l.bytes.items ++ bytes_from l.self.names.now.layout.now (drop l.item-index l.items) l.at ≡ bytes_from l.self.names.now.layout.now l.items 65536
  pub end : end_from (drop l.item-index l.items) l.at ≡ end_from l.items 65536
  pub long : 65536 + length l.bytes.items ≡ l.at
  pub valid : list_all is_area_item (drop l.item-index l.items) ≡ true

abbrev pub invariant-loop-item : goal.invariant-loop-item
invariant-loop-item l = Left l
