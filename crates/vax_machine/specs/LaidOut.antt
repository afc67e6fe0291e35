-- A data area of at most `AREA_LIMIT` bytes that is laid out.
use Rattle.std.specs.Prelude.{◌≡◌, ◌≤◌, List}
use Rattle.gg_base.specs.declared.limits.TheConstants.{AREA_START}
use Rattle.vax_core.specs.declared.code.AreaItem.{AreaItem}
use Rattle.vax_machine.specs.declared.area.Layout.{Layout}
use Rattle.vax_machine.specs.Area.{end_from}
use Rattle.vax_machine.specs.Tables.{addresses_from}

pub record IsLaidOut (items : List AreaItem) (l : Layout) : Type 0 where
  pub addresses : l.addresses.items ≡ addresses_from items AREA_START
  pub end : l.end ≡ end_from items AREA_START
  pub small : l.end ≤ 1114112
