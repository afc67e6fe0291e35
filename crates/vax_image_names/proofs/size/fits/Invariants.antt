use Rattle.std.proofs.Common.{◌≡◌, ◌≤◌, drop, true}
use Rattle.std.specs.List.{list_all}
use Rattle.vax_core.specs.Valid.{is_area_item}
use Rattle.vax_machine.specs.Area.{end_from}
use Rattle.vax_image_names.proofs.size.fits.Given as goal

-- what is left ends where all items do
abbrev pub invariant-loop-item : goal.invariant-loop-item
invariant-loop-item l = record {
  ends : end_from (drop l.item-index l.items) l.end ≡ end_from l.items 65536;
  small : l.end ≤ 1114112;
  valid : list_all is_area_item (drop l.item-index l.items) ≡ true;
}
