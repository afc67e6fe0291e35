use Rattle.std.proofs.Common.{◌≡◌, ◌++◌, true, length}
use Rattle.std.specs.List.{list_all, flat_map}
use Rattle.vax_core.specs.Valid.{is_area_item}
use Rattle.vax_image_format.specs.Sections.{area_bytes}
use Rattle.vax_image_writing.proofs.image.put_area.Given as goal

-- what was written and what is left to write are the whole
abbrev pub invariant-loop-left : goal.invariant-loop-left
invariant-loop-left l = record {
  whole : l.bytes.items ++ flat_map area_bytes l.left ≡ l.fn.bytes.items ++ flat_map area_bytes l.area;
  valid : list_all is_area_item l.left ≡ true;
}

abbrev pub decreases-loop-left : goal.decreases-loop-left
decreases-loop-left l = length l.left
