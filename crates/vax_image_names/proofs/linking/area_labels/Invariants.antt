use Rattle.std.proofs.Common.{◌≡◌, drop, is_some}
use Rattle.vax_machine.specs.Labels.{double_area_label}
use Rattle.vax_machine.specs.Tables.{area_place_in}
use Rattle.vax_image_names.specs.Found.{found}
use Rattle.vax_image_names.proofs.linking.area_labels.Given as goal

-- the labels from a place on are known
abbrev pub invariant-loop-place : goal.invariant-loop-place
invariant-loop-place l = record {
  numbers : found l.labels.numbers ≡ area_place_in (drop l.place l.layout) l.place;
  double : l.labels.double ≡ is_some (double_area_label (drop l.place l.layout) l.items);
}
