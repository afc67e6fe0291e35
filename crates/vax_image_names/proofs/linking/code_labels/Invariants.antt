use Rattle.std.proofs.Common.{◌≡◌, drop, is_some}
use Rattle.vax_machine.specs.Labels.{double_label}
use Rattle.vax_machine.specs.Tables.{place_in}
use Rattle.vax_image_names.specs.Found.{found}
use Rattle.vax_image_names.proofs.linking.code_labels.Given as goal

-- the labels from a place on are known
abbrev pub invariant-loop-place : goal.invariant-loop-place
invariant-loop-place l = record {
  numbers : found l.labels.numbers ≡ place_in (drop l.place l.items) l.place;
  double : l.labels.double ≡ is_some (double_label (drop l.place l.items));
}
