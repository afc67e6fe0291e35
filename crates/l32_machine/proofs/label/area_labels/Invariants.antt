use Rattle.std.proofs.Common.{◌≡◌, drop}
use Rattle.std.specs.Option.{option_copied}
use Rattle.l32_machine.specs.Labels.{double_area_label}
use Rattle.vax_machine.specs.Tables.{area_place_in}
use Rattle.l32_machine.specs.Found.{found}
use Rattle.l32_machine.proofs.label.area_labels.Given as goal

-- the labels from a place on are known
abbrev pub invariant-loop-place : goal.invariant-loop-place
invariant-loop-place l = (found l.labels.places ≡ area_place_in (drop l.place l.layout) l.place) × (option_copied l.labels.double ≡ double_area_label (drop l.place l.layout) l.items)
