use Rattle.std.proofs.Common.{◌≡◌, drop}
use Rattle.std.specs.Option.{option_copied}
use Rattle.l32_machine.specs.Labels.{double_label}
use Rattle.l32_machine.specs.Tables.{place_in}
use Rattle.l32_machine.specs.Found.{found}
use Rattle.l32_machine.proofs.label.code_labels.Given as goal

-- the labels from a place on are known
abbrev pub invariant-loop-place : goal.invariant-loop-place
invariant-loop-place l = (found l.labels.places ≡ place_in (drop l.place l.items) l.place) × (option_copied l.labels.double ≡ double_label (drop l.place l.items))
