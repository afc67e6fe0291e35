use Rattle.std.proofs.Common.{◌≡◌, drop}
use Rattle.vax_machine.specs.Tables.{place_in}
use Rattle.vax_pairs_masks.specs.Found.{found}
use Rattle.vax_pairs_masks.proofs.labels.Labels.of.Given as goal

-- the labels from a place on are known
abbrev pub invariant-loop-place : goal.invariant-loop-place
invariant-loop-place l = found l.labels ≡ place_in (drop l.place l.items) l.place
