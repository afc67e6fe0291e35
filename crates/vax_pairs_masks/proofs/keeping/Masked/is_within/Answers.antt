use Rattle.std.proofs.Common.{◌≡◌, ℕ, Some, ap, sym, ◌∙◌, arith}
use Rattle.std.proofs.lemmas.Bool.{eqb-true}
use Rattle.vax_machine.specs.Labels.{label_place}
use Rattle.vax_machine.proofs.Places.{place_is}
use Rattle.vax_pairs_checked.specs.Masks.{mask_at}
use Rattle.vax_pairs_masks.specs.Found.{found}
use Rattle.vax_pairs_masks.proofs.Labelling.{within}
use Rattle.vax_pairs_masks.proofs.keeping.Masked.is_within.Goals as goal

pub mask-requires : goal.mask-requires
mask-requires c =
    let s = c.args.self.now in
    omega (arith, within s.items.now 0 c.in-Some.place c.args.name.now (sym (λ i. s.places i c.args.name.now) ∙ sym c.in-Some.ensures))

pub returns-in-Some-mask : goal.returns-in-Some-mask
returns-in-Some-mask c =
    let s = c.args.self.now in
    let at : c.in-Some.place ≡ label_place s.items.now c.args.name.now = place_is (found s.labels) s.items.now c.args.name.now (Some c.in-Some.place) s.places c.in-Some.ensures in
    λ same. ap (mask_at s.items.now) (sym at) ∙ sym c.in-Some-mask.ensures ∙ ap (λ (m : ℕ). Some m) (eqb-true c.in-Some-mask.found c.args.mask same)
