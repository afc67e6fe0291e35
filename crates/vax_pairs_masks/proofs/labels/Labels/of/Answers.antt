use Rattle.std.proofs.Common.{ℕ, ◌-◌, List, ◌∷◌, drop, ap, ◌∙◌}
use Rattle.vax_core.specs.declared.code.CodeItem.{CodeItem}
use Rattle.vax_machine.specs.Tables.{with_name}
use Rattle.vax_machine.proofs.Labelling.{in_front, places_more}
use Rattle.vax_pairs_masks.specs.Found.{found}
use Rattle.vax_pairs_masks.proofs.labels.Labels.of.Goals as goal

pub loop-place-preserved-in-Continue-1 : goal.loop-place-preserved-in-Continue-1
loop-place-preserved-in-Continue-1 c =
    let list = c.args.items.now in
    let place = c.loop-place.place in
    let front = in_front list place c.index-items-place.result c.loop-place-test.true c.loop-place.auto.place c.index-items-place.is ∙ ap (λ (x : CodeItem). x ∷ drop place list) c.in-Label.is in
    places_more list place c.in-Label.name (found c.loop-place.labels) (found c.put.new.self) c.loop-place-test.true front c.loop-place.invariant
    (c.in_ok-put.ensures ∙ ap (λ (n : List ℕ). with_name (found c.loop-place.labels) n (place - 1)) c.as_slice.ensures)
