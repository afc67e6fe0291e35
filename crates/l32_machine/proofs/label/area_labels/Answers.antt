use Rattle.std.proofs.Common.{ℕ, List, ◌∷◌, ◌||◌, drop, ap, ◌∙◌, is_some}
use Rattle.vax_core.specs.declared.code.AreaItem.{AreaItem}
use Rattle.std.specs.Option.{option_copied}
use Rattle.vax_machine.specs.Labels.{is_service}
use Rattle.l32_machine.specs.Found.{found}
use Rattle.vax_machine.proofs.Labelling.{in_front, area_places_more}
use Rattle.l32_machine.proofs.Labelling.{area_double_more}
use Rattle.l32_machine.proofs.label.area_labels.Goals as goal

pub loop-place-preserved-in-Continue-1 : goal.loop-place-preserved-in-Continue-1
loop-place-preserved-in-Continue-1 c =
    let list = c.args.layout.now in
    let place = c.loop-place.place in
    let name = c.in-Label.name in
    let before = found c.loop-place.labels.places in
    let code = found c.args.code.now in
    let front = in_front list place c.index-layout-place.result c.loop-place-test.true c.loop-place.auto.place c.index-layout-place.is ∙ ap (λ (x : AreaItem). x ∷ drop place list) c.in-Label.is in
    let test = c.is_taken_in_either-again.ensures ∙ ap (λ (s : List ℕ). is_service s || (is_some (before s) || is_some (code s))) c.as_slice.ensures in (
      area_places_more list place name before (found c.put.new.self.places) c.loop-place-test.true front c.loop-place.invariant.0 c.in_ok-put.ensures.places,
      area_double_more list c.args.items.now place name before code c.is_taken_in_either-again.result (option_copied c.loop-place.labels.double) (option_copied c.put.new.self.double) front
          c.loop-place.invariant.0 c.requires test c.loop-place.invariant.1 c.in_ok-put.ensures.double,
    )
