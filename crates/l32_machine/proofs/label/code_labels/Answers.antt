use Rattle.std.proofs.Common.{ℕ, List, ◌∷◌, ◌||◌, drop, ap, ◌∙◌, is_some}
use Rattle.l32_core.specs.declared.code.Item32.{Item32}
use Rattle.std.specs.Option.{option_copied}
use Rattle.vax_machine.specs.Labels.{is_service}
use Rattle.l32_machine.specs.Found.{found}
use Rattle.vax_machine.proofs.Labelling.{in_front}
use Rattle.l32_machine.proofs.Labelling.{places_more, double_more}
use Rattle.l32_machine.proofs.label.code_labels.Goals as goal

pub loop-place-preserved-in-Continue-1 : goal.loop-place-preserved-in-Continue-1
loop-place-preserved-in-Continue-1 c =
    let list = c.args.items.now in
    let place = c.loop-place.place in
    let name = c.in-Label.name in
    let before = found c.loop-place.labels.places in
    let front = in_front list place c.index-items-place.result c.loop-place-test.true c.loop-place.auto.place c.index-items-place.is ∙ ap (λ (x : Item32). x ∷ drop place list) c.in-Label.is in
    let test = c.is_taken-again.ensures ∙ ap (λ (s : List ℕ). is_service s || is_some (before s)) c.as_slice.ensures in (
      places_more list place name before (found c.put.new.self.places) c.loop-place-test.true front c.loop-place.invariant.0 c.in_ok-put.ensures.places,
      double_more list place name before c.is_taken-again.result (option_copied c.loop-place.labels.double) (option_copied c.put.new.self.double) front c.loop-place.invariant.0 test
          c.loop-place.invariant.1 c.in_ok-put.ensures.double,
    )
