use Rattle.std.proofs.Common.{ℕ, List, ◌-◌, ◌∷◌, ◌||◌, drop, ap, ◌∙◌, is_some}
use Rattle.vax_core.specs.declared.code.CodeItem.{CodeItem}
use Rattle.vax_machine.specs.Labels.{is_service}
use Rattle.vax_machine.specs.Tables.{with_name}
use Rattle.vax_image_names.specs.Found.{found}
use Rattle.vax_image_names.proofs.Placing.{in_front, numbers_step, double_step}
use Rattle.vax_image_names.proofs.linking.code_labels.Goals as goal

pub loop-place-preserved-in-Continue-1 : goal.loop-place-preserved-in-Continue-1
loop-place-preserved-in-Continue-1 c =
    let list = c.args.items.now in
    let place = c.loop-place.place in
    let name = c.in-Label.name in
    let old = found c.loop-place.labels.numbers in
    let front = in_front list place c.index-items-place.result c.loop-place-test.true c.loop-place.auto.place c.index-items-place.is ∙ ap (λ (x : CodeItem). x ∷ drop place list) c.in-Label.is in
    let test = c.is_taken-again.ensures ∙ ap (λ (s : List ℕ). is_service s || is_some (old s)) c.as_slice.ensures in
    let put = c.in_ok-put.ensures.numbers ∙ ap (λ (s : List ℕ). with_name old s (place - 1)) c.as_slice-in-Label.ensures in
    record {
      numbers = numbers_step list place name old (found c.put.new.self.numbers) c.loop-place-test.true front c.loop-place.invariant.numbers put;
      double = double_step list place name old c.is_taken-again.result c.loop-place.labels.double c.put.new.self.double front c.loop-place.invariant.numbers test
          c.loop-place.invariant.double c.in_ok-put.ensures.double;
    }
