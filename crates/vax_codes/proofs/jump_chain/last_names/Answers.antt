use Rattle.std.proofs.Common.{◌≡◌, ◌∙◌, ℕ, List, length, Option, None, sym, ap, subst, arith, rules}
use Rattle.std.specs.Prelude.{slice_index_or}
use Rattle.std.proofs.lemmas.Grind.{common_steps}
use Rattle.vax_codes.specs.Hops.{last_of, AreInside}
use Rattle.vax_codes.proofs.Hopping.{far_inside}
use Rattle.vax_codes.proofs.Chaining.{each_inside, hops_length}
use Rattle.vax_codes.proofs.Pushing.{one_pushed}
use Rattle.vax_codes.proofs.jump_chain.last_names.Goals as goal

pub far_places-requires : goal.far_places-requires
far_places-requires c = subst (λ (hs : List (Option ℕ)). AreInside hs) (sym (c.deref.ensures.value ∙ c.in_ok-hops.ensures)) (each_inside c.args.items.now)

pub last_name-requires-clause-inside : goal.last_name-requires-clause-inside
last_name-requires-clause-inside c =
    let hops = c.deref.ensures.value in
    let inside : AreInside c.deref.result.now =
    subst (λ (hs : List (Option ℕ)). AreInside hs) (sym (hops ∙ c.in_ok-hops.ensures)) (each_inside c.args.items.now) in
    let long : length c.deref.result.now ≡ length c.args.items.now = ap length (hops ∙ c.in_ok-hops.ensures) ∙ hops_length c.args.items.now in
    let within = c.loop-place-test.true in
    let h = far_inside c.deref.result.now inside c.in_ok-places.places.items c.in_ok-places.ensures c.loop-place.place (omega (arith, long, within)) in
    let here = ap (λ (xs : List ℕ). slice_index_or xs c.loop-place.place 0) c.deref-in-loop-place-2.ensures.value in
    let same : length c.deref-in-loop-place.result.now ≡ length c.deref.result.now = ap length (c.deref-in-loop-place.ensures.value ∙ sym hops) in
    omega (arith, h, here, same)

pub loop-place-preserved : goal.loop-place-preserved
loop-place-preserved c =
    let here : c.in_ok-last_name.field-0 ≡ last_of c.args.items.now c.in_ok-hops.hops.items c.in_ok-places.places.items c.loop-place.place =
    c.in_ok-last_name.ensures
    ∙ ap (λ (hs : List (Option ℕ)). last_of c.args.items.now hs c.deref-in-loop-place-2.result.now c.loop-place.place) c.deref-in-loop-place.ensures.value
    ∙ ap (λ (ps : List ℕ). last_of c.args.items.now c.in_ok-hops.hops.items ps c.loop-place.place) c.deref-in-loop-place-2.ensures.value in
    record {
      each = search (rules, common_steps);
      name = λ p lt. (
          ap (λ (os : List (Option (List ℕ))). slice_index_or os p None) c.in_ok-push.ensures.items
          ∙ one_pushed (λ (q : ℕ). last_of c.args.items.now c.in_ok-hops.hops.items c.in_ok-places.places.items q) c.loop-place.names.items c.loop-place.place c.in_ok-last_name.field-0 None
          c.loop-place.invariant.each c.loop-place.invariant.name here p lt);
    }
