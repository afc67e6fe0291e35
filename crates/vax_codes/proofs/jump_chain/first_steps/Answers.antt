use Rattle.std.proofs.Common.{◌≡◌, ◌∙◌, ℕ, List, ap, rules}
use Rattle.std.specs.Prelude.{slice_index_or}
use Rattle.std.proofs.lemmas.Grind.{common_steps}
use Rattle.vax_codes.specs.Hops.{step}
use Rattle.vax_codes.proofs.Pushing.{one_pushed}
use Rattle.vax_codes.proofs.jump_chain.first_steps.Goals as goal

pub loop-place-preserved : goal.loop-place-preserved
loop-place-preserved c =
    let here : c.unwrap_or.result ≡ step c.args.hops.now c.loop-place.place = search (rules, common_steps) in
    record {
      each = search (rules, common_steps);
      step = λ p lt. (
          ap (λ (xs : List ℕ). slice_index_or xs p 0) c.in_ok-push.ensures.items
          ∙ one_pushed (λ (q : ℕ). step c.args.hops.now q) c.loop-place.places.items c.loop-place.place c.unwrap_or.result 0 c.loop-place.invariant.each c.loop-place.invariant.step here p lt);
    }
