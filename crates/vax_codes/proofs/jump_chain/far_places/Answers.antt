use Rattle.std.proofs.Common.{ℕ, ◌<◌, List, length, sym, subst, arith}
use Rattle.std.specs.Prelude.{slice_index_or}
use Rattle.vax_codes.specs.Hops.{AreStepsOn}
use Rattle.vax_codes.proofs.Hopping.{places_inside, twice_on}
use Rattle.vax_codes.proofs.jump_chain.far_places.Goals as goal

pub twice-requires : goal.twice-requires
twice-requires c =
    subst (λ (xs : List ℕ). (p : ℕ) → p < length xs → slice_index_or xs p 0 < length xs) (sym c.deref.ensures.value)
    (places_inside c.args.hops.now c.requires c.loop-steps.steps c.loop-steps.places.items c.loop-steps.invariant.on)

pub loop-steps-preserved : goal.loop-steps-preserved
loop-steps-preserved c = record {
  some = (let s = c.loop-steps.invariant.some in omega (arith, s));
  on = twice_on c.args.hops.now c.requires c.loop-steps.steps c.deref.result.now _ (subst (AreStepsOn c.args.hops.now c.loop-steps.steps) (sym c.deref.ensures.value) c.loop-steps.invariant.on)
      c.in_ok-places-2.ensures.each c.in_ok-places-2.ensures.place;
}
