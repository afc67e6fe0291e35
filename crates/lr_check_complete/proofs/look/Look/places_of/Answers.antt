use Rattle.lr_check_found.proofs.Below.{of_all}
use Rattle.lr_check_complete.proofs.Framing.{no_places, more_places}
use Rattle.lr_check_complete.proofs.look.Look.places_of.Goals as goal

pub loop-behind-init : goal.loop-behind-init
loop-behind-init c = no_places _ _ _ _ _ c.new-numbers.ensures.items

pub loop-behind-preserved : goal.loop-behind-preserved
loop-behind-preserved c = more_places c.args.self.now.found.now c.args.state c.args.token _ _ _ _ _ c.loop-behind.invariant c.loop-behind-test.true c.in_ok-add_number.ensures.kept
    c.in_ok-add_number.ensures.only
    c.in_ok-add_number.ensures.there

pub returns : goal.returns
returns c = record {
  places = c.loop-behind.invariant.places;
  all = λ n b at. of_all _ _ _ c.loop-behind.invariant.all c.loop-behind-test.false b (c.tokens-behind-items.ensures b) n at;
}
