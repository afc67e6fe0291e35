use Rattle.lr_check_complete.specs.Looks.{automaton}
use Rattle.lr_check_complete.proofs.Framing.{two_kids_are}
use Rattle.lr_check_complete.proofs.Following.{begins_second}
use Rattle.lr_check_complete.proofs.look.Look.is_second.Goals as goal

pub returns : goal.returns
returns c = λ u. begins_second (automaton c.args.self.now) c.args.self.now.found.now c.args.parent c.in-Some.found.1 c.in-Some.found.0 c.in-Some.ensures.0 c.in-Some.ensures.1
    c.args.place.now c.in-Some-sum_at.found.0 _ _ c.args.first c.in-Some-sum_at.found.1
    (two_kids_are c.in-Some.found.0.token c.kids-kids.result.now _ _ c.kids-kids.ensures c.if-kids-ne2.false) c.in-Some-sum_at.ensures (c.fits.ensures c.if-not-fits.false) (c.fits-2.ensures u)
