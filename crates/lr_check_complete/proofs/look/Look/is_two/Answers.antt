use Rattle.lr_check_complete.specs.Looks.{automaton}
use Rattle.lr_check_complete.proofs.Framing.{two_kids_are}
use Rattle.lr_check_complete.proofs.Following.{made_two}
use Rattle.lr_check_complete.proofs.look.Look.is_two.Goals as goal

pub returns : goal.returns
returns c = λ u. made_two (automaton c.args.self.now) c.args.self.now.found.now c.args.number c.in-Some.found.1 c.in-Some.found.0 c.in-Some.ensures.0 c.in-Some.ensures.1
    c.in-Some-sum_at.found.0 c.in-Some-sum_at-2.found.0 _ _ c.args.first c.args.second c.in-Some-sum_at.found.1 c.in-Some-sum_at-2.found.1
    (two_kids_are c.in-Some.found.0.token c.kids-kids.result.now _ _ c.kids-kids.ensures c.if-kids-ne2.false) c.in-Some-sum_at.ensures c.in-Some-sum_at-2.ensures
    (c.fits.ensures c.if-not-fits.false) (c.fits-2.ensures u)
