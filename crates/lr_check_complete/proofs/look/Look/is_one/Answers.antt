use Rattle.lr_check_complete.specs.Looks.{automaton}
use Rattle.lr_check_complete.proofs.Framing.{one_kids}
use Rattle.lr_check_complete.proofs.Following.{made_one}
use Rattle.lr_check_complete.proofs.look.Look.is_one.Goals as goal

pub returns : goal.returns
returns c = λ u. made_one (automaton c.args.self.now) c.args.self.now.found.now c.args.number c.in-Some.found.1 c.in-Some.found.0 c.in-Some.ensures.0 c.in-Some.ensures.1
    c.in-Some-sum_at.found.0 _ c.args.kid c.in-Some-sum_at.found.1
    (one_kids c.in-Some.found.0.token c.kids-kids.result.now _ c.kids-kids.ensures c.if-kids-ne1.false) c.in-Some-sum_at.ensures (c.fits.ensures u)
