use Rattle.std.proofs.Common.{sym, ◌∙◌}
use Rattle.lr_check_complete.specs.Looks.{automaton}
use Rattle.lr_check_complete.proofs.Framing.{one_kids, two_kids_are}
use Rattle.lr_check_complete.proofs.Following.{begins_only, begins_first}
use Rattle.lr_check_complete.proofs.look.Look.is_first.Goals as goal

pub returns-then-kids-eq1 : goal.returns-then-kids-eq1
returns-then-kids-eq1 c = λ u. begins_only (automaton c.args.self.now) c.args.self.now.found.now c.args.parent c.in-Some.found.1 c.in-Some.found.0 c.in-Some.ensures.0 c.in-Some.ensures.1
    c.args.place.now _ (one_kids c.in-Some.found.0.token c.kids-kids.result.now _ c.kids-kids.ensures c.if-kids-eq1.true) (c.fits.ensures u)

pub returns-then-kids-eq2 : goal.returns-then-kids-eq2
returns-then-kids-eq2 c = λ u. begins_first (automaton c.args.self.now) c.args.self.now.found.now c.args.parent c.in-Some.found.1 c.in-Some.found.0 c.in-Some.ensures.0 c.in-Some.ensures.1
    c.args.place.now _ _ (two_kids_are c.in-Some.found.0.token c.kids-kids.result.now _ _ c.kids-kids.ensures c.if-kids-eq2.true) (c.fits-then-kids-eq2.ensures u)
    (sym c.may.ensures ∙ c.if-not-may.false)
