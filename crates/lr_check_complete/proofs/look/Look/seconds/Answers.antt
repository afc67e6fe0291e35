use Rattle.std.proofs.Common.{sym}
use Rattle.lr_check_complete.proofs.Turns.{looks_there}
use Rattle.lr_check_complete.proofs.Both.{second_nowhere}
use Rattle.lr_check_complete.proofs.look.Look.seconds.Goals as goal

pub returns-in-None : goal.returns-in-None
returns-in-None c = λ two. looks_there c.args.self.now _ _
    (λ n m x at. second_nowhere c.args.self.now.found.now n c.args.first x c.args.token _ c.in-None.is c.behind.ensures.value)

pub returns-then-are_shown : goal.returns-then-are_shown
returns-then-are_shown c = λ two. looks_there c.args.self.now _ _ (c.are_shown.ensures c.if-are_shown.true c.in-Some.ensures.there.0 c.in-Some.ensures.there.1
    (sym (c.in-Some.ensures.value c.in-Some.ensures.there.0 c.in-Some.ensures.there.1)))

pub returns : goal.returns
returns c = λ two. c.seconds_at.ensures c.in-Some.ensures.there.0 c.in-Some.ensures.there.1
    (sym (c.in-Some.ensures.value c.in-Some.ensures.there.0 c.in-Some.ensures.there.1)) two
