use Rattle.lr_check_closed.proofs.look.Look.has_second.Goals as goal

pub returns-in-Some : goal.returns-in-Some
returns-in-Some c = λ u may is. record { state = c.in-Some.state; behind = c.in-Some.is; kid = c.has_kid.ensures u }
