use Rattle.lr_check_closed.proofs.look.Look.is_started.Goals as goal

pub returns-in-Some : goal.returns-in-Some
returns-in-Some c = λ u. record { place = λ may. record { row = c.in-Some.row.now; at = c.in-Some.ensures; behind = c.has.ensures.there u } }
