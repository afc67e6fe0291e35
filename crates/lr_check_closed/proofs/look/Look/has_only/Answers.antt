use Rattle.lr_check_closed.proofs.look.Look.has_only.Goals as goal

pub returns : goal.returns
returns c = λ u. record { kid = λ may. c.has_kid.ensures u }
