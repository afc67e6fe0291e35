use Rattle.lr_check_complete.proofs.look.Look.has_only_from.Goals as goal

pub returns : goal.returns
returns c = λ u. record { kid = λ may. c.has_kid.ensures u }
