use Rattle.lr_check_closed.proofs.look.Look.calm_round.Goals as goal

pub loop-class-preserved : goal.loop-class-preserved
loop-class-preserved c = λ are. c.calm_class.ensures (c.loop-class.invariant are)
