use Rattle.lr_check_closed.specs.Looks.{automaton}
use Rattle.lr_check_closed.specs.Fine.{AreCalm}
use Rattle.lr_check_closed.proofs.look.Look.calm_round.Given as goal

abbrev pub invariant-loop-class : goal.invariant-loop-class
invariant-loop-class l = AreCalm (automaton l.self) l.state l.fn.calm → AreCalm (automaton l.self) l.state l.calm
