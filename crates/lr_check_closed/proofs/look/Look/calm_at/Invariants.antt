use Rattle.lr_check_closed.specs.Looks.{automaton}
use Rattle.lr_check_closed.specs.Fine.{AreCalm}
use Rattle.lr_check_closed.proofs.look.Look.calm_at.Given as goal

abbrev pub invariant-loop-round : goal.invariant-loop-round
invariant-loop-round l = AreCalm (automaton l.self) l.state l.calm.items
