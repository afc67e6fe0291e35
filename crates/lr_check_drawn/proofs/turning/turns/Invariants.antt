use Rattle.lr_check_found.specs.lr_check_sets.specs.Table.{automaton_of}
use Rattle.lr_check_drawn.specs.Turning.{Turns}
use Rattle.lr_check_drawn.proofs.turning.turns.Given as goal

abbrev pub invariant-loop-class : goal.invariant-loop-class
invariant-loop-class l = Turns (automaton_of l.tables) l.place l.first l.classes l.from l.asked l.class-index
