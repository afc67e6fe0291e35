use Rattle.lr_check_sets.specs.Table.{automaton_of}
use Rattle.lr_check_decided.proofs.Calming.{Marking}
use Rattle.lr_check_decided.proofs.calm.mark_all.Given as goal

abbrev pub invariant-loop-class : goal.invariant-loop-class
invariant-loop-class l = Marking (automaton_of l.tables) l.state l.behind l.fn.marks l.marks l.class l.changed
