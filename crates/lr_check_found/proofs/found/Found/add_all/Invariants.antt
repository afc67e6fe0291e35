use Rattle.lr_check_sets.specs.Table.{automaton_of}
use Rattle.lr_check_found.proofs.Added.{AddsAll}
use Rattle.lr_check_found.proofs.found.Found.add_all.Given as goal

abbrev pub invariant-loop-item : goal.invariant-loop-item
invariant-loop-item l = AddsAll (automaton_of l.tables) l.fn.self l.self
