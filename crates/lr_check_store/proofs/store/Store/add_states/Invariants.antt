use Rattle.lr_check_found.specs.lr_check_sets.specs.Table.{automaton_of}
use Rattle.lr_check_store.specs.Store.{IsSound}
use Rattle.lr_check_store.proofs.store.Store.add_states.Given as goal

abbrev pub invariant-loop-number : goal.invariant-loop-number
invariant-loop-number l = IsSound (automaton_of l.tables) l.self
