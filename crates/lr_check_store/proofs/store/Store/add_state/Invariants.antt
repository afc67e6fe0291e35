use Rattle.lr_check_found.specs.lr_check_sets.specs.Table.{automaton_of}
use Rattle.lr_check_store.specs.Store.{IsSound}
use Rattle.lr_check_store.proofs.store.Store.add_state.Given as goal

abbrev pub invariant-loop-token : goal.invariant-loop-token
invariant-loop-token l = IsSound (automaton_of l.tables) l.self
