use Rattle.lr_check_found.specs.lr_check_sets.specs.Table.{automaton_of}
use Rattle.lr_check_store.proofs.Holding.{row_of}
use Rattle.lr_check_store.proofs.store.Store.begins_behind.Goals as goal

pub returns-in-Some : goal.returns-in-Some
returns-in-Some c = λ u. c.second_begins.ensures (row_of (automaton_of c.args.tables.now) c.args.self.now _ c.in-Some.row.now c.requires c.in-Some.ensures) u
