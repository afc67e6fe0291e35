use Rattle.lr_check_found.specs.lr_check_sets.specs.Table.{automaton_of}
use Rattle.lr_check_store.proofs.Holding.{row_of}
use Rattle.lr_check_store.proofs.store.Store.second_begins.Goals as goal

pub returns-in-Some-line_at : goal.returns-in-Some-line_at
returns-in-Some-line_at c = λ row u.
    let A = automaton_of c.args.tables.now in
    c.begins_second.ensures c.args.self.now.lists row
    (c.in-Some-line_at.ensures A c.args.self.now.lists (row_of A c.args.self.now _ c.in-Some.kid.now c.requires c.in-Some.ensures)) u
