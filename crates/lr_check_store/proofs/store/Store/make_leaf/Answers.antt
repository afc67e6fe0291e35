use Rattle.lr_check_found.specs.lr_check_sets.specs.Table.{automaton_of}
use Rattle.lr_check_store.proofs.Holding.{row_of}
use Rattle.lr_check_store.proofs.Making.{leaf_made}
use Rattle.lr_check_store.proofs.store.Store.make_leaf.Goals as goal

pub returns : goal.returns
returns c =
    let A = automaton_of c.args.tables.now in
    leaf_made A c.args.self.now c.args.at c.args.set c.in_ok-row.row.now c.requires c.in_ok-row.ensures c.over.result c.over.ensures
    (c.settles_leaf.ensures c.args.self.now.lists (row_of A c.args.self.now _ c.in_ok-row.row.now c.requires c.in_ok-row.ensures) c.if-not-settles_leaf.false)
