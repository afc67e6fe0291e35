use Rattle.lr_check_found.specs.lr_check_sets.specs.Table.{automaton_of}
use Rattle.lr_check_rows.specs.Rows.{IsLine}
use Rattle.lr_check_store.proofs.Holding.{row_of}
use Rattle.lr_check_store.proofs.Making.{one_made}
use Rattle.lr_check_store.proofs.store.Store.make_one.Goals as goal

pub returns : goal.returns
returns c =
    let A = automaton_of c.args.tables.now in
    let s = c.args.self.now in
    let below = c.in_ok-below.below.now in
    let h : IsLine A s.lists below.state below.token c.in_ok-line.line.now = c.in_ok-line.ensures A s.lists (row_of A s _ below c.requires c.in_ok-below.ensures) in
    one_made A s c.args.at c.args.set c.in_ok-row.row.now c.requires c.in_ok-row.ensures below.state below.token c.in_ok-line.line.now h
    (c.settles_one.ensures.behind s.lists h c.if-not-settles_one.false)
    (c.settles_one.ensures.settled s.lists (row_of A s _ c.in_ok-row.row.now c.requires c.in_ok-row.ensures) h c.if-not-settles_one.false)
