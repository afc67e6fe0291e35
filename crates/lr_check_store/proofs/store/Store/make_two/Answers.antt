use Rattle.lr_check_found.specs.lr_check_sets.specs.Table.{automaton_of}
use Rattle.lr_check_rows.specs.Rows.{IsLine}
use Rattle.lr_check_store.proofs.Holding.{row_of}
use Rattle.lr_check_store.proofs.Making.{two_made}
use Rattle.lr_check_store.proofs.store.Store.make_two.Goals as goal

pub returns : goal.returns
returns c =
    let A = automaton_of c.args.tables.now in
    let s = c.args.self.now in
    let kid = c.in_ok-kid.kid.now in
    let last = c.in_ok-last.last.now in
    let h : IsLine A s.lists kid.state kid.token c.in_ok-lower.lower.now = c.in_ok-lower.ensures A s.lists (row_of A s _ kid c.requires c.in_ok-kid.ensures) in
    let g : IsLine A s.lists last.state last.token c.in_ok-upper.upper.now = c.in_ok-upper.ensures A s.lists (row_of A s _ last c.requires c.in_ok-last.ensures) in
    two_made A s c.args.at c.args.set c.in_ok-row.row.now c.requires c.in_ok-row.ensures kid.state last.state kid.token last.token c.in_ok-lower.lower.now c.in_ok-upper.upper.now h g
    (c.settles_two.ensures.behind s.lists h g c.if-not-settles_two.false)
    (c.settles_two.ensures.settled s.lists (row_of A s _ c.in_ok-row.row.now c.requires c.in_ok-row.ensures) h g c.if-not-settles_two.false)
