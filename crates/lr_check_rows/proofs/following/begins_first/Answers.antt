use Rattle.std.proofs.Common.{sym, ◌∙◌}
use Rattle.lr_check_found.specs.lr_check_sets.specs.Table.{automaton_of}
use Rattle.lr_check_rows.proofs.Kids.{two_kids}
use Rattle.lr_check_rows.proofs.Beginning.{first_places}
use Rattle.lr_check_rows.proofs.following.begins_first.Goals as goal

pub returns : goal.returns
returns c = λ v row u.
    let some = c.has_some.ensures c.if-not-has_some.false in
    first_places (automaton_of c.args.tables.now) v c.args.row.now c.args.state row (c.leads.ensures c.if-not-leads.false) c.args.token some.0 _ _ c.args.set
    (two_kids c.args.row.now.token c.kids-kids.result.now _ _ c.kids-kids.ensures c.if-kids-ne2.false) some.1.1 (sym c.may.ensures ∙ c.if-not-may.false)
    (λ b is. c.may_all.ensures u b (c.tokens-2.ensures b) is)
