use Rattle.std.proofs.Common.{sym, ◌∙◌}
use Rattle.lr_check_found.specs.lr_check_sets.specs.Table.{automaton_of}
use Rattle.lr_check_rows.proofs.Kids.{two_kids}
use Rattle.lr_check_rows.proofs.Beginning.{second_places}
use Rattle.lr_check_rows.proofs.following.begins_second.Goals as goal

pub returns : goal.returns
returns c = λ v row line u. second_places (automaton_of c.args.tables.now) v c.args.row.now c.args.first.now.state row (c.leads.ensures c.if-not-leads.false)
    c.args.first.now.token c.args.line.now c.args.state c.args.token _ _ c.args.set line
    (two_kids c.args.row.now.token c.kids-kids.result.now _ _ c.kids-kids.ensures c.if-kids-ne2.false) (sym c.may.ensures ∙ c.if-not-may.false)
    (sym c.may-2.ensures ∙ c.if-not-may-2.false) (c.has.ensures.there c.if-not-has.false) (c.is_behind.ensures c.if-not-is_behind.false) (c.is_within.ensures u)
