use Rattle.std.proofs.Common.{sym, ◌∙◌}
use Rattle.lr_check_found.specs.lr_check_sets.specs.Table.{automaton_of}
use Rattle.lr_check_rows.proofs.Kids.{two_kids}
use Rattle.lr_check_rows.proofs.Replacing.{two_settles, two_behind}
use Rattle.lr_check_rows.proofs.settling.settles_two.Goals as goal

pub returns-clause-settled : goal.returns-clause-settled
returns-clause-settled c = λ v row h g u. two_settles (automaton_of c.args.tables.now) v c.args.row.now c.args.first.now.state row (c.leads.ensures c.if-not-leads.false) c.args.set
    (c.is_within-2.ensures u)
    c.args.first.now.token c.args.second.now.token c.args.second.now.state _ _ c.args.lower.now c.args.upper.now h g
    (two_kids c.args.row.now.token c.kids-kids.result.now _ _ c.kids-kids.ensures c.if-kids-ne2.false)
    (sym c.may.ensures ∙ c.if-not-may.false) (sym c.may-2.ensures ∙ c.if-not-may-2.false) (c.has.ensures.there c.if-not-has.false)
    (c.is_behind.ensures c.if-not-is_behind.false) (c.is_within.ensures c.if-not-is_within.false)

pub returns-clause-behind : goal.returns-clause-behind
returns-clause-behind c = λ v h g u. two_behind (automaton_of c.args.tables.now) v c.args.row.now c.args.first.now.state (c.leads.ensures c.if-not-leads.false)
    c.args.first.now.token c.args.lower.now h c.args.second.now.token c.args.second.now.state c.args.upper.now g (c.is_behind.ensures c.if-not-is_behind.false)
