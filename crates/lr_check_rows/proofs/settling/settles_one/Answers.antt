use Rattle.std.proofs.Common.{sym, ◌∙◌}
use Rattle.lr_check_found.specs.lr_check_sets.specs.Table.{automaton_of}
use Rattle.lr_check_rows.proofs.Kids.{one_kids}
use Rattle.lr_check_rows.proofs.Replacing.{one_settles, one_behind}
use Rattle.lr_check_rows.proofs.settling.settles_one.Goals as goal

pub returns-clause-settled : goal.returns-clause-settled
returns-clause-settled c = λ v row h u. one_settles (automaton_of c.args.tables.now) v c.args.row.now c.args.kid.now.state row (c.leads.ensures c.if-not-leads.false) c.args.set
    (c.is_within-2.ensures u)
    c.args.kid.now.token _ c.args.line.now h (one_kids c.args.row.now.token c.kids-kids.result.now _ c.kids-kids.ensures c.if-kids-ne1.false)
    (sym c.may.ensures ∙ c.if-not-may.false) (c.is_within.ensures c.if-not-is_within.false)

pub returns-clause-behind : goal.returns-clause-behind
returns-clause-behind c = λ v h u. one_behind (automaton_of c.args.tables.now) v c.args.row.now c.args.kid.now.state (c.leads.ensures c.if-not-leads.false) c.args.kid.now.token
    c.args.line.now h
