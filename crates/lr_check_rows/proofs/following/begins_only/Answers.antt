use Rattle.std.proofs.Common.{sym, ◌∙◌}
use Rattle.lr_check_found.specs.lr_check_sets.specs.Table.{automaton_of}
use Rattle.lr_check_rows.proofs.Kids.{one_kids}
use Rattle.lr_check_rows.proofs.Beginning.{only_places}
use Rattle.lr_check_rows.proofs.following.begins_only.Goals as goal

pub returns : goal.returns
returns c = λ v row u. only_places (automaton_of c.args.tables.now) v c.args.row.now c.args.state row (c.leads.ensures c.if-not-leads.false) c.args.token _ c.args.set
    (one_kids c.args.row.now.token c.kids-kids.result.now _ c.kids-kids.ensures c.if-kids-ne1.false) (sym c.may.ensures ∙ c.if-not-may.false) (c.is_within.ensures u)
