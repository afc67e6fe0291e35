use Rattle.std.proofs.Common.{sym, ◌∙◌}
use Rattle.lr_check_found.specs.lr_check_sets.specs.Table.{automaton_of}
use Rattle.lr_check_rows.proofs.Replacing.{no_kids, leaf_settles}
use Rattle.lr_check_rows.proofs.settling.settles_leaf.Goals as goal

pub returns-in-Some : goal.returns-in-Some
returns-in-Some c = λ v row u. leaf_settles (automaton_of c.args.tables.now) v c.args.row.now _ row (sym c.over.ensures ∙ c.in-Some.is) c.args.set (c.is_within.ensures u)
    (no_kids c.args.row.now.token c.kids.result.now c.kids.ensures c.if-kids-ne0.false)
