use Rattle.std.proofs.Common.{◌≡◌, List, Bool, true, sym, subst}
use Rattle.std.specs.Prelude.{IfOk}
use Rattle.tree_core.specs.declared.token.Sort.{Sort}
use Rattle.lr_check_rows.proofs.Kids.{one_kids, two_kids}
use Rattle.lr_check_rows.proofs.Replacing.{no_kids}
use Rattle.lr_check_closed.specs.Kids.{KidsIn}
use Rattle.lr_check_closed.proofs.look.Look.has_kids.Goals as goal

pub returns-then-kids-eq0 : goal.returns-then-kids-eq0
returns-then-kids-eq0 c = λ u. subst (KidsIn c.args.self.now.lists.now c.args.self.now.rows.now c.args.row.now c.args.over)
    (sym (no_kids c.args.row.now.token c.kids-kids.result.now c.kids-kids.ensures c.if-kids-eq0.true)) (c.has_leaf.ensures u)

pub returns-then-kids-eq1 : goal.returns-then-kids-eq1
returns-then-kids-eq1 c = λ u. subst (KidsIn c.args.self.now.lists.now c.args.self.now.rows.now c.args.row.now c.args.over)
    (sym (one_kids c.args.row.now.token c.kids-kids.result.now _ c.kids-kids.ensures c.if-kids-eq1.true))
    (λ t may. (c.has_onlys.ensures u t (c.tokens.ensures t)).kid may)

pub returns-then-kids-eq2 : goal.returns-then-kids-eq2
returns-then-kids-eq2 c = subst
    (λ (xs : List Sort). IfOk c.has_both.result (λ (b : Bool). b ≡ true → KidsIn c.args.self.now.lists.now c.args.self.now.rows.now c.args.row.now c.args.over xs))
    (sym (two_kids c.args.row.now.token c.kids-kids.result.now _ _ c.kids-kids.ensures c.if-kids-eq2.true)) c.has_both.ensures
