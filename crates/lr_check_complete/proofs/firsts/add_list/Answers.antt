use Rattle.std.proofs.Common.{◌≡◌, ℕ, List, Contains, subst}
use Rattle.lr_check_found.specs.Adding.{list_number}
use Rattle.lr_check_complete.proofs.Gaining.{list_there, list_more}
use Rattle.lr_check_complete.proofs.firsts.add_list.Goals as goal

pub returns-then-has_list : goal.returns-then-has_list
returns-then-has_list c = list_there c.args.found.now c.args.sum c.list_number.result c.args.sums.now.items c.list_number.ensures
    (subst (λ (xs : List ℕ). (n : ℕ) × (Contains xs n × (list_number c.args.found.now n ≡ c.list_number.result))) c.deref.ensures.value (c.has_list.ensures c.if-has_list.true))

pub returns : goal.returns
returns c = list_more c.args.found.now c.args.sum _ _ c.in_ok-push.ensures.items
