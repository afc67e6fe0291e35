use Rattle.std.proofs.Common.{rules, ℕ, reverse, map-id}
use Rattle.std.proofs.lemmas.Iterator.{YieldsList-from_map}
use Rattle.std.proofs.lemmas.Iterator.Adapters.{YieldsList-from_rev_slice, items_from_extend}
use borrow.Author.Tests.{tests}
use Rattle.lr_check.proofs.ordering.push_kids.Goals as goal

pub returns : goal.returns
returns c =
    let h = items_from_extend c.extend.result c.extend.ensures.ran
    (YieldsList-from_map _ (λ (n : ℕ). n) (YieldsList-from_rev_slice c.args.kids.now cc) c.map.ensures.closure (λ x r q k. search (rules, tests))) in
    let same = map-id (reverse c.args.kids.now) in
    search (rules, h, same)
