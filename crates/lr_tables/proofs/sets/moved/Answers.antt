use Rattle.std.proofs.Common.{rules, ◌≡◌, ◌∙◌, List, [], ◌∷◌, Option, Some, None, Bool, true, false, cond, map, filter, filter_map, refl, ap}
use Rattle.std.specs.List.{cons_option}
use Rattle.std.proofs.lemmas.Iterator.{YieldsList-from_slice, items_from_collect}
use Rattle.std.proofs.lemmas.Iterator.Consumers.{YieldsList-from_filter_map}
use Rattle.std.proofs.lemmas.Result.{IfOk-at_ok}
use borrow.Author.Tests.{tests}
use Rattle.lr_tables.specs.declared.item.Item.{Item}
use Rattle.lr_tables.specs.Items.{advanced}
use Rattle.lr_tables.specs.Sets.{stands_before, moved}
use Rattle.lr_tables.proofs.sets.moved.Goals as goal

-- an item that is moved on where it passes the test
abbrev stepped : (Item → Bool) → Item → Option Item
stepped test i = cond (test i) (Some (advanced i)) None

filter_map_stepped : (test : Item → Bool) (items : List Item) → filter_map (stepped test) items ≡ map advanced (filter test items)
filter_map_stepped test [] = refl
filter_map_stepped test (i ∷ is) = by (test i) (filter_map_stepped test is)
  where
    by : (b : Bool) → filter_map (stepped test) is ≡ map advanced (filter test is) → cons_option (cond b (Some (advanced i)) None) (filter_map (stepped test) is)
        ≡ map advanced (cond b (i ∷ filter test is) (filter test is))
    by true e = ap (λ k. advanced i ∷ k) e
    by false e = e

pub returns : goal.returns
unfolding moved
returns c =
    let step = stepped (stands_before c.args.rules.now c.args.stmt c.args.symbol) in
    let kept = items_from_collect c.collect.result c.collect.ensures.ran
    (YieldsList-from_filter_map _ step (YieldsList-from_slice c.args.items.now cc) c.filter_map.ensures.closure (λ x r q k. search (rules, tests, c.requires))) in
    IfOk-at_ok (λ v. v.items ≡ filter_map step c.args.items.now) c.in_ok-kernel.was kept ∙ filter_map_stepped (stands_before c.args.rules.now c.args.stmt c.args.symbol) c.args.items.now
