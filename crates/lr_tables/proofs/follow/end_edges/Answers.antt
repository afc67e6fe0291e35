use Rattle.std.proofs.Common.{rules, ◌≡◌, filter_map}
use Rattle.std.proofs.lemmas.Iterator.{YieldsList-from_slice, items_from_collect}
use Rattle.std.proofs.lemmas.Iterator.Consumers.{YieldsList-from_filter_map}
use Rattle.std.proofs.lemmas.Result.{IfOk-at_ok}
use borrow.Author.Tests.{tests}
use Rattle.lr_tables.specs.Looking.{end_edge}
use Rattle.lr_tables.proofs.follow.end_edges.Goals as goal

pub returns : goal.returns
returns c =
    let rules_now = c.args.rules.now in
    let kept = items_from_collect c.collect.result c.collect.ensures.ran
    (YieldsList-from_filter_map _ end_edge (YieldsList-from_slice rules_now cc) c.filter_map.ensures.closure (λ x r q k. search (rules, tests))) in
    IfOk-at_ok (λ v. v.items ≡ filter_map end_edge rules_now) c.in_ok-edges.was kept
