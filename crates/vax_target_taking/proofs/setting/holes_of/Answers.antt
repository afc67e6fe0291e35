use Rattle.std.proofs.Common.{rules, ◌≡◌, map}
use Rattle.std.proofs.lemmas.Iterator.{YieldsList-from_slice, YieldsList-from_map, items_from_collect}
use Rattle.std.proofs.lemmas.Result.{IfOk-at_ok}
use borrow.Author.Tests.{tests}
use Rattle.vax_templates.specs.Settings.{hole_of}
use Rattle.vax_target_taking.proofs.setting.holes_of.Goals as goal

pub returns : goal.returns
returns c =
    let holes = hole_of c.args.classes.now in
    let kept = items_from_collect c.collect.result c.collect.ensures.ran
    (YieldsList-from_map _ holes (YieldsList-from_slice c.args.right.now cc) c.map.ensures.closure (λ x r q k. search (rules, tests))) in
    IfOk-at_ok (λ v. v.items ≡ map holes c.args.right.now) c.in_ok-holes.was kept
