use Rattle.std.proofs.Common.{◌≡◌, rules, List, map, ap, ◌∙◌}
use Rattle.std.specs.List.{filter, zip}
use Rattle.std.proofs.lemmas.Iterator.{YieldsList-from_slice, YieldsList-from_map, YieldsList-from_zip, items_from_collect}
use Rattle.std.proofs.lemmas.Iterator.Consumers.{YieldsList-at, YieldsList-from_copied, YieldsList-from_filter}
use Rattle.std.proofs.lemmas.Result.{IfOk-at_ok}
use borrow.Author.Tests.{tests}
use Rattle.vax_core.specs.declared.register.Reg.{Reg}
use Rattle.vax_homes.specs.Choosing.{is_homeable, home_registers, home_of}
use Rattle.vax_homes.proofs.Choosing.{is_left, left_free}
use Rattle.vax_homes.proofs.choose.homes_of.Goals as goal

-- src/choose.rt
pub returns : goal.returns
returns c =
    let mask = c.entry_mask-mask.result in
    let body = c.args.body.now in
    let locals = filter (is_homeable body) c.args.wanted.now in
    let free = left_free mask body c.entry_mask-mask.ensures.is in
    let all = items_from_collect c.collect.result c.collect.ensures.ran
    (YieldsList-from_map _ home_of (YieldsList-at c.map.ensures.source (YieldsList-from_zip
    (YieldsList-at c.zip.ensures.first (YieldsList-from_filter _ (is_homeable body) (YieldsList-at c.filter-locals.ensures.source
    (YieldsList-from_copied (YieldsList-at c.copied.ensures.source (YieldsList-from_slice c.args.wanted.now c.iter.ensures.rest))))
    c.filter-locals.ensures.closure (λ x b q k. search (rules, tests))))
    (YieldsList-at c.zip.ensures.second (YieldsList-from_filter _ (is_left mask) (YieldsList-at c.filter-registers.ensures.source
    (YieldsList-from_copied (YieldsList-at c.copied-2.ensures.source (YieldsList-from_slice home_registers c.iter-2.ensures.rest))))
    c.filter-registers.ensures.closure (λ x b q k. search (rules, tests))))))
    c.map.ensures.closure (λ x r q k. search (rules, tests))) in
    IfOk-at_ok (λ v. v.items ≡ map home_of (zip locals (filter (is_left mask) home_registers))) c.in_ok-homes.was all
    ∙ ap (λ (rs : List Reg). map home_of (zip locals rs)) free
