use Rattle.std.proofs.Common.{◌≡◌, rules, List, map, sym, ap, ◌∙◌}
use Rattle.std.proofs.lemmas.Bool.{eqb-true}
use Rattle.std.proofs.lemmas.List.{map-id, nil_from_length}
use Rattle.std.proofs.lemmas.Iterator.Adapters.{YieldsList-from_vec}
use Rattle.std.proofs.lemmas.Iterator.Consumers.{YieldsList-end}
use Rattle.vax_homes.specs.declared.choose.Home.{Home}
use Rattle.vax_homes.specs.Choosing.{homes_of}
use Rattle.vax_homes.specs.Homing.{homed_item}
use Rattle.vax_homes.proofs.Nothing.{no_homes}
use Rattle.vax_homes.proofs.rewrite.homed.Goals as goal

-- src/rewrite.rt:98:9
pub returns-then-is_empty : goal.returns-then-is_empty
returns-then-is_empty c =
    let hs = homes_of c.args.f.now.wanted c.args.body.items in
    let same : c.in_ok-homes.homes.items ≡ hs = search rules in
    let empty = nil_from_length c.in_ok-homes.homes.items (sym c.in_ok-homes.homes.ok.0 ∙ eqb-true _ 0 (sym c.is_empty.ensures ∙ c.if-is_empty.true)) in
    sym (no_homes hs c.args.body.items (sym same ∙ empty))

pub returns : goal.returns
returns c =
    let body = c.args.body.items in
    let same : c.in_ok-homes.homes.items ≡ homes_of c.args.f.now.wanted body = search rules in
    let gives = c.into_iter-item-iterator.ensures.into_iter_gives in
    let all = YieldsList-end (YieldsList-from_vec body gives.0 (gives.1 ∙ c.args.body.ok.0)) c.loop-item.yielded
    c.loop-item.item-iterator c.loop-item.yielded_by c.next.result c.next.new.self c.in-None.is c.next.ensures.steps in
    c.loop-item.invariant ∙ ap (map (homed_item c.in_ok-homes.homes.items)) (sym (map-id c.loop-item.yielded) ∙ all.0)
    ∙ ap (λ (hs : List Home). map (homed_item hs) body) same
