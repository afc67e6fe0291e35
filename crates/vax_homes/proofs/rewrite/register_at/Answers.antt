use Rattle.std.proofs.Common.{◌≡◌, rules, None, Some, Bor, sym, ap, ◌∙◌}
use Rattle.std.specs.List.{find}
use Rattle.std.specs.Option.{option_map}
use Rattle.std.proofs.lemmas.Iterator.{YieldsList-from_slice}
use Rattle.std.proofs.lemmas.Iterator.Search.{find_from_yields_List}
use borrow.Author.Tests.{tests}
use Rattle.vax_homes.specs.declared.choose.Home.{Home}
use Rattle.vax_homes.specs.Homing.{register_at}
use Rattle.vax_homes.proofs.Homing.{is_at, none_at, some_at}
use Rattle.vax_homes.proofs.rewrite.register_at.Goals as goal

-- src/rewrite.rt:15:16
pub returns-in_err-home : goal.returns-in_err-home
returns-in_err-home c =
    let hs = c.args.homes.now in
    let a = c.args.a.now in
    let found : option_map (λ (y : Bor Home). y.now) c.find.result ≡ find (is_at a) hs =
    find_from_yields_List (is_at a) _ _ c.find.result c.find.ensures.ran (YieldsList-from_slice hs cc) (λ x b q k. search (rules, tests)) in
    let was : c.find.result ≡ None = search rules in
    let none : register_at hs a ≡ None = none_at a hs (sym found ∙ ap (option_map (λ (y : Bor Home). y.now)) was) in
    let left : c.from_residual.result ≡ None = search rules in
    left ∙ sym none

-- src/rewrite.rt:12:1
pub returns : goal.returns
returns c =
    let hs = c.args.homes.now in
    let a = c.args.a.now in
    let found : option_map (λ (y : Bor Home). y.now) c.find.result ≡ find (is_at a) hs =
    find_from_yields_List (is_at a) _ _ c.find.result c.find.ensures.ran (YieldsList-from_slice hs cc) (λ x b q k. search (rules, tests)) in
    let was : c.find.result ≡ Some c.in_ok-home.home = search rules in
    sym (some_at a hs c.in_ok-home.home.now (sym found ∙ ap (option_map (λ (y : Bor Home). y.now)) was))
