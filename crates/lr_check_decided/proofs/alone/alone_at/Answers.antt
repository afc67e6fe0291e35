use Rattle.std.proofs.Common.{◌≡◌, ◌<◌, true, false, length, rules, subst}
use Rattle.std.specs.List.{AllWithin, HoldsAt}
use Rattle.std.specs.Option.{MatchOption}
use Rattle.std.proofs.lemmas.Iterator.{YieldsList-from_slice, IsFirst-from_position}
use borrow.Author.Tests.{tests}
use Rattle.lr_check_found.specs.declared.settlings.Settling.{Settling}
use Rattle.lr_check_decided.specs.Alone.{is_alone}
use Rattle.lr_check_decided.proofs.Standing.{found_at, found_somewhere}
use Rattle.lr_check_decided.proofs.alone.alone_at.Goals as goal

pub returns : goal.returns
returns c =
    let all = c.settlings.result.now in
    let Yes : Settling → Type 0 = λ e. true ≡ is_alone c.args.found.now c.args.place c.args.class e in
    let No : Settling → Type 0 = λ e. false ≡ is_alone c.args.found.now c.args.place c.args.class e in
    let first = subst (λ o. MatchOption o (AllWithin No all 0 (length all)) (λ i. (i < length all) × HoldsAt Yes all i × AllWithin No all 0 i)) c.in-Some.is
    (IsFirst-from_position _ _ c.position.result Yes No c.position.ensures.ran (YieldsList-from_slice all cc) (λ x q k. search (rules, tests)) (λ x q k. search (rules, tests))) in
    found_at c.args.found.now c.args.place c.args.class all c.settlings.ensures c.requires c.in-Some.number first.0 first.1

pub unreachable-requires : goal.unreachable-requires
unreachable-requires c =
    let all = c.settlings.result.now in
    let Yes : Settling → Type 0 = λ e. true ≡ is_alone c.args.found.now c.args.place c.args.class e in
    let No : Settling → Type 0 = λ e. false ≡ is_alone c.args.found.now c.args.place c.args.class e in
    found_somewhere c.args.found.now c.args.place c.args.class all c.settlings.ensures c.requires
    (subst (λ o. MatchOption o (AllWithin No all 0 (length all)) (λ i. (i < length all) × HoldsAt Yes all i × AllWithin No all 0 i)) c.in-None.is
    (IsFirst-from_position _ _ c.position.result Yes No c.position.ensures.ran (YieldsList-from_slice all cc) (λ x q k. search (rules, tests)) (λ x q k. search (rules, tests))))
