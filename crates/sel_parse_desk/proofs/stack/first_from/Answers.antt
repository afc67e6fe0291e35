use Rattle.std.proofs.Common.{◌≡◌, rules, Some, length, drop, ◌+◌, ◌-◌, ap, sym, ◌∙◌, arith}
use borrow.Author.Tests.{tests}
use Rattle.std.proofs.lemmas.List.{take_all, length-drop}
use Rattle.std.proofs.lemmas.Iterator.{YieldsList-from_slice}
use Rattle.std.proofs.lemmas.Iterator.Adapters.{position_from-zero}
use Rattle.std.proofs.lemmas.Iterator.Search.{position_from_yields_List}
use Rattle.sel_parse_desk.specs.Spills.{holds_some}
use Rattle.sel_parse_desk.proofs.Searching.{plus, first_position, first_behind}
use Rattle.sel_parse_desk.proofs.stack.first_from.Goals as goal

pub returns-in_err-behind : goal.returns-in_err-behind
returns-in_err-behind g c =
    let holds = holds_some g.T.Templates.meaning in
    let left = drop c.args.from c.args.attrs.now in
    let rest = c.iter.ensures.rest ∙ take_all (length c.args.attrs.now - c.args.from) left (let same = length-drop c.args.from c.args.attrs.now in omega (arith, same)) in
    let first = position_from_yields_List holds c.position.new.self _ c.position.result c.position.ensures.ran (YieldsList-from_slice left rest) (λ x b q k. search (rules, tests))
    ∙ (position_from-zero holds left ∙ first_position holds left) in
    c.from_residual.ensures ∙ sym (first_behind holds c.args.attrs.now c.args.from c.requires.none_before ∙ ap (plus c.args.from) (sym first ∙ c.in_err-behind.was))

pub returns : goal.returns
returns g c =
    let holds = holds_some g.T.Templates.meaning in
    let left = drop c.args.from c.args.attrs.now in
    let rest = c.iter.ensures.rest ∙ take_all (length c.args.attrs.now - c.args.from) left (let same = length-drop c.args.from c.args.attrs.now in omega (arith, same)) in
    let first = position_from_yields_List holds c.position.new.self _ c.position.result c.position.ensures.ran (YieldsList-from_slice left rest) (λ x b q k. search (rules, tests))
    ∙ (position_from-zero holds left ∙ first_position holds left) in
    let turned : c.args.from + c.in_ok-behind.behind ≡ c.in_ok-behind.behind + c.args.from = omega arith in
    ap Some turned ∙ sym (first_behind holds c.args.attrs.now c.args.from c.requires.none_before ∙ ap (plus c.args.from) (sym first ∙ c.in_ok-behind.was))
