use Rattle.std.proofs.Common.{◌+◌, ◌-◌, drop, length, rules, sym, subst, ◌∙◌, arith}
use Rattle.std.proofs.lemmas.Iterator.{YieldsList-from_slice}
use Rattle.std.proofs.lemmas.Iterator.Search.{position_from_yields_List}
use Rattle.std.proofs.lemmas.List.{take_all, length-drop}
use borrow.Author.Tests.{tests}
use Rattle.tree_meaning.specs.State.{is_label}
use Rattle.tree_meaning.proofs.Frames.{BehindIs, behind_found}
use Rattle.tree_meaning.proofs.frame.behind.Goals as goal

pub returns-in-Some : goal.returns-in-Some
returns-in-Some c =
    let code = c.args.code.now in
    let label = c.args.label in
    let at = c.in-Some.at in
    let place = position_from_yields_List (is_label label) _ _ _ c.position.ensures.ran (YieldsList-from_slice code cc) (λ x b q k. search (rules, tests)) in
    let found = behind_found label code c.position.result place in
    take_all (length code - (at + 1)) (drop (at + 1) code) (omega (arith, length-drop (at + 1) code)) ∙ sym (subst (BehindIs label code) c.in-Some.is found)

pub returns-in-None : goal.returns-in-None
returns-in-None c =
    let code = c.args.code.now in
    let label = c.args.label in
    let place = position_from_yields_List (is_label label) _ _ _ c.position.ensures.ran (YieldsList-from_slice code cc) (λ x b q k. search (rules, tests)) in
    let found = behind_found label code c.position.result place in
    sym (subst (BehindIs label code) c.in-None.is found)
