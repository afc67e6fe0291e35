use Rattle.std.proofs.Common.{rules, subst, sym, ◌<◌, length, ◌∙◌}
use Rattle.std.specs.Prelude.{IfSome}
use borrow.Author.Tests.{tests}
use Rattle.std.proofs.lemmas.Iterator.{YieldsList-from_slice}
use Rattle.std.proofs.lemmas.Iterator.Adapters.{position_from-zero}
use Rattle.std.proofs.lemmas.Iterator.Search.{position_from_yields_List}
use Rattle.sel_parse_desk.specs.Spills.{may_go}
use Rattle.sel_parse_desk.proofs.Searching.{first_position, first_within}
use Rattle.sel_parse_desk.proofs.holding.first_to_go.Goals as goal

pub returns-clause-place : goal.returns-clause-place
returns-clause-place g c =
    let goes = may_go g.T.Templates.meaning in
    let attrs = c.args.attrs.now in
    position_from_yields_List goes c.position.new.self _ c.position.result c.position.ensures.ran (YieldsList-from_slice attrs cc) (λ x b q k. search (rules, tests))
    ∙ (position_from-zero goes attrs ∙ first_position goes attrs)

pub returns-clause-within : goal.returns-clause-within
returns-clause-within g c =
    let attrs = c.args.attrs.now in
    subst (λ o. IfSome o (λ i. i < length attrs)) (sym (returns-clause-place g c)) (first_within (may_go g.T.Templates.meaning) attrs)
