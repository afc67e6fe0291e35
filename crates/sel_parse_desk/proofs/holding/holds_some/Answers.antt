use Rattle.std.proofs.Common.{ℕ, Bool, refl, rules, ◌∙◌}
use borrow.Author.Tests.{tests}
use Rattle.std.proofs.lemmas.Iterator.{YieldsList-from_range}
use Rattle.std.proofs.lemmas.Iterator.Search.{any_from_yields_List}
use Rattle.sel_parse_desk.specs.Entries.{in_register}
use Rattle.sel_parse_desk.proofs.Searching.{any_lowest}
use Rattle.sel_parse_desk.proofs.holding.holds_some.Goals as goal

pub returns : goal.returns
returns g c =
    let holds : ℕ → Bool = λ r. in_register g.T.Templates.meaning r c.args.attr.now in
    any_from_yields_List holds c.any.new.self _ c.any.result c.any.ensures.ran (YieldsList-from_range 0 12 12 refl refl) (λ x b q k. search (rules, tests)) ∙ any_lowest holds 0 12
