use Rattle.std.proofs.Common.{refl, rules, sym, subst, ◌∙◌, ◌-◌, ◌<◌, arith}
use Rattle.std.specs.Prelude.{IfSome}
use borrow.Author.Tests.{tests}
use Rattle.std.proofs.lemmas.Iterator.{YieldsList-from_range}
use Rattle.std.proofs.lemmas.Iterator.Adapters.{option_map_id}
use Rattle.std.proofs.lemmas.Iterator.Search.{find_from_yields_List}
use Rattle.sel_parse_desk.specs.Desk.{is_free_word}
use Rattle.sel_parse_desk.specs.Mirror.{desk_of}
use Rattle.sel_parse_desk.proofs.Searching.{find_lowest, lowest_below}
use Rattle.sel_parse_desk.proofs.spills.free_slot.Goals as goal

pub returns-clause-word : goal.returns-clause-word
returns-clause-word g c =
    let free = is_free_word g.T.Templates.meaning (desk_of c.args.desk.now) in
    let first = c.args.setting.now.first in
    sym (option_map_id c.find.result)
    ∙ find_from_yields_List free c.find.new.self _ c.find.result c.find.ensures.ran (YieldsList-from_range first 1024 _ refl refl) (λ x b q k. search (rules, tests))
    ∙ find_lowest free first (1024 - first)

pub returns-clause-small : goal.returns-clause-small
returns-clause-small g c =
    let free = is_free_word g.T.Templates.meaning (desk_of c.args.desk.now) in
    let first = c.args.setting.now.first in
    subst (λ o. IfSome o (λ w. w < 1024)) (sym (returns-clause-word g c)) (lowest_below free first (1024 - first) 1024 (λ some. omega (arith, some)))
