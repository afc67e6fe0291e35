use Rattle.std.proofs.Common.{refl, rules, sym, ◌∙◌}
use borrow.Author.Tests.{tests}
use Rattle.std.proofs.lemmas.Iterator.{YieldsList-from_range}
use Rattle.std.proofs.lemmas.Iterator.Adapters.{option_map_id}
use Rattle.std.proofs.lemmas.Iterator.Search.{find_from_yields_List}
use Rattle.sel_parse_desk.specs.Desk.{is_free_register}
use Rattle.sel_parse_desk.specs.Mirror.{desk_of}
use Rattle.sel_parse_desk.proofs.Searching.{find_lowest}
use Rattle.sel_parse_desk.proofs.spills.free_register.Goals as goal

pub returns : goal.returns
returns g c =
    let free = is_free_register g.T.Templates.meaning c.args.setting.now.description.now c.args.given (desk_of c.args.desk.now) in
    sym (option_map_id c.find.result)
    ∙ find_from_yields_List free c.find.new.self _ c.find.result c.find.ensures.ran (YieldsList-from_range 0 12 _ refl refl) (λ x b q k. search (rules, tests))
    ∙ find_lowest free 0 12
