use Rattle.std.proofs.Common.{rules, tests}
use Rattle.std.specs.Prelude.{codes}
use Rattle.std.specs.Str.{bytes_eq}
use Rattle.std.proofs.lemmas.Iterator.{YieldsList-from_slice}
use Rattle.std.proofs.lemmas.Iterator.Search.{find_from_yields_List}
use Rattle.tree_meaning.proofs.machine.main_of.Goals as goal

pub returns : goal.returns
returns c =
    find_from_yields_List (λ f. bytes_eq f.name (codes "main")) c.find.new.self _ c.find.result c.find.ensures.ran (YieldsList-from_slice c.args.functions.now cc)
    (λ x b q k. search (rules, tests))
