use Rattle.std.proofs.Common.{rules}
use Rattle.std.proofs.lemmas.Iterator.{YieldsList-from_slice}
use Rattle.std.proofs.lemmas.Iterator.Search.{all_from_yields_List}
use borrow.Author.Tests.{tests}
use Rattle.vax_homes.specs.Choosing.{item_spares}
use Rattle.vax_homes.proofs.choose.is_homeable.Goals as goal

-- src/choose.rt
pub returns : goal.returns
returns c = all_from_yields_List (item_spares c.args.local) _ _ c.all.result c.all.ensures.ran (YieldsList-from_slice c.args.body.now cc) (λ x b q k. search (rules, tests))
