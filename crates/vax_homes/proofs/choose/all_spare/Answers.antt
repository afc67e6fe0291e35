use Rattle.std.proofs.Common.{rules}
use Rattle.std.proofs.lemmas.Iterator.{YieldsList-from_slice, YieldsList-from_zip}
use Rattle.std.proofs.lemmas.Iterator.Search.{all_from_yields_List}
use borrow.Author.Tests.{tests}
use Rattle.vax_homes.specs.Choosing.{pair_spares}
use Rattle.vax_homes.proofs.choose.all_spare.Goals as goal

-- src/choose.rt
pub returns : goal.returns
returns c =
    all_from_yields_List {s = c.zip.result} (pair_spares c.args.local) c.all.new.self _ c.all.result c.all.ensures.ran
    (YieldsList-from_zip (YieldsList-from_slice c.args.kinds.now cc) (YieldsList-from_slice c.args.operands.now cc)) (λ x b q k. search (rules, tests))
