use Rattle.std.proofs.Common.{rules, tests}
use Rattle.std.proofs.lemmas.Iterator.{YieldsList-from_slice}
use Rattle.std.proofs.lemmas.Iterator.Search.{all_from_yields_List}
use Rattle.vax_core.specs.Valid.{is_area_item}
use Rattle.l32_core.proofs.valid.are_area_items.Goals as goal

pub returns : goal.returns
returns c = all_from_yields_List is_area_item _ _ c.all.result c.all.ensures.ran (YieldsList-from_slice c.args.items.now cc) (λ x b q k. search (rules, tests))
