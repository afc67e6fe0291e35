use Rattle.std.proofs.Common.{rules, tests}
use Rattle.std.proofs.lemmas.Iterator.{YieldsList-from_slice}
use Rattle.std.proofs.lemmas.Iterator.Search.{all_from_yields_List}
use Rattle.gg_base.specs.Names.{is_name_part}
use Rattle.l32_core.proofs.valid.are_name_parts.Goals as goal

pub returns : goal.returns
returns c = all_from_yields_List is_name_part _ _ c.all.result c.all.ensures.ran (YieldsList-from_slice c.args.bytes.now cc) (λ x b q k. search (rules, tests))
