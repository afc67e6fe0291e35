use Rattle.std.proofs.Common.{rules, ◌∙◌}
use Rattle.std.proofs.lemmas.Iterator.{YieldsList-from_slice}
use Rattle.std.proofs.lemmas.Iterator.Search.{any_from_yields_List}
use borrow.Author.Tests.{tests}
use Rattle.c_typed_check.proofs.Texts.{has_block, any_is}
use Rattle.c_typed_check.proofs.program.any_block.Goals as goal

pub returns : goal.returns
returns c =
    any_from_yields_List has_block c.any.new.self _ c.any.result c.any.ensures.ran (YieldsList-from_slice c.args.routines.now cc) (λ x b q k. search (rules, tests))
    ∙ any_is c.args.routines.now
