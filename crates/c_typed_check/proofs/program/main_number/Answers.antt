use Rattle.std.proofs.Common.{rules, ◌∙◌}
use Rattle.std.proofs.lemmas.Iterator.{YieldsList-from_slice}
use Rattle.std.proofs.lemmas.Iterator.Adapters.{position_from-zero}
use Rattle.std.proofs.lemmas.Iterator.Search.{position_from_yields_List}
use borrow.Author.Tests.{tests}
use Rattle.c_typed_check.proofs.Texts.{begins_run, main_is}
use Rattle.c_typed_check.proofs.program.main_number.Goals as goal

pub returns : goal.returns
returns c =
    position_from_yields_List begins_run _ _ _ c.position.ensures.ran (YieldsList-from_slice c.args.routines.now cc) (λ x b q k. search (rules, tests))
    ∙ (position_from-zero begins_run c.args.routines.now ∙ main_is c.args.routines.now)
