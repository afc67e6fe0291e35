use Rattle.std.proofs.Common.{rules, arith, length, sym, ◌∙◌}
use Rattle.std.proofs.lemmas.Bool.{ne_eqb}
use Rattle.std.proofs.lemmas.Iterator.{YieldsList-from_slice, YieldsList-from_zip}
use Rattle.std.proofs.lemmas.Iterator.Search.{all_from_yields_List}
use borrow.Author.Tests.{tests}
use Rattle.vax_core.proofs.ValidLaws.{of_kind, each_of_kind, other_count}
use Rattle.vax_core.proofs.valid.are_operands.Goals as goal

pub returns-then-kinds-operands : goal.returns-then-kinds-operands
returns-then-kinds-operands c =
    all_from_yields_List {s = c.zip.result} of_kind c.all.new.self _ _ c.all.ensures.ran
    (YieldsList-from_zip (YieldsList-from_slice c.args.kinds.now cc) (YieldsList-from_slice c.args.operands.now cc)) (λ x b q k. search (rules, tests))
    ∙ each_of_kind c.args.kinds.now c.args.operands.now (omega (arith, c.if-kinds-operands.true))

pub returns-else-kinds-operands : goal.returns-else-kinds-operands
returns-else-kinds-operands c =
    ne_eqb (length c.args.kinds.now) (length c.args.operands.now) c.if-kinds-operands.false ∙ sym (other_count c.args.kinds.now c.args.operands.now c.if-kinds-operands.false)
