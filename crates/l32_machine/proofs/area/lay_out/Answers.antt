use Rattle.std.proofs.Common.{arith}
use Rattle.vax_machine.proofs.LayoutLaws.{too_large}
use Rattle.l32_machine.proofs.area.lay_out.Goals as goal

pub returns-then-at-clause-large : goal.returns-then-at-clause-large
returns-then-at-clause-large c u =
    too_large c.args.items.now c.loop-item.item-index c.loop-item.at c.item-item.result c.loop-item-test.true c.item-item.is c.loop-item.invariant.end
    (omega (arith, c.if-at.true, c.size_at-at.ensures.size))
