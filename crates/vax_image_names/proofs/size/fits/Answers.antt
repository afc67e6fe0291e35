use Rattle.std.proofs.Common.{arith, sym}
use Rattle.vax_image_names.proofs.Sizing.{too_large}
use Rattle.vax_image_names.proofs.size.fits.Goals as goal

pub returns-then-end : goal.returns-then-end
returns-then-end c =
    sym (too_large c.args.items.now c.loop-item.item-index c.loop-item.end c.item-item.result c.loop-item-test.true c.item-item.is c.loop-item.invariant.ends
    (omega (arith, c.if-end.true, c.size_at-end.ensures.size)))
