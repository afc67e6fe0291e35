use Rattle.std.proofs.Common.{sym, ◌∙◌}
use Rattle.vax_image_reading.specs.Items.{items_front}
use Rattle.vax_image_reading.specs.Views.{view}
use Rattle.vax_image_reading.proofs.ItemLaws.{items_step}
use Rattle.vax_image_reading.proofs.items.items_within.Goals as goal

pub loop-left-preserved : goal.loop-left-preserved
loop-left-preserved c =
    let l = c.loop-left in
    rw c.in_ok-push.ensures.items (items_step l.left l.due.now (view l.rest) l.items.items (items_front c.args.most c.args.marks.now (view c.args.cursor))
    (c.in_ok-item.item, c.in_ok-item.others.now, view c.in_ok-item.after) c.loop-left-test.true (sym c.is_end.ensures ∙ c.if-is_end.false) c.in_ok-item.ensures l.invariant)
