use Rattle.std.proofs.Common.{◌≡◌}
use Rattle.vax_image_reading.specs.Items.{items_front, items_onto}
use Rattle.vax_image_reading.specs.Views.{view}
use Rattle.vax_image_reading.proofs.items.items_within.Given as goal

-- what was read and what is left to read are the whole
abbrev pub invariant-loop-left : goal.invariant-loop-left
invariant-loop-left l = items_onto l.items.items (items_front l.left l.due (view l.rest)) ≡ items_front l.most l.marks (view l.cursor)

abbrev pub decreases-loop-left : goal.decreases-loop-left
decreases-loop-left l = l.left
