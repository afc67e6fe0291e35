use Rattle.std.proofs.Common.{length}
use Rattle.vax_image_format.specs.Image.{label_at}
use Rattle.vax_image_writing.proofs.TextLaws.{Leaves}
use Rattle.vax_image_writing.proofs.plan.Plan.write.Given as goal

abbrev pub invariant-loop-left : goal.invariant-loop-left
invariant-loop-left l = Leaves (label_at l.self.labels.now.items.now l.self.forms.now) l.self.labels.now.items.now l.self.forms.now l.text l.left l.rest

abbrev pub decreases-loop-left : goal.decreases-loop-left
decreases-loop-left l = length l.left
