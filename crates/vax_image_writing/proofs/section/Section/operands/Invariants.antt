use Rattle.std.proofs.Common.{length}
use Rattle.vax_image_writing.proofs.WrittenLaws.{Leaves}
use Rattle.vax_image_writing.proofs.section.Section.operands.Given as goal

abbrev pub invariant-loop-left : goal.invariant-loop-left
invariant-loop-left l = Leaves l.initial.self l.kinds l.operands l.self l.left l.rest

abbrev pub decreases-loop-left : goal.decreases-loop-left
decreases-loop-left l = length l.left
