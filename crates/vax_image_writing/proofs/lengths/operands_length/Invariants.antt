use Rattle.std.proofs.Common.{◌≡◌, ◌+◌, ◌*◌, ◌≤◌, length}
use Rattle.vax_image_format.specs.Instructions.{operands_bytes}
use Rattle.vax_image_writing.proofs.lengths.operands_length.Given as goal

-- those that were counted and those that are left are all
abbrev pub invariant-loop-left : goal.invariant-loop-left
invariant-loop-left l = record {
  whole : l.sum + length (operands_bytes l.left l.rest) ≡ length (operands_bytes l.kinds l.operands);
  small : l.sum + 6 * length l.left ≤ 18;
}

abbrev pub decreases-loop-left : goal.decreases-loop-left
decreases-loop-left l = length l.left
