use Rattle.std.proofs.Common.{◌≡◌, ◌≤◌, ◌+◌, [], length}
use Rattle.vax_image_reading.specs.Instrs.{operands_front}
use Rattle.vax_image_reading.specs.Views.{view}
use Rattle.vax_image_reading.proofs.instr.operands.Given as goal

-- what was read and what is left to read are the whole
abbrev pub invariant-loop-left : goal.invariant-loop-left
invariant-loop-left l = record {
  whole : operands_front [] l.kinds (view l.cursor) ≡ operands_front l.read l.left (view l.rest);
  few : length l.read + length l.left ≤ 3;
}

abbrev pub decreases-loop-left : goal.decreases-loop-left
decreases-loop-left l = length l.left
