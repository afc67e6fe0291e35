use Rattle.std.proofs.Common.{◌≡◌, ◌≤◌, ◌+◌, [], length}
use Rattle.vax_reader.specs.Lines.{operands_front}
use Rattle.vax_reader.proofs.instr.operands.Given as goal

-- what was read and what is left to read are the whole
abbrev pub invariant-loop-left : goal.invariant-loop-left
invariant-loop-left l = record {
  whole : operands_front [] l.kinds l.target l.bytes ≡ operands_front l.read l.left l.target l.rest;
  few : length l.read + length l.left ≤ 3;
}

abbrev pub decreases-loop-left : goal.decreases-loop-left
decreases-loop-left l = length l.left
