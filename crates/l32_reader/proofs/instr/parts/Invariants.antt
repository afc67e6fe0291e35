use Rattle.std.proofs.Common.{◌≡◌, ◌≤◌, ◌+◌, [], ◌∷◌, None, length}
use Rattle.l32_reader.specs.Lines.{parts_front}
use Rattle.l32_reader.proofs.instr.parts.Given as goal

-- what was read and what is left to read are the whole
abbrev pub invariant-loop-left : goal.invariant-loop-left
invariant-loop-left l = record {
  whole : parts_front (9 ∷ []) l.parts [] None l.bytes ≡ parts_front (l.mark ∷ []) l.left l.operands l.target l.rest;
  few : length l.operands + length l.left ≤ 3;
}

abbrev pub decreases-loop-left : goal.decreases-loop-left
decreases-loop-left l = length l.left
