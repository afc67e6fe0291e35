use Rattle.std.proofs.Common.{◌+◌, ◌≤◌, length}
use Rattle.l32_reader.specs.Grammar.{CodeLines}
use Rattle.l32_reader.proofs.reader.read.Given as goal

-- what was read so far
abbrev pub invariant-loop-rest : goal.invariant-loop-rest
invariant-loop-rest l = record {
  lines : CodeLines l.fn.bytes l.area.items l.items.items l.line l.rest;
  count : l.line + length l.rest ≤ length l.fn.bytes;
}

abbrev pub decreases-loop-rest : goal.decreases-loop-rest
decreases-loop-rest l = length l.rest
