use Rattle.std.proofs.Common.{◌+◌, ◌≤◌, length}
use Rattle.vax_reader.specs.Grammar.{AreaLines}
use Rattle.l32_reader.proofs.reader.area_part.Given as goal

-- what was read so far
abbrev pub invariant-lines : goal.invariant-lines
invariant-lines l = record {
  lines : AreaLines l.fn.bytes l.items.items l.line l.rest;
  count : l.line + length l.rest ≤ length l.fn.bytes;
}

abbrev pub decreases-lines : goal.decreases-lines
decreases-lines l = length l.rest
