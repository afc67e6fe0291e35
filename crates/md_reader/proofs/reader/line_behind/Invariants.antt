use Rattle.std.proofs.Common.{◌≡◌, ◌≤◌, ◌+◌, length}
use Rattle.md_reader_text.specs.Lines.{lines}
use Rattle.md_reader.specs.Reads.{line_behind}
use Rattle.md_reader.proofs.reader.line_behind.Given as goal

abbrev pub invariant-loop-after : goal.invariant-loop-after
invariant-loop-after l = (length (lines l.rest) + l.number ≡ line_behind l.fn.bytes) × (l.number + length l.rest ≤ 262145)

abbrev pub decreases-loop-after : goal.decreases-loop-after
decreases-loop-after l = length l.rest
