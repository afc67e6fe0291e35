use Rattle.std.proofs.Common.{◌≡◌, ◌≤◌, ◌+◌, length}
use Rattle.md_reader_text.specs.Words.{words}
use Rattle.md_reader.proofs.symbols.is_short.Given as goal

abbrev pub invariant-loop-after : goal.invariant-loop-after
invariant-loop-after l = (l.count + length (words l.rest) ≡ length (words l.fn.line)) × (l.count ≤ 16)

abbrev pub decreases-loop-after : goal.decreases-loop-after
decreases-loop-after l = length (words l.rest)
