use Rattle.std.proofs.Common.{◌≡◌, ◌≤◌, ◌+◌, ◌++◌, length}
use Rattle.md_reader_text.specs.Lines.{lines}
use Rattle.md_types.specs.Expand.{numbered}
use Rattle.md_types.proofs.expanding.numbered.Given as goal

abbrev pub invariant-loop-line : goal.invariant-loop-line
invariant-loop-line l = (l.read.items ++ numbered l.number (lines l.rest) ≡ numbered 1 (lines l.fn.text)) × (l.number + length l.rest ≤ 262145)

abbrev pub decreases-loop-line : goal.decreases-loop-line
decreases-loop-line l = length l.rest
