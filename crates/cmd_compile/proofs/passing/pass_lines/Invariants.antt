use Rattle.std.proofs.Common.{◌≡◌, ◌++◌, length, min, drop}
use Rattle.cmd_compile.specs.Lines.{pass_lines}
use Rattle.cmd_compile.specs.Passing.{rises}
use Rattle.cmd_compile.proofs.passing.pass_lines.Given as goal

abbrev pub invariant-loop-number : goal.invariant-loop-number
invariant-loop-number l =
    (l.count ≡ min (length l.before) (length l.behind))
    × (l.lines.items ++ pass_lines l.number (rises (drop l.number l.before) (drop l.number l.behind)) ≡ pass_lines 0 (rises l.before l.behind))
