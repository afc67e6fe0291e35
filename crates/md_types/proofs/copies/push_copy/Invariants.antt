use Rattle.std.proofs.Common.{◌≡◌, ◌++◌, map, take}
use Rattle.md_types.specs.Copies.{line_for}
use Rattle.md_types.proofs.copies.push_copy.Given as goal

abbrev pub invariant-loop-line : goal.invariant-loop-line
invariant-loop-line l = l.lines.items ≡ l.initial.lines.items ++ map (line_for l.size) (take l.line-index l.rule)
