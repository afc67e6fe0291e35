use Rattle.std.proofs.Common.{◌≡◌, ◌++◌, take}
use Rattle.md_types.specs.Copies.{copies}
use Rattle.md_types.proofs.copies.push_copies.Given as goal

abbrev pub invariant-loop-size : goal.invariant-loop-size
invariant-loop-size l = l.lines.items ≡ l.initial.lines.items ++ copies (take l.size-index l.sizes) l.rule
