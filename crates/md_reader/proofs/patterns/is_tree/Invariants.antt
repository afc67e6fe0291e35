use Rattle.std.proofs.Common.{◌≡◌, ◌≤◌, ◌+◌, ◌*◌, drop}
use Rattle.md_reader.specs.Patterns.{count}
use Rattle.md_reader.proofs.patterns.is_tree.Given as goal

abbrev pub invariant-loop-sym : goal.invariant-loop-sym
invariant-loop-sym l = (count l.wanted (drop l.sym-index l.right) ≡ count 1 l.right) × (l.wanted ≤ 1 + 2 * l.sym-index)
