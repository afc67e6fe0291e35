use Rattle.std.proofs.Common.{◌≡◌, ◌++◌, map}
use Rattle.md_reader.proofs.patterns.put_kids.Given as goal

abbrev pub invariant-loop-kid : goal.invariant-loop-kid
invariant-loop-kid l = l.stack.items ≡ l.fn.stack.items ++ map (λ y. y.now) l.yielded
