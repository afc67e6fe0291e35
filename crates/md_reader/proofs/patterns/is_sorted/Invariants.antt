use Rattle.std.proofs.Common.{◌≡◌, [], ◌∷◌, drop, reverse}
use Rattle.md_reader.specs.Patterns.{walk, sorted_test}
use Rattle.md_reader.proofs.patterns.is_sorted.Given as goal

abbrev pub invariant-loop-sym : goal.invariant-loop-sym
invariant-loop-sym l = walk (sorted_test l.classes) (reverse l.stack.items) (drop l.sym-index l.right) ≡ walk (sorted_test l.classes) (l.fn.left ∷ []) l.right
