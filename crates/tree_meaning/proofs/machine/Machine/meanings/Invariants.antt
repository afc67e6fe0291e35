use Rattle.std.proofs.Common.{◌≡◌, map, reverse}
use Rattle.tree_core.specs.Trees.{grown}
use Rattle.tree_meaning.specs.State.{sight}
use Rattle.tree_meaning.specs.Values.{meanings}
use Rattle.tree_meaning.specs.View.{state}
use Rattle.tree_meaning.proofs.machine.Machine.meanings.Given as goal

abbrev pub invariant-loop-leaf : goal.invariant-loop-leaf
invariant-loop-leaf l = reverse l.stack.items
    ≡ meanings l.self.program.now.objects (sight (state l.self)) (grown (reverse (map (λ y. y.now) l.yielded)))
