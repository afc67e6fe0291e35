use Rattle.std.proofs.Common.{◌≡◌, length}
use Rattle.tree_meaning.specs.State.{arrived}
use Rattle.tree_meaning.specs.View.{state}
use Rattle.tree_meaning.proofs.machine.Machine.arrive.Given as goal

abbrev pub invariant-loop-leaves : goal.invariant-loop-leaves
invariant-loop-leaves l = record {
  same : arrived (state l.self) ≡ arrived (state l.initial.self);
  program : l.self.program.now ≡ l.initial.self.program.now;
}

abbrev pub decreases-loop-leaves : goal.decreases-loop-leaves
decreases-loop-leaves l = length l.self.callers.items
