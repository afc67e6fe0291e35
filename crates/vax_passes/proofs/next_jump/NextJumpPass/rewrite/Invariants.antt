use Rattle.std.proofs.Common.{◌≡◌, ◌≤◌, [], reverse, length}
use Rattle.vax_passes.specs.Dropping.{without_jumps}
use Rattle.vax_passes.specs.Fronts.{IsFront}
use Rattle.vax_passes.proofs.next_jump.NextJumpPass.rewrite.Given as goal

-- what is left, in front of what is kept, gives what the whole gives
abbrev pub invariant-loop-item : goal.invariant-loop-item
invariant-loop-item l = record {
  front : IsFront l.front (reverse l.kept.items);
  same : without_jumps l.left.items (record { made = l.self.made; items = reverse l.kept.items })
      ≡ without_jumps l.fn.code.items (record { made = l.fn.self.made; items = [] });
  rises : l.fn.self.made ≤ l.self.made;
}

abbrev pub decreases-loop-item : goal.decreases-loop-item
decreases-loop-item l = length l.left.items
