use Rattle.std.proofs.Common.{◌≡◌, ◌≤◌, [], reverse, length}
use Rattle.vax_codes.specs.Turning.{with_labels}
use Rattle.vax_codes.proofs.jump_chain.JumpChainPass.rewrite.Given as goal

-- what is left, in front of what is kept, gives what the whole gives
abbrev pub invariant-loop-item : goal.invariant-loop-item
invariant-loop-item l = record {
  each : length l.names.items ≡ length l.left.items;
  same : with_labels l.left.items l.names.items (record { made = l.self.made; items = reverse l.kept.items })
      ≡ with_labels l.fn.code.items l.initial.names.items (record { made = l.fn.self.made; items = [] });
  rises : l.fn.self.made ≤ l.self.made;
}

abbrev pub decreases-loop-item : goal.decreases-loop-item
decreases-loop-item l = length l.left.items
