use Rattle.std.proofs.Common.{◌≡◌, ◌≤◌, ◌+◌, ℕ, None, false, reverse, length}
use Rattle.std.specs.Prelude.{slice_index_or}
use Rattle.vax_passes.specs.Dropping.{all_kept}
use Rattle.vax_codes.specs.Testing.{last_item, without_tests}
use Rattle.vax_codes.proofs.needless_test.NeedlessTestPass.rewrite.Given as goal

-- what is kept, in front of what is kept of what is left, is what is kept of the whole
abbrev pub invariant-loop-item : goal.invariant-loop-item
invariant-loop-item l = record {
  same : all_kept l.kept.items (without_tests (λ (p : ℕ). slice_index_or l.reads.items p false) (reverse l.left.items) l.place (last_item l.kept.items) l.self.made)
      ≡ without_tests (λ (p : ℕ). slice_index_or l.reads.items p false) l.fn.code.items 0 None l.fn.self.made;
  each : l.place + length l.left.items ≡ length l.fn.code.items;
  rises : l.fn.self.made ≤ l.self.made;
}

abbrev pub decreases-loop-item : goal.decreases-loop-item
decreases-loop-item l = length l.left.items
