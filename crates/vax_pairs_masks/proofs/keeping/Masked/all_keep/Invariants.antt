use Rattle.std.proofs.Common.{ℕ, ◌<◌}
use Rattle.vax_pairs_masks.specs.Keeping.{ItemKeeps}
use Rattle.vax_pairs_masks.proofs.keeping.Masked.all_keep.Given as goal

-- so far each item keeps the masks
abbrev pub invariant-loop-place : goal.invariant-loop-place
invariant-loop-place l = (k : ℕ) → k < l.place → ItemKeeps l.self.items.now k
