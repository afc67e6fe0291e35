use Rattle.std.proofs.Common.{◌≡◌, ℕ, ◌≤◌, ◌<◌, false}
use Rattle.vax_pairs.specs.Functions.{has}
use Rattle.vax_pairs_masks.proofs.masks.covers.Given as goal

-- so far each register of the set is one of the mask
abbrev pub invariant-loop-r : goal.invariant-loop-r
invariant-loop-r l = (k : ℕ) → 2 ≤ k → k < l.r → has l.mask k ≡ false → has l.named k ≡ false
