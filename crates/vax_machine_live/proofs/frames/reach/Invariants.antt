use Rattle.std.proofs.Common.{◌≡◌, ℕ, ◌-◌, ◌≤◌, ◌<◌, length}
use Rattle.std.specs.Prelude.{vec_capacity, slice_index}
use Rattle.vax_machine_live.proofs.frames.reach.Given as goal

-- the owners that there were, and more
abbrev pub invariant-loop-owners : goal.invariant-loop-owners
invariant-loop-owners l = record {
  more : length l.initial.owners.items ≤ length l.owners.items;
  kept : (place : ℕ) → place < length l.initial.owners.items → slice_index l.owners.items place ≡ slice_index l.initial.owners.items place;
  room : vec_capacity l.owners ≡ vec_capacity l.initial.owners;
}

abbrev pub decreases-loop-owners : goal.decreases-loop-owners
decreases-loop-owners l = l.count - length l.owners.items
