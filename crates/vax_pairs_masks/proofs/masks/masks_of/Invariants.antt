use Rattle.std.proofs.Common.{◌≡◌, ◌++◌, drop, None}
use Rattle.vax_pairs_masks.specs.Keeping.{masks_from}
use Rattle.vax_pairs_masks.proofs.masks.masks_of.Given as goal

-- with the masks of the items that are left, they are those of all items
abbrev pub invariant-loop-item : goal.invariant-loop-item
invariant-loop-item l = l.masks.items ++ masks_from l.mask (drop l.item-index l.items) ≡ masks_from None l.items
