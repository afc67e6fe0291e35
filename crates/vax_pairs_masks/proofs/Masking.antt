-- The entry masks of a code, from front to back.
use Rattle.std.proofs.Common.{◌≡◌, ℕ, zero, suc, ◌<◌, List, [], ◌∷◌, length, Option, Some, refl, arith}
use Rattle.std.specs.Prelude.{slice_get}
use Rattle.vax_core.specs.declared.code.CodeItem.{CodeItem}
use Rattle.vax_core.specs.declared.code.CodeItem.TheVariants as item_kind
use Rattle.vax_pairs_checked.specs.Masks.{mask_behind}
use Rattle.vax_pairs_masks.specs.Keeping.{mask_after, masks_from}

pub masks_length : (old : Option ℕ) (items : List CodeItem) → length (masks_from old items) ≡ length items
masks_length old [] = refl
masks_length old (item ∷ items) = let e = masks_length (mask_after old item) items in omega (arith, e)

pub mask_there : (old : Option ℕ) (items : List CodeItem) (p : ℕ) → p < length items → slice_get (masks_from old items) p ≡ Some (mask_behind old items p)
mask_there old [] p lt = absurd (omega arith)
mask_there old (item ∷ items) zero lt = refl
mask_there old (item_kind.Mask mask ∷ items) (suc p) lt = mask_there (Some mask) items p (omega (arith, lt))
mask_there old (item_kind.Label name ∷ items) (suc p) lt = mask_there old items p (omega (arith, lt))
mask_there old (item_kind.Globl name ∷ items) (suc p) lt = mask_there old items p (omega (arith, lt))
mask_there old (item_kind.Instr i ∷ items) (suc p) lt = mask_there old items p (omega (arith, lt))
