-- The entry mask of the function in which a place of a code lies; codes whose functions name only registers of their masks.
use Rattle.std.specs.Prelude.{◌≡◌, ℕ, zero, suc, ◌<◌, ◌≤◌, true, false, List, [], ◌∷◌, Option, Some, None, slice_get}
use Rattle.vax_pairs.specs.vax_core.specs.declared.code.CodeItem.{CodeItem}
use Rattle.vax_pairs.specs.vax_core.specs.declared.code.CodeItem.TheVariants as item_kind
use Rattle.vax_pairs.specs.vax_core.specs.declared.code.Instr.{Instr}
use Rattle.vax_pairs.specs.vax_core.specs.Registers.{operands_name}
use Rattle.vax_pairs.specs.vax_machine.specs.Functions.{action_of}
use Rattle.vax_pairs.specs.vax_machine.specs.Labels.{label_place}
use Rattle.vax_pairs.specs.Functions.{has, is_branch}

-- the last entry mask among so many items, or the one before them
abbrev pub mask_behind : Option ℕ → List CodeItem → ℕ → Option ℕ
mask_behind old items zero = old
mask_behind old [] (suc n) = old
mask_behind old (item_kind.Mask mask ∷ items) (suc n) = mask_behind (Some mask) items n
mask_behind old (item ∷ items) (suc n) = mask_behind old items n

-- the entry mask of the function in which a place lies: the last one in front of it
abbrev pub mask_at : List CodeItem → ℕ → Option ℕ
mask_at items place = mask_behind None items place

-- a place lies in a function with this mask
abbrev pub InFunction : List CodeItem → (mask place : ℕ) → Type 0
InFunction items mask place = mask_at items place ≡ Some mask

-- No mask has r0; an instruction names none of r2 to r11 that its function's mask lacks; a branch stays in functions with its mask.
pub record KeepsMasks (items : List CodeItem) : Type 0 where
  pub result : (place mask : ℕ) → slice_get items place ≡ Some (item_kind.Mask mask) → has mask 0 ≡ false
  pub names : (place mask : ℕ) (i : Instr) → slice_get items place ≡ Some (item_kind.Instr i) → InFunction items mask place
      → (r : ℕ) → 2 ≤ r → r < 12 → has mask r ≡ false → operands_name i.operands r ≡ false
  pub goes : (place mask : ℕ) (i : Instr) (l : List ℕ) → slice_get items place ≡ Some (item_kind.Instr i)
      → InFunction items mask place → i.target ≡ Some l → is_branch (action_of i.op) ≡ true → InFunction items mask (label_place items l)
