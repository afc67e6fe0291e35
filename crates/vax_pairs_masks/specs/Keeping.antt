-- Entry masks from front to back, and what is shown of each item.
use Rattle.std.specs.Prelude.{◌≡◌, ℕ, ◌<◌, ◌≤◌, true, false, List, [], ◌∷◌, Option, Some, None, slice_get}
use Rattle.vax_core.specs.declared.code.CodeItem.{CodeItem}
use Rattle.vax_core.specs.declared.code.CodeItem.TheVariants as item_kind
use Rattle.vax_core.specs.declared.code.Instr.{Instr}
use Rattle.vax_core.specs.Registers.{operands_name}
use Rattle.vax_machine.specs.Functions.{action_of}
use Rattle.vax_machine.specs.Labels.{label_place}
use Rattle.vax_pairs.specs.Functions.{has, is_branch}
use Rattle.vax_pairs_checked.specs.Masks.{InFunction}

-- the last entry mask behind an item, where it is this one in front of it
abbrev pub mask_after : Option ℕ → CodeItem → Option ℕ
mask_after old (item_kind.Mask mask) = Some mask
mask_after old (item_kind.Label name) = old
mask_after old (item_kind.Globl name) = old
mask_after old (item_kind.Instr i) = old

-- for each place the last entry mask in front of it
abbrev pub masks_from : Option ℕ → List CodeItem → List (Option ℕ)
masks_from old [] = []
masks_from old (item ∷ items) = old ∷ masks_from (mask_after old item) items

-- where a branch goes to, if anywhere, lies in a function with this mask
abbrev pub Goes : List CodeItem → ℕ → Option (List ℕ) → Type 0
Goes items mask None = Unit {0}
Goes items mask (Some l) = InFunction items mask (label_place items l)

-- an instruction of a function with this mask names only registers of it, and stays in such functions
pub record Keeps (items : List CodeItem) (mask : ℕ) (i : Instr) : Type 0 where
  pub names : (r : ℕ) → 2 ≤ r → r < 12 → has mask r ≡ false → operands_name i.operands r ≡ false
  pub goes : is_branch (action_of i.op) ≡ true → Goes items mask i.target

abbrev pub SomeKeeps : List CodeItem → ℕ → Option CodeItem → Type 0
SomeKeeps items place None = Unit {0}
SomeKeeps items place (Some (item_kind.Label name)) = Unit {0}
SomeKeeps items place (Some (item_kind.Globl name)) = Unit {0}
SomeKeeps items place (Some (item_kind.Mask mask)) = has mask 0 ≡ false
SomeKeeps items place (Some (item_kind.Instr i)) = (mask : ℕ) → InFunction items mask place → Keeps items mask i

-- the same of the item at a place; an entry mask has no r0
abbrev pub ItemKeeps : List CodeItem → ℕ → Type 0
ItemKeeps items place = SomeKeeps items place (slice_get items place)
