-- Jumps to what comes next anyway, and instructions that no run comes to.
use Rattle.std.specs.Prelude.{◌≡◌, ◌<◌, ℕ, ◌+◌, Bool, true, false, ◌||◌, List, [], ◌∷◌, drop, Some, slice_get}
use Rattle.std.specs.Str.{bytes_eq}
use Rattle.vax_core.specs.declared.op.Op.{Op}
use Rattle.vax_core.specs.declared.op.Op.TheVariants.{Jbr, Ret}
use Rattle.vax_core.specs.declared.code.Instr.{Instr}
use Rattle.vax_core.specs.declared.code.Code.{Code}
use Rattle.vax_core.specs.declared.code.CodeItem.{CodeItem}
use Rattle.vax_core.specs.declared.code.CodeItem.TheVariants as item_kind
use Rattle.vax_passes.specs.Thinned.{IsThinned}

-- ---- jumps to what comes next

-- the label stands in front, with only labels and `.globl` lines before it
abbrev pub leads_to : List ℕ → List CodeItem → Bool
leads_to name [] = false
leads_to name (item_kind.Label n ∷ rest) = bytes_eq n name || leads_to name rest
leads_to name (item_kind.Globl n ∷ rest) = leads_to name rest
leads_to name (item_kind.Mask m ∷ rest) = false
leads_to name (item_kind.Instr i ∷ rest) = false

-- the first item that is neither is a mask
abbrev pub mask_next : List CodeItem → Bool
mask_next [] = false
mask_next (item_kind.Label n ∷ rest) = mask_next rest
mask_next (item_kind.Globl n ∷ rest) = mask_next rest
mask_next (item_kind.Mask m ∷ rest) = true
mask_next (item_kind.Instr i ∷ rest) = false

-- Each jump whose label stands behind it, with only labels and `.globl` lines between, has a mask as the next other item.
pub record HasNoNextJump (items : List CodeItem) : Type 0 where
  pub each : (p : ℕ) (i : Instr) (name : List ℕ) → slice_get items p ≡ Some (item_kind.Instr i) → i.op ≡ Jbr → i.target ≡ Some name
      → leads_to name (drop (p + 1) items) ≡ true → mask_next (drop (p + 1) items) ≡ true

-- ---- instructions that no run comes to

-- no run comes behind it
abbrev pub leaves : Op → Bool
leaves Jbr = true
leaves Ret = true
leaves op = false

-- Behind each jump or return stands a label before the next instruction.
pub record HasNoDeadTail (items : List CodeItem) : Type 0 where
  pub each : (p q : ℕ) (i j : Instr) → slice_get items p ≡ Some (item_kind.Instr i) → leaves i.op ≡ true → p < q
      → slice_get items q ≡ Some (item_kind.Instr j)
      → (r : ℕ) × (p < r) × (r < q) × ((name : List ℕ) × (slice_get items r ≡ Some (item_kind.Label name)))

-- ---- what the passes write

-- The second code is the first without as many instructions as were counted; none is left to drop where the count isn't at its end.
pub record DropsNextJumps (before after : ℕ) (c d : Code) : Type 0 where
  pub thinned : IsThinned c d before after
  pub settled : after < 18446744073709551615 → HasNoNextJump d.items

pub record DropsDeadTails (before after : ℕ) (c d : Code) : Type 0 where
  pub thinned : IsThinned c d before after
  pub settled : after < 18446744073709551615 → HasNoDeadTail d.items
