-- How it is seen item by item that a code is guarded: each round a body that keeps within its frame.
use Rattle.std.specs.Prelude.{◌≡◌, ℕ, zero, suc, ◌+◌, ◌<◌, ◌≤◌, List, [], ◌∷◌, ◌++◌, Some, None, true, false}
use Rattle.vax_core.specs.declared.code.Instr.{Instr}
use Rattle.vax_core.specs.declared.code.CodeItem.{CodeItem}
use Rattle.vax_core.specs.declared.code.CodeItem.TheVariants as item_kind
use Rattle.vax_core.specs.Registers.{operands_name}
use Rattle.vax_machine.specs.declared.function.Action.TheVariants.{Call}
use Rattle.vax_machine.specs.Functions.{action_of}
use Rattle.vax_machine.specs.Labels.{next_item, label_place, has_label, double_label}
use Rattle.vax_frames.specs.Frames.{frame_items, IsFrameCode}
use Rattle.vax_frames_law.specs.Calling.{IsMask}
use Rattle.vax_frames_law.specs.Guarding.{has, may_pass, IsGuarded}

-- ---- how that is seen item by item

-- the mask behind an item
abbrev pub mask_of : CodeItem → ℕ → ℕ
mask_of (item_kind.Label l) k = k
mask_of (item_kind.Globl l) k = k
mask_of (item_kind.Mask mask) k = mask
mask_of (item_kind.Instr i) k = k

-- the mask of the function to which a place belongs: the last entry mask up to there
abbrev pub mask_from : ℕ → List CodeItem → ℕ → ℕ
mask_from k [] p = k
mask_from k (x ∷ rest) zero = mask_of x k
mask_from k (x ∷ rest) (suc p) = mask_from (mask_of x k) rest p

-- an instruction is the first item that is neither a label nor a `.globl` line
abbrev pub RunsOn : List CodeItem → Type 0
RunsOn [] = ⊥
RunsOn (item_kind.Label l ∷ rest) = RunsOn rest
RunsOn (item_kind.Globl l ∷ rest) = RunsOn rest
RunsOn (item_kind.Mask mask ∷ rest) = ⊥
RunsOn (item_kind.Instr i ∷ rest) = Unit {0}

-- An instruction under a mask, with items behind it: it names no other register of r2 to r11, it runs on to an instruction unless it never
-- comes behind itself, and it branches to labels under the same mask.
pub record IsClosedAt (code : List CodeItem) (mask : ℕ) (i : Instr) (rest : List CodeItem) : Type 0 where
  pub named : (r : ℕ) → 2 ≤ r → r < 12 → has mask r ≡ false → operands_name i.operands r ≡ false
  pub onward : may_pass (action_of i.op) ≡ true → RunsOn rest
  pub branch : (label : List ℕ) → i.target ≡ Some label → (action_of i.op ≡ Call → ⊥)
      → mask_from 0 code (next_item code (label_place code label)) ≡ mask

-- so are all instructions, and an instruction comes behind each mask
abbrev pub AreClosed : List CodeItem → ℕ → List CodeItem → Type 0
AreClosed code k [] = Unit {0}
AreClosed code k (item_kind.Label l ∷ rest) = AreClosed code k rest
AreClosed code k (item_kind.Globl l ∷ rest) = AreClosed code k rest
AreClosed code k (item_kind.Mask mask ∷ rest) = RunsOn rest × AreClosed code mask rest
AreClosed code k (item_kind.Instr i ∷ rest) = IsClosedAt code k i rest × AreClosed code k rest

abbrev pub ClosedIsGuarded : Type 0
ClosedIsGuarded = (code : List CodeItem) → AreClosed code 0 code → IsGuarded code (mask_from 0 code)

-- ---- code of frames

-- an instruction of a function's body names no register of r2 to r11 but those of the mask, and branches to labels of the body
pub record IsWithin (body : List CodeItem) (mask : ℕ) (i : Instr) : Type 0 where
  pub named : (r : ℕ) → 2 ≤ r → r < 12 → has mask r ≡ false → operands_name i.operands r ≡ false
  pub branch : (label : List ℕ) → i.target ≡ Some label → (action_of i.op ≡ Call → ⊥) → has_label body label ≡ true

abbrev pub KeepWithin : List CodeItem → ℕ → List CodeItem → Type 0
KeepWithin body mask [] = Unit {0}
KeepWithin body mask (item_kind.Label l ∷ rest) = KeepWithin body mask rest
KeepWithin body mask (item_kind.Globl l ∷ rest) = KeepWithin body mask rest
KeepWithin body mask (item_kind.Mask k ∷ rest) = ⊥
KeepWithin body mask (item_kind.Instr i ∷ rest) = IsWithin body mask i × KeepWithin body mask rest

-- a code of frames, each round a body that keeps within it
pub data AreFrames : List CodeItem → Type 0 where
  no_frame : AreFrames []
  one_more : (label : List ℕ) (mask words : ℕ) (body rest all : List CodeItem) → KeepWithin body mask body → AreFrames rest
      → all ≡ frame_items label mask words body ++ rest → AreFrames all

-- Such a code is guarded, where no label stands twice.
abbrev pub FramesAreGuarded : Type 0
FramesAreGuarded = (code : List CodeItem) → double_label code ≡ None → AreFrames code → IsGuarded code (mask_from 0 code)

-- ---- the code of a function

-- a body has no mask, and its branches go to labels of its own
abbrev pub StaysInside : List CodeItem → List CodeItem → Type 0
StaysInside body [] = Unit {0}
StaysInside body (item_kind.Label l ∷ rest) = StaysInside body rest
StaysInside body (item_kind.Globl l ∷ rest) = StaysInside body rest
StaysInside body (item_kind.Mask k ∷ rest) = ⊥
StaysInside body (item_kind.Instr i ∷ rest) =
    ((label : List ℕ) → i.target ≡ Some label → (action_of i.op ≡ Call → ⊥) → has_label body label ≡ true) × StaysInside body rest

-- The code of a function with such a body keeps within its frame.
abbrev pub FrameCodesKeepWithin : Type 0
FrameCodesKeepWithin =
    (name : List ℕ) (words : ℕ) (body code : List CodeItem) (h : IsFrameCode name words body code) → StaysInside body body
    → IsMask h.mask × KeepWithin body h.mask body
