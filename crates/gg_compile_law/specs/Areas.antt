-- The data area of a program's objects, block by block: each object's block is its alignment, its label, and its bytes,
-- however these are spelled.
use Rattle.std.specs.Prelude.{◌≡◌, ℕ, ◌+◌, ◌^◌, ◌≤◌, List, [], ◌∷◌, ◌++◌, length, slice_get, Some, false}
use Rattle.gg_base.specs.declared.limits.TheConstants.{AREA_LIMIT}
use Rattle.vax_core.specs.declared.code.Code.{Code}
use Rattle.vax_core.specs.declared.code.AreaItem.{AreaItem}
use Rattle.vax_core.specs.declared.code.AreaItem.TheVariants as areas
use Rattle.vax_machine.specs.Area.{is_area_label, end_from, bytes_from, label_address, area_bytes}
use Rattle.vax_machine.specs.Loading.{Loads}
use Rattle.tree_core.specs.declared.program.Object.{Object}
use Rattle.tree_core.specs.declared.program.TreeProgram.{TreeProgram}
use Rattle.tree_core.specs.Area.{opening}
use Rattle.tree_core.specs.Valid.{IsValid}
use Rattle.vax_machine_lists.specs.Sound.{AllBelow}

-- items are labels of nothing
abbrev pub HasNoLabel : List AreaItem → Type 0
HasNoLabel [] = Unit {0}
HasNoLabel (x ∷ xs) = ((name : List ℕ) → is_area_label x name ≡ false) × HasNoLabel xs

-- an object's block in a data area
pub record IsBlock (whole : List AreaItem) (o : Object) (part : List AreaItem) : Type 0 where
  pub power : ℕ
  pub content : List AreaItem
  pub align : 2 ^ power ≡ o.align
  pub part_is : part ≡ areas.Align power ∷ (areas.Label o.label ∷ content)
  pub plain : HasNoLabel content
  -- the object's bytes, each below 256, as many as its size
  pub spelled : bytes_from whole content o.address ≡ o.bytes
  pub ends : end_from content o.address ≡ o.address + o.size
  pub bytes : AllBelow 256 o.bytes

-- the blocks of objects, one behind another
pub data AreBlocks (whole : List AreaItem) : List Object → List AreaItem → Type 0 where
  none : AreBlocks whole [] []
  more : (o : Object) (os : List Object) (part rest : List AreaItem) → IsBlock whole o part → AreBlocks whole os rest
      → AreBlocks whole (o ∷ os) (part ++ rest)

-- what is said of the data area of a program's code
pub record HoldsObjects (program : TreeProgram) (c : Code) : Type 0 where
  pub labelled : (n : ℕ) (o : Object) → slice_get program.objects n ≡ Some o → label_address c.area o.label ≡ o.address
  pub area : area_bytes c.area ≡ opening program.objects
  pub bytes : AllBelow 256 (opening program.objects)
  pub size : length (opening program.objects) ≤ AREA_LIMIT

-- A data area of the objects' blocks holds them.
abbrev pub BlocksHoldObjects : Type 0
BlocksHoldObjects = (program : TreeProgram) (c : Code) → IsValid program → Loads c → AreBlocks c.area program.objects c.area
    → HoldsObjects program c
