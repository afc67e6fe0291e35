-- The data area of a program, item by item: each object's alignment, its label, and its bytes from the front. Of the bytes each link that
-- comes in its turn is a `.long` of the linked object's label, each longest run of zeros a `.space`, and each other byte a `.byte`.
use Rattle.std.specs.Prelude.{◌≡◌, ℕ, zero, suc, ◌+◌, ◌==◌, if◌then◌else◌, List, [], ◌∷◌, ◌++◌, Option, Some, None, slice_get}
use Rattle.std.specs.List.{All}
use Rattle.vax_core.specs.declared.operand.Addr.{Addr}
use Rattle.vax_core.specs.declared.code.Code.{Code}
use Rattle.vax_core.specs.declared.code.AreaItem.{AreaItem}
use Rattle.vax_core.specs.declared.code.AreaItem.TheVariants as areas
use Rattle.vax_machine.specs.Loading.{Loads}
use Rattle.tree_core.specs.declared.program.Link.{Link}
use Rattle.tree_core.specs.declared.program.Object.{Object}
use Rattle.tree_core.specs.declared.program.TreeProgram.{TreeProgram}
use Rattle.tree_core.specs.Valid.{IsValid}
use Rattle.tree_core.specs.Area.{HoldsAddress}
use Rattle.vax_machine_lists.specs.Sound.{AllBelow}
use Rattle.gg_compile_law.specs.Areas.{AreBlocks}

-- 2 to this power is the alignment, which is 1, 2 or 4
abbrev pub power_of : ℕ → ℕ
power_of align = if align == 1 then 0 else if align == 2 then 1 else 2

-- the zeros that came before some items
abbrev pub after_zeros : ℕ → List AreaItem → List AreaItem
after_zeros zero items = items
after_zeros (suc n) items = areas.Space (suc n) ∷ items

-- a zero joins the zeros before it; another byte ends them
abbrev pub by_byte : ℕ → (ℕ → List AreaItem) → ℕ → List AreaItem
by_byte zeros go zero = go (suc zeros)
by_byte zeros go (suc b) = after_zeros zeros (areas.Byte (suc b) ∷ go 0)

abbrev pub label_of : Option Object → List ℕ
label_of None = []
label_of (Some o) = o.label

module _ (all : List Object) where
  -- the label of the object that a link names
  abbrev pub link_addr : Link → Addr
  link_addr l = record { name = Some (label_of (slice_get all l.object)); offset = 0 }

  -- The items of an object's bytes from an offset on. So many bytes of a link are passed over first, and so many zeros came before.
  abbrev pub spelled : ℕ → ℕ → List Link → ℕ → List ℕ → List AreaItem
  spelled passed zeros links at [] = after_zeros zeros []
  spelled (suc passed) zeros links at (b ∷ bs) = spelled passed zeros links (at + 1) bs
  spelled zero zeros [] at (b ∷ bs) = by_byte zeros (λ (z : ℕ). spelled zero z [] (at + 1) bs) b
  spelled zero zeros (l ∷ ls) at (b ∷ bs) =
      if l.at == at then after_zeros zeros (areas.Long (link_addr l) ∷ spelled 3 0 ls (at + 1) bs)
      else by_byte zeros (λ (z : ℕ). spelled zero z (l ∷ ls) (at + 1) bs) b

  abbrev pub block_of : Object → List AreaItem
  block_of o = areas.Align (power_of o.align) ∷ (areas.Label o.label ∷ spelled 0 0 o.links 0 o.bytes)

  abbrev pub blocks_of : List Object → List AreaItem
  blocks_of [] = []
  blocks_of (o ∷ os) = block_of o ++ blocks_of os

abbrev pub area_of : List Object → List AreaItem
area_of objects = blocks_of objects objects

-- so are those of all links, and the others are bytes
abbrev pub HoldsNumbers : List Object → Object → Type 0
HoldsNumbers all o = All (HoldsAddress all o.bytes) o.links × AllBelow 256 o.bytes

-- In a code without fault the area that is spelled so is the objects' blocks.
abbrev pub AreasAreBlocks : Type 0
AreasAreBlocks =
    (program : TreeProgram) (c : Code) → IsValid program → Loads c → All (HoldsNumbers program.objects) program.objects → c.area
    ≡ area_of program.objects
    → AreBlocks c.area program.objects c.area
