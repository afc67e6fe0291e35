-- The binary image of a code.
use Rattle.std.specs.Prelude.{◌≡◌, ℕ, ◌≤◌, true, List, ◌++◌, length, map, Option, Some, None, if◌then◌else◌, codes}
use Rattle.std.specs.List.{flat_map}
use Rattle.gg_base.specs.declared.size.Size.{Size}
use Rattle.gg_base.specs.declared.size.Size.TheVariants.{Byte, Long}
use Rattle.vax_core.specs.declared.code.Instr.{Instr}
use Rattle.vax_core.specs.declared.code.CodeItem.{CodeItem}
use Rattle.vax_core.specs.declared.code.CodeItem.TheVariants as item_kind
use Rattle.vax_core.specs.declared.code.Code.{Code}
use Rattle.vax_core.specs.Valid.{is_code}
use Rattle.vax_machine.specs.Functions.{action_of}
use Rattle.vax_machine.specs.Labels.{has_label, label_place}
use Rattle.vax_machine.specs.Loading.{Loads}
use Rattle.vax_image_branches.specs.declared.piece.Piece.{Piece}
use Rattle.vax_image_branches.specs.declared.piece.Piece.TheVariants as pieces
use Rattle.vax_image_branches.specs.Branches.{place}
use Rattle.vax_image_branches.specs.Least.{IsLeast}
use Rattle.vax_image_format.specs.Opcodes.{is_branch, is_conditional}
use Rattle.vax_image_format.specs.Specifiers.{field}
use Rattle.vax_image_format.specs.Instructions.{item_length}
use Rattle.vax_image_format.specs.Sections.{text_bytes, text_refs, text_marks, mark_bytes, ref_bytes, area_bytes}

-- the number of the item with this label, which stands in front of it
abbrev pub target_item : List CodeItem → Option (List ℕ) → ℕ
target_item items None = 0
target_item items (Some label) = label_place items label

-- a branch, whose length hangs on its form; or another item of the code
abbrev pub branch_piece : List CodeItem → Instr → Piece
branch_piece items i = pieces.Branch (record { conditional = is_conditional (action_of i.op); target = target_item items i.target })

abbrev pub piece_of : List CodeItem → CodeItem → Piece
piece_of items (item_kind.Instr i) =
    if is_branch (action_of i.op) then branch_piece items i else pieces.Fixed (item_length Byte (item_kind.Instr i))
piece_of items item = pieces.Fixed (item_length Byte item)

abbrev pub pieces_of : List CodeItem → List Piece
pieces_of items = map (piece_of items) items

-- the place of a label, where the branches have these forms; a service has none
abbrev pub label_at : List CodeItem → List Size → List ℕ → Option ℕ
label_at items forms name = if has_label items name then Some (place (pieces_of items) forms (label_place items name)) else None

abbrev pub text_section : List CodeItem → List Size → List ℕ
text_section items forms = text_bytes (label_at items forms) 0 items forms

-- a count in front of what it counts
abbrev pub counted : ℕ → List ℕ → List ℕ
counted n bytes = field Long n ++ bytes

abbrev pub image_bytes : Code → List Size → List ℕ
image_bytes c forms =
    codes "GGI1"
    ++ (counted (length (text_section c.items forms)) (text_section c.items forms)
    ++ (counted (length (text_marks 0 c.items forms)) (flat_map mark_bytes (text_marks 0 c.items forms))
    ++ (counted (length (text_refs 0 c.items forms)) (flat_map ref_bytes (text_refs 0 c.items forms))
    ++ counted (length c.area) (flat_map area_bytes c.area))))

-- the text section has at most 2^30 - 1 bytes, and each count fits its 4 bytes
pub record IsShort (c : Code) (forms : List Size) : Type 0 where
  pub text : length (text_section c.items forms) ≤ 1073741823
  pub marks : length (text_marks 0 c.items forms) ≤ 4294967295
  pub area : length c.area ≤ 4294967295

-- the image of a valid code that loads, in which each branch is as short as can be
pub record IsImage (c : Code) (bytes : List ℕ) : Type 0 where
  pub valid : is_code c ≡ true
  pub loads : Loads c
  pub forms : List Size
  pub least : IsLeast (pieces_of c.items) forms
  pub short : IsShort c forms
  pub spelled : bytes ≡ image_bytes c forms

-- a code has one image
abbrev pub ImageIsOne : Type 0
ImageIsOne = (c : Code) (a b : List ℕ) → IsImage c a → IsImage c b → a ≡ b
