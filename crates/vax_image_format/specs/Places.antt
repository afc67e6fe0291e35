-- The places that branches are measured by are those of the items in the section.
use Rattle.std.specs.Prelude.{◌≡◌, ◌≤◌, ◌^◌, true, List, length}
use Rattle.std.specs.List.{list_all}
use Rattle.gg_base.specs.declared.size.Size.{Size}
use Rattle.vax_core.specs.declared.code.CodeItem.{CodeItem}
use Rattle.vax_core.specs.Valid.{is_code_item}
use Rattle.vax_image_branches.specs.Branches.{place}
use Rattle.vax_image_branches.specs.Least.{ArePieces}
use Rattle.vax_image_format.specs.Image.{pieces_of, text_section}

-- the section ends where the last piece does
abbrev pub SectionsEnd : Type 0
SectionsEnd = (items : List CodeItem) (forms : List Size) → list_all is_code_item items ≡ true → length forms ≡ length items
    → length (text_section items forms) ≡ place (pieces_of items) forms (length items)

-- what the least forms ask of a code's pieces
abbrev pub PiecesServe : Type 0
PiecesServe = (items : List CodeItem) → list_all is_code_item items ≡ true → length items ≤ 2 ^ 33 → ArePieces (pieces_of items)
