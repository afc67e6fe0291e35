-- The text section of a code, as it is written, and the bytes of the whole image.
use Rattle.std.specs.Prelude.{◌≡◌, ℕ, Bool, true, false, ◌≤◌, List, [], ◌∷◌, ◌++◌, length, Option, Some, None, codes}
use Rattle.std.specs.List.{flat_map}
use Rattle.gg_base.specs.declared.size.Size.{Size}
use Rattle.vax_core.specs.declared.code.AreaItem.{AreaItem}
use Rattle.vax_core.specs.declared.code.CodeItem.{CodeItem}
use Rattle.vax_core.specs.declared.code.CodeItem.TheVariants as item_kind
use Rattle.vax_image_format.specs.declared.field.Ref.{Ref}
use Rattle.vax_image_format.specs.Sections.{text_refs, text_marks, mark_bytes, ref_bytes, area_bytes}
use Rattle.vax_image_format.specs.Image.{text_section, counted}
use Rattle.vax_image_writing.specs.declared.items.Text.{Text}

-- the label that an item goes to
abbrev pub target_of : CodeItem → Option (List ℕ)
target_of (item_kind.Label name) = None
target_of (item_kind.Globl name) = None
target_of (item_kind.Mask mask) = None
target_of (item_kind.Instr i) = i.target

-- the place of a target, by the places of labels
abbrev pub target_place : (List ℕ → Option ℕ) → Option (List ℕ) → Option ℕ
target_place labels None = None
target_place labels (Some label) = labels label

-- whether an item has a mark
abbrev pub is_marked : CodeItem → Bool
is_marked (item_kind.Label name) = true
is_marked (item_kind.Globl name) = true
is_marked (item_kind.Mask mask) = true
is_marked (item_kind.Instr i) = false

-- the section of these items in these forms, with its refs and marks
pub record IsText (items : List CodeItem) (forms : List Size) (t : Text) : Type 0 where
  pub bytes : t.section.bytes.items ≡ text_section items forms
  pub refs : t.section.refs.items ≡ text_refs 0 items forms
  pub marks : t.marks.items ≡ flat_map mark_bytes (text_marks 0 items forms)

abbrev pub name_length : Option (List ℕ) → ℕ
name_length None = 0
name_length (Some name) = length name

-- the names of these refs have at most 64 bytes
abbrev pub AreNamed : List Ref → Type 0
AreNamed [] = Unit {0}
AreNamed (r ∷ refs) = (name_length r.addr.name ≤ 64) × AreNamed refs

-- the bytes of an image with this text, so many marks and this data area
abbrev pub image_of : Text → ℕ → List AreaItem → List ℕ
image_of t marks area =
    codes "GGI1"
    ++ (counted (length t.section.bytes.items) t.section.bytes.items
    ++ (counted marks t.marks.items
    ++ (counted (length t.section.refs.items) (flat_map ref_bytes t.section.refs.items)
    ++ counted (length area) (flat_map area_bytes area))))
