-- What was written to a text section.
use Rattle.std.specs.Prelude.{◌≡◌, ℕ, List, ◌++◌, length, Option}
use Rattle.std.specs.List.{flat_map}
use Rattle.gg_base.specs.declared.size.Size.{Size}
use Rattle.vax_core.specs.declared.code.CodeItem.{CodeItem}
use Rattle.vax_image_format.specs.declared.field.Ref.{Ref}
use Rattle.vax_image_format.specs.Instructions.{item_bytes, item_refs}
use Rattle.vax_image_format.specs.Sections.{item_marks, mark_bytes}
use Rattle.vax_image_writing.specs.declared.section.Section.{Section}
use Rattle.vax_image_writing.specs.declared.items.Text.{Text}

-- the place behind what stands in a section
abbrev pub end_of : Section → ℕ
end_of s = length s.bytes.items

-- these bytes were put behind the others, and these refs
pub record IsPut (old new : Section) (bytes : List ℕ) (refs : List Ref) : Type 0 where
  pub bytes_are : new.bytes.items ≡ old.bytes.items ++ bytes
  pub refs_are : new.refs.items ≡ old.refs.items ++ refs

-- this item was put behind the others, its target being at a place
pub record IsItemPut (old new : Text) (form : Size) (to : Option ℕ) (item : CodeItem) : Type 0 where
  pub section : IsPut old.section new.section (item_bytes (λ label. to) (end_of old.section) form item)
      (item_refs (end_of old.section) form item)
  pub marks : new.marks.items ≡ old.marks.items ++ flat_map mark_bytes (item_marks (end_of old.section) item)
