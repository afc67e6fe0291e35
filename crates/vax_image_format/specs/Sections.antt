-- The sections of an image: the text, its marks, its refs, and the data area.
use Rattle.std.specs.Prelude.{ℕ, ◌+◌, List, [], ◌∷◌, ◌++◌, length, Option, Some, None}
use Rattle.gg_base.specs.declared.size.Size.{Size}
use Rattle.gg_base.specs.declared.size.Size.TheVariants.{Word, Long}
use Rattle.vax_core.specs.declared.code.AreaItem.{AreaItem}
use Rattle.vax_core.specs.declared.code.AreaItem.TheVariants as areas
use Rattle.vax_core.specs.declared.code.CodeItem.{CodeItem}
use Rattle.vax_core.specs.declared.code.CodeItem.TheVariants as item_kind
use Rattle.vax_image_format.specs.declared.field.Ref.{Ref}
use Rattle.vax_image_format.specs.declared.field.Sign.{Sign}
use Rattle.vax_image_format.specs.declared.field.Sign.TheVariants as signs
use Rattle.vax_image_format.specs.declared.field.Mark.{Mark}
use Rattle.vax_image_format.specs.Specifiers.{field}
use Rattle.vax_image_format.specs.Instructions.{item_length, item_bytes, item_refs}

-- the text section from a place on: the items, each in its form
abbrev pub text_bytes : (List ℕ → Option ℕ) → ℕ → List CodeItem → List Size → List ℕ
text_bytes labels at [] forms = []
text_bytes labels at (item ∷ items) [] = []
text_bytes labels at (item ∷ items) (form ∷ forms) =
    item_bytes labels at form item ++ text_bytes labels (at + item_length form item) items forms

abbrev pub text_refs : ℕ → List CodeItem → List Size → List Ref
text_refs at [] forms = []
text_refs at (item ∷ items) [] = []
text_refs at (item ∷ items) (form ∷ forms) = item_refs at form item ++ text_refs (at + item_length form item) items forms

-- a name is a byte for its length and its bytes; one that is missing has no bytes
abbrev pub name_bytes : Option (List ℕ) → List ℕ
name_bytes None = 0 ∷ []
name_bytes (Some name) = length name ∷ name

-- the mark of an item at a place; an instruction has none
abbrev pub item_marks : ℕ → CodeItem → List Mark
item_marks at (item_kind.Label name) = record { place = at; sign = signs.Label name } ∷ []
item_marks at (item_kind.Globl name) = record { place = at; sign = signs.Globl name } ∷ []
item_marks at (item_kind.Mask mask) = record { place = at; sign = signs.Mask } ∷ []
item_marks at (item_kind.Instr i) = []

abbrev pub text_marks : ℕ → List CodeItem → List Size → List Mark
text_marks at [] forms = []
text_marks at (item ∷ items) [] = []
text_marks at (item ∷ items) (form ∷ forms) = item_marks at item ++ text_marks (at + item_length form item) items forms

abbrev pub sign_bytes : Sign → List ℕ
sign_bytes (signs.Label name) = 0 ∷ name_bytes (Some name)
sign_bytes (signs.Globl name) = 1 ∷ name_bytes (Some name)
sign_bytes signs.Mask = 2 ∷ []

abbrev pub mark_bytes : Mark → List ℕ
mark_bytes m = field Long m.place ++ sign_bytes m.sign

abbrev pub ref_bytes : Ref → List ℕ
ref_bytes r = field Long r.place ++ (name_bytes r.addr.name ++ field Long r.addr.offset)

abbrev pub area_bytes : AreaItem → List ℕ
area_bytes (areas.Label name) = 0 ∷ name_bytes (Some name)
area_bytes (areas.Globl name) = 1 ∷ name_bytes (Some name)
area_bytes (areas.Align k) = 2 ∷ (k ∷ [])
area_bytes (areas.Byte n) = 3 ∷ (n ∷ [])
area_bytes (areas.Word n) = 4 ∷ field Word n
area_bytes (areas.Long a) = 5 ∷ (field Long a.offset ++ name_bytes a.name)
area_bytes (areas.Space n) = 6 ∷ field Long n
