-- What a reading of operands and instructions is about: spellings at the front of a section.
use Rattle.std.specs.Prelude.{◌≡◌, ℕ, ◌+◌, ◌<◌, ◌≤◌, true, List, [], ◌∷◌, ◌++◌, length, Option, Some}
use Rattle.std.specs.List.{list_all}
use Rattle.gg_base.specs.declared.size.Size.{Size}
use Rattle.vax_core.specs.declared.operand.Operand.{Operand}
use Rattle.vax_core.specs.declared.code.Instr.{Instr}
use Rattle.vax_core.specs.declared.code.CodeItem.{CodeItem}
use Rattle.vax_core.specs.declared.code.CodeItem.TheVariants as item_kind
use Rattle.vax_core.specs.Valid.{is_base, is_instr, is_code_item}
use Rattle.vax_image_format.specs.Instructions.{item_length, item_bytes, item_refs}
use Rattle.vax_image_reading.specs.Instrs.{instr_front}
use Rattle.vax_image_format.specs.Sections.{text_bytes, text_refs, text_marks}
use Rattle.vax_image_reading.specs.Items.{items_front}
use Rattle.vax_image_format.specs.declared.field.Ref.{Ref}
use Rattle.vax_image_format.specs.Specifiers.{operand_bytes, operand_refs}
use Rattle.vax_image_reading.specs.Fronts.{front}
use Rattle.vax_image_reading.specs.Operands.{operand_front}

-- the next ref belongs to a field from this place on
abbrev pub AreLater : ℕ → List Ref → Type 0
AreLater place [] = Unit {0}
AreLater place (r ∷ refs) = place ≤ r.place

-- each spelling of an operand is read
abbrev pub OperandsAreRead : Type 0
OperandsAreRead = (size : Size) (o : Operand) (place : ℕ) (rest : List ℕ) (refs : List Ref) → is_base o.base ≡ true
    → AreLater (place + length (operand_bytes size o)) refs
    → operand_front size (front place (operand_bytes size o ++ rest) (operand_refs place size o ++ refs))
    ≡ Some (o, front (place + length (operand_bytes size o)) rest refs)

-- each spelling of an instruction is read, in whatever form its branch is and wherever the labels are
abbrev pub InstrsAreRead : Type 0
InstrsAreRead = (labels : List ℕ → Option ℕ) (form : Size) (i : Instr) (place : ℕ) (rest : List ℕ) (refs : List Ref) → is_instr i ≡ true
    → AreLater (place + item_length form (item_kind.Instr i)) refs
    → instr_front (front place (item_bytes labels place form (item_kind.Instr i) ++ rest)
    (item_refs place form (item_kind.Instr i) ++ refs))
    ≡ Some (i, front (place + item_length form (item_kind.Instr i)) rest refs)

-- each text section is read
abbrev pub SectionsAreRead : Type 0
SectionsAreRead = (labels : List ℕ → Option ℕ) (items : List CodeItem) (forms : List Size) (n place : ℕ)
    → list_all is_code_item items ≡ true → length forms ≡ length items → length items < n
    → items_front n (text_marks place items forms) (front place (text_bytes labels place items forms) (text_refs place items forms))
    ≡ Some items
