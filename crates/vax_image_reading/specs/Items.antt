-- The items of a text section, as the reader computes them: by its marks, its bytes and its refs.
use Rattle.std.specs.Prelude.{ℕ, zero, suc, ◌==◌, Bool, ◌&&◌, List, [], ◌∷◌, ◌++◌, length, Option, Some, None, if◌then◌else◌}
use Rattle.std.specs.Option.{option_and_then, option_map}
use Rattle.gg_base.specs.declared.size.Size.TheVariants.{Word}
use Rattle.vax_core.specs.declared.code.Instr.{Instr}
use Rattle.vax_core.specs.declared.code.CodeItem.{CodeItem}
use Rattle.vax_core.specs.declared.code.CodeItem.TheVariants as item_kind
use Rattle.vax_image_format.specs.declared.field.Sign.{Sign}
use Rattle.vax_image_format.specs.declared.field.Sign.TheVariants as signs
use Rattle.vax_image_format.specs.declared.field.Mark.{Mark}
use Rattle.vax_image_reading.specs.Fronts.{Front, field_front}
use Rattle.vax_image_reading.specs.Instrs.{instr_front}

abbrev pub is_empty : {A : Type 0} → List A → Bool
is_empty xs = length xs == 0

-- no mark and no byte is left
abbrev pub is_end : List Mark → Front → Bool
is_end marks f = is_empty marks && is_empty f.bytes

-- an item, with the marks and what else is left behind it
abbrev pub ItemFront : Type 0
ItemFront = CodeItem × List Mark × Front

abbrev pub instr_item : List Mark → Front → Option ItemFront
instr_item marks f = option_map (λ (x : Instr × Front). (item_kind.Instr x.0, marks, x.1)) (instr_front f)

abbrev pub mask_item : List Mark → Front → Option ItemFront
mask_item marks f = option_map (λ (x : ℕ × Front). (item_kind.Mask x.0, marks, x.1)) (field_front Word f)

-- the item of a mark
abbrev pub signed_item : Sign → List Mark → Front → Option ItemFront
signed_item (signs.Label name) marks f = Some (item_kind.Label name, marks, f)
signed_item (signs.Globl name) marks f = Some (item_kind.Globl name, marks, f)
signed_item signs.Mask marks f = mask_item marks f

-- at the next mark's place its item; else an instruction
unfoldable pub item_front : List Mark → Front → Option ItemFront
item_front [] f = instr_item [] f
item_front (m ∷ marks) f = if m.place == f.place then signed_item m.sign marks f else instr_item (m ∷ marks) f

-- the first item in front of those that a reader reads
abbrev pub behind_item : (List Mark → Front → Option (List CodeItem)) → ItemFront → Option (List CodeItem)
behind_item read x = option_map (λ (items : List CodeItem). x.0 ∷ items) (read x.1 x.2)

-- fewer items than a number, up to the end of marks and bytes
abbrev pub items_front : ℕ → List Mark → Front → Option (List CodeItem)
items_front zero marks f = None
items_front (suc n) marks f = if is_end marks f then Some [] else option_and_then (behind_item (items_front n)) (item_front marks f)

-- behind items that were read
abbrev pub items_onto : List CodeItem → Option (List CodeItem) → Option (List CodeItem)
items_onto read o = option_map (λ (items : List CodeItem). read ++ items) o
