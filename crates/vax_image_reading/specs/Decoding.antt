-- The code of an image, as the reader computes it, whose fields may still be longer than an image's are.
use Rattle.std.specs.Prelude.{◌≡◌, ℕ, suc, ◌+◌, List, take, drop, length, Option, Some, None, if◌then◌else◌, codes}
use Rattle.std.specs.Str.{bytes_eq}
use Rattle.std.specs.Option.{option_and_then, option_map}
use Rattle.gg_base.specs.declared.size.Size.TheVariants.{Long}
use Rattle.vax_core.specs.declared.code.AreaItem.{AreaItem}
use Rattle.vax_core.specs.declared.code.CodeItem.{CodeItem}
use Rattle.vax_core.specs.declared.code.Code.{Code}
use Rattle.vax_image_format.specs.declared.field.Ref.{Ref}
use Rattle.vax_image_format.specs.declared.field.Mark.{Mark}
use Rattle.vax_image_reading.specs.Fronts.{front}
use Rattle.vax_image_reading.specs.Items.{is_empty, items_front}
use Rattle.vax_image_reading.specs.Reading.{number_front, bytes_front, counted_front, mark_front, ref_front, area_front}
use Rattle.vax_image_format.specs.Image.{IsImage}

-- `GGI1` in front
abbrev pub behind_magic : List ℕ → Option (List ℕ)
behind_magic bytes = if bytes_eq (take 4 bytes) (codes "GGI1") then Some (drop 4 bytes) else None

abbrev pub text_front : List ℕ → Option (List ℕ × List ℕ)
text_front bytes = option_and_then bytes_front (number_front Long bytes)

-- the items of a text section with its marks and refs; each has a mark or a byte
abbrev pub items_of : List ℕ → List Mark → List Ref → Option (List CodeItem)
items_of text marks refs = items_front (suc (length marks + length text)) marks (front 0 text refs)

abbrev pub code_of : List ℕ → List Mark → List Ref → List AreaItem × List ℕ → Option Code
code_of text marks refs x =
    if is_empty x.1 then option_map (λ (items : List CodeItem). record { area = x.0; items = items }) (items_of text marks refs) else None

abbrev pub behind_refs : List ℕ → List Mark → List Ref × List ℕ → Option Code
behind_refs text marks x = option_and_then (code_of text marks x.0) (counted_front area_front x.1)

abbrev pub behind_marks : List ℕ → List Mark × List ℕ → Option Code
behind_marks text x = option_and_then (behind_refs text x.0) (counted_front ref_front x.1)

abbrev pub behind_text : List ℕ × List ℕ → Option Code
behind_text x = option_and_then (behind_marks x.0) (counted_front mark_front x.1)

unfoldable pub read_loosely : List ℕ → Option Code
read_loosely bytes = option_and_then (λ (rest : List ℕ). option_and_then behind_text (text_front rest)) (behind_magic bytes)

-- the code of each image is read
abbrev pub ImagesAreRead : Type 0
ImagesAreRead = (c : Code) (bytes : List ℕ) → IsImage c bytes → read_loosely bytes ≡ Some c
