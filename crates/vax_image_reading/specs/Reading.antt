-- The parts of an image, as the reader computes them: counted lists of marks, refs and area items, and the code that they are.
use Rattle.std.specs.Prelude.{ℕ, zero, suc, ◌==◌, nat_le, List, [], ◌∷◌, ◌++◌, take, drop, length, Option, Some, None, if◌then◌else◌}
use Rattle.std.specs.Option.{option_and_then, option_map}
use Rattle.gg_base.specs.declared.size.Size.{Size}
use Rattle.gg_base.specs.declared.size.Size.TheVariants.{Byte, Word, Long}
use Rattle.vax_core.specs.declared.code.AreaItem.{AreaItem}
use Rattle.vax_core.specs.declared.code.AreaItem.TheVariants as areas
use Rattle.vax_image_format.specs.declared.field.Ref.{Ref}
use Rattle.vax_image_format.specs.declared.field.Sign.{Sign}
use Rattle.vax_image_format.specs.declared.field.Sign.TheVariants as signs
use Rattle.vax_image_format.specs.declared.field.Mark.{Mark}
use Rattle.vax_image_reading.specs.Fronts.{Front, front, field_front}

-- a number in a field
abbrev pub number_front : Size → List ℕ → Option (ℕ × List ℕ)
number_front size bytes = option_map (λ (x : ℕ × Front). (x.0, x.1.bytes)) (field_front size (front 0 bytes []))

-- so many bytes
abbrev pub bytes_front : ℕ × List ℕ → Option (List ℕ × List ℕ)
bytes_front x = if nat_le x.0 (length x.1) then Some (take x.0 x.1, drop x.0 x.1) else None

-- a name behind its length
abbrev pub name_front : List ℕ → Option (List ℕ × List ℕ)
name_front bytes = option_and_then bytes_front (number_front Byte bytes)

-- a name without bytes is missing
abbrev pub some_name : List ℕ → Option (List ℕ)
some_name [] = None
some_name (c ∷ cs) = Some (c ∷ cs)

abbrev pub sign_of : ℕ × List ℕ → Option (Sign × List ℕ)
sign_of x =
    if x.0 == 0 then option_map (λ (y : List ℕ × List ℕ). (signs.Label y.0, y.1)) (name_front x.1)
    else if x.0 == 1 then option_map (λ (y : List ℕ × List ℕ). (signs.Globl y.0, y.1)) (name_front x.1)
    else if x.0 == 2 then Some (signs.Mask, x.1)
    else None

abbrev pub mark_behind : ℕ × List ℕ → Option (Mark × List ℕ)
mark_behind x =
    option_map (λ (y : Sign × List ℕ). (record { place = x.0; sign = y.0 }, y.1)) (option_and_then sign_of (number_front Byte x.1))

unfoldable pub mark_front : List ℕ → Option (Mark × List ℕ)
mark_front bytes = option_and_then mark_behind (number_front Long bytes)

abbrev pub ref_end : ℕ → List ℕ × List ℕ → Option (Ref × List ℕ)
ref_end place x =
    option_map (λ (y : ℕ × List ℕ). (record { place = place; addr = record { name = some_name x.0; offset = y.0 } }, y.1))
    (number_front Long x.1)

abbrev pub ref_behind : ℕ × List ℕ → Option (Ref × List ℕ)
ref_behind x = option_and_then (ref_end x.0) (name_front x.1)

unfoldable pub ref_front : List ℕ → Option (Ref × List ℕ)
ref_front bytes = option_and_then ref_behind (number_front Long bytes)

abbrev pub long_end : ℕ × List ℕ → Option (AreaItem × List ℕ)
long_end x = option_map (λ (y : List ℕ × List ℕ). (areas.Long (record { name = some_name y.0; offset = x.0 }), y.1)) (name_front x.1)

abbrev pub long_item : List ℕ → Option (AreaItem × List ℕ)
long_item bytes = option_and_then long_end (number_front Long bytes)

abbrev pub area_number : (ℕ → AreaItem) → Size → List ℕ → Option (AreaItem × List ℕ)
area_number item size bytes = option_map (λ (y : ℕ × List ℕ). (item y.0, y.1)) (number_front size bytes)

abbrev pub area_name : (List ℕ → AreaItem) → List ℕ → Option (AreaItem × List ℕ)
area_name item bytes = option_map (λ (y : List ℕ × List ℕ). (item y.0, y.1)) (name_front bytes)

abbrev pub area_of : ℕ × List ℕ → Option (AreaItem × List ℕ)
area_of x =
    if x.0 == 0 then area_name areas.Label x.1
    else if x.0 == 1 then area_name areas.Globl x.1
    else if x.0 == 2 then area_number areas.Align Byte x.1
    else if x.0 == 3 then area_number areas.Byte Byte x.1
    else if x.0 == 4 then area_number areas.Word Word x.1
    else if x.0 == 5 then long_item x.1
    else if x.0 == 6 then area_number areas.Space Long x.1
    else None

unfoldable pub area_front : List ℕ → Option (AreaItem × List ℕ)
area_front bytes = option_and_then area_of (number_front Byte bytes)

-- so many, one after the other
abbrev pub list_front : {A : Type 0} → (List ℕ → Option (A × List ℕ)) → ℕ → List ℕ → Option (List A × List ℕ)
list_front one zero bytes = Some ([], bytes)
list_front one (suc n) bytes =
    option_and_then (λ (x : _ × List ℕ). option_map (λ (y : List _ × List ℕ). (x.0 ∷ y.0, y.1)) (list_front one n x.1)) (one bytes)

-- behind those that were read
abbrev pub list_onto : {A : Type 0} → List A → Option (List A × List ℕ) → Option (List A × List ℕ)
list_onto read o = option_map (λ (y : List _ × List ℕ). (read ++ y.0, y.1)) o

-- behind their count
abbrev pub counted_front : {A : Type 0} → (List ℕ → Option (A × List ℕ)) → List ℕ → Option (List A × List ℕ)
counted_front one bytes = option_and_then (λ (x : ℕ × List ℕ). list_front one x.0 x.1) (number_front Long bytes)
