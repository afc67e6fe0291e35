-- The marks of a template's line, and what stands at their front.
use Rattle.std.specs.Prelude.{ℕ, ◌+◌, ◌-◌, ◌*◌, ◌^◌, min, nat_le, Bool, false, not, ◌==◌, ◌&&◌, List, [], ◌∷◌}
use Rattle.std.specs.Prelude.{map, flat_map, Option, Some, None}
use Rattle.std.specs.Prelude.{if◌then◌else◌}
use Rattle.std.specs.Char.{is_ascii_digit}
use Rattle.std.specs.Option.{option_and_then, option_map, option_map_or}
use Rattle.sel_target.specs.md_reader_pieces.specs.declared.piece.Piece.{Piece}
use Rattle.sel_target.specs.md_reader_pieces.specs.declared.piece.Piece.TheVariants as piece
use Rattle.vax_templates.specs.declared.form.Mark.{Mark}
use Rattle.vax_templates.specs.declared.form.Mark.TheVariants as mark

abbrev pub marks_of_piece : Piece → List Mark
marks_of_piece (piece.Bytes w) = map mark.Byte w
marks_of_piece (piece.Hole i) = mark.Hole i ∷ []
marks_of_piece piece.Label = mark.Label ∷ []
marks_of_piece piece.Callee = mark.Callee ∷ []
marks_of_piece piece.Count = mark.Count ∷ []

abbrev pub marks_of : List Piece → List Mark
marks_of ps = flat_map marks_of_piece ps

abbrev pub is_byte : ℕ → Mark → Bool
is_byte c (mark.Byte b) = b == c
is_byte c m = false

-- what is left behind a byte that stands at the front
abbrev pub strip : ℕ → List Mark → Option (List Mark)
strip c [] = None
strip c (m ∷ ms) = if is_byte c m then Some ms else None

-- the hole at the front
abbrev pub hole_front : List Mark → Option (ℕ × List Mark)
hole_front [] = None
hole_front (mark.Hole i ∷ ms) = Some (i, ms)
hole_front (m ∷ ms) = None

abbrev pub is_digit_mark : Mark → Bool
is_digit_mark (mark.Byte b) = is_ascii_digit b
is_digit_mark m = false

abbrev pub digit : Mark → ℕ
digit (mark.Byte b) = b - 48
digit m = 0

abbrev pub begins_with_digit : List Mark → Bool
begins_with_digit [] = false
begins_with_digit (m ∷ ms) = is_digit_mark m

-- the number that the digits at the front go on to; what is greater than 2147483649 counts as that
abbrev pub digits_front : ℕ → List Mark → ℕ × List Mark
digits_front n [] = (n, [])
digits_front n (m ∷ ms) = if is_digit_mark m then digits_front (min (n * 10 + digit m) 2147483649) ms else (n, m ∷ ms)

-- a number without sign and without a leading zero
abbrev pub number_front : List Mark → Option (ℕ × List Mark)
number_front [] = None
number_front (m ∷ ms) =
    if is_digit_mark m && not (is_byte 48 m && begins_with_digit ms) then Some (digits_front 0 (m ∷ ms)) else None

abbrev pub positive : ℕ × List Mark → Option (ℕ × List Mark)
positive x = if nat_le x.0 2147483647 then Some x else None

abbrev pub negative : ℕ × List Mark → Option (ℕ × List Mark)
negative x = if nat_le 1 x.0 && nat_le x.0 2147483648 then Some (2 ^ 32 - x.0, x.1) else None

abbrev pub below_zero : List Mark → Option (ℕ × List Mark)
below_zero ms = option_and_then negative (number_front ms)

-- a number with its sign, on 32 bits
unfoldable pub signed_front : List Mark → Option (ℕ × List Mark)
signed_front ms = option_map_or positive (number_front ms) (option_and_then below_zero (strip 45 ms))

-- a byte, then a closing byte behind what is read
abbrev pub closed : {A : Type 0} → ℕ → A × List Mark → Option (A × List Mark)
closed c x = option_map (λ (rest : List Mark). (x.0, rest)) (strip c x.1)

-- `(%i)`
unfoldable pub at_front : List Mark → Option (ℕ × List Mark)
at_front ms = option_and_then (λ (inner : List Mark). option_and_then (closed 41) (hole_front inner)) (strip 40 ms)
