-- Operands at the front of some marks.
use Rattle.std.specs.Prelude.{ℕ, List, Option, Some, None}
use Rattle.std.specs.Option.{option_and_then, option_map_or}
use Rattle.vax_templates.specs.declared.form.Mark.{Mark}
use Rattle.vax_templates.specs.declared.form.Number.{Number}
use Rattle.vax_templates.specs.declared.form.Number.TheVariants as number
use Rattle.vax_templates.specs.Marks.{strip, at_front}
use Rattle.vax_templates.specs.Forms.{number_spelled, negative_hole}
use Rattle.l32_templates.specs.declared.form.Form.{Form}
use Rattle.l32_templates.specs.declared.form.Form.TheVariants as form

abbrev pub of_number : (Number → Form) → Number × List Mark → Option (Form × List Mark)
of_number made x = Some (made x.0, x.1)

abbrev pub of_hole : (ℕ → Form) → ℕ × List Mark → Option (Form × List Mark)
of_hole made x = Some (made x.0, x.1)

-- a symbol may stand alone, a number may not
abbrev pub alone : (ℕ → Form) → Number → List Mark → Option (Form × List Mark)
alone made (number.Symbol i) rest = Some (made i, rest)
alone made (number.Itself n) rest = None

-- `n(%i)`, `%j(%i)` or `%j`
abbrev pub near : Number × List Mark → Option (Form × List Mark)
near x = option_map_or (of_hole (form.Displacement x.0)) (at_front x.1) (alone form.Hole x.0 x.1)

-- the same behind `@`
abbrev pub far : Number × List Mark → Option (Form × List Mark)
far x = option_map_or (of_hole (form.DisplacementDeferred x.0)) (at_front x.1) (alone form.Deferred x.0 x.1)

-- what stands behind `@`
abbrev pub deferred_front : List Mark → Option (Form × List Mark)
deferred_front ms = option_and_then far (number_spelled ms)

-- what stands behind `$`
unfoldable pub immediate_front : List Mark → Option (Form × List Mark)
immediate_front ms =
    option_map_or (of_hole form.Negative) (negative_hole ms) (option_and_then (of_number form.Immediate) (number_spelled ms))

abbrev pub register_zero : List Mark → Option (Form × List Mark)
register_zero rest = Some (form.RegisterZero, rest)

-- what stands behind `a`
abbrev pub named_front : List Mark → Option (Form × List Mark)
named_front ms = option_and_then register_zero (strip 48 ms)

-- an operand
unfoldable pub form_front : List Mark → Option (Form × List Mark)
form_front ms =
    option_map_or deferred_front (strip 64 ms)
    (option_map_or immediate_front (strip 36 ms)
    (option_map_or named_front (strip 97 ms)
    (option_and_then near (number_spelled ms))))
