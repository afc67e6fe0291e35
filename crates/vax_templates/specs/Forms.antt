-- Operands at the front of some marks.
use Rattle.std.specs.Prelude.{ℕ, List, Option, Some, None}
use Rattle.std.specs.Option.{option_and_then, option_map, option_map_or}
use Rattle.vax_templates.specs.declared.form.Mark.{Mark}
use Rattle.vax_templates.specs.declared.form.Number.{Number}
use Rattle.vax_templates.specs.declared.form.Number.TheVariants as number
use Rattle.vax_templates.specs.declared.form.Base.{Base}
use Rattle.vax_templates.specs.declared.form.Base.TheVariants as base
use Rattle.vax_templates.specs.declared.form.Form.{Form}
use Rattle.vax_templates.specs.Marks.{strip, hole_front, signed_front, closed, at_front}

abbrev pub of_symbol : ℕ × List Mark → Option (Number × List Mark)
of_symbol x = Some (number.Symbol x.0, x.1)

abbrev pub itself : ℕ × List Mark → Number × List Mark
itself x = (number.Itself x.0, x.1)

-- `n` or `%i`
unfoldable pub number_spelled : List Mark → Option (Number × List Mark)
number_spelled ms = option_map_or of_symbol (hole_front ms) (option_map itself (signed_front ms))

abbrev pub of_number : (Number → Base) → Number × List Mark → Option (Base × List Mark)
of_number made x = Some (made x.0, x.1)

abbrev pub of_hole : (ℕ → Base) → ℕ × List Mark → Option (Base × List Mark)
of_hole made x = Some (made x.0, x.1)

-- a symbol may stand alone, a number may not
abbrev pub alone : (ℕ → Base) → Number → List Mark → Option (Base × List Mark)
alone made (number.Symbol i) rest = Some (made i, rest)
alone made (number.Itself n) rest = None

-- `n(%i)`, `%j(%i)` or `%j`
abbrev pub near : Number × List Mark → Option (Base × List Mark)
near x = option_map_or (of_hole (base.Displacement x.0)) (at_front x.1) (alone base.Hole x.0 x.1)

-- the same behind `*`
abbrev pub far : Number × List Mark → Option (Base × List Mark)
far x = option_map_or (of_hole (base.DisplacementDeferred x.0)) (at_front x.1) (alone base.Deferred x.0 x.1)

-- what stands behind `*`
unfoldable pub deferred_front : List Mark → Option (Base × List Mark)
deferred_front ms =
    option_map_or (λ (rest : List Mark). option_and_then (of_number base.Absolute) (number_spelled rest)) (strip 36 ms)
    (option_and_then far (number_spelled ms))

-- `-%i`
abbrev pub negative_hole : List Mark → Option (ℕ × List Mark)
negative_hole ms = option_and_then hole_front (strip 45 ms)

-- what stands behind `$`
unfoldable pub immediate_front : List Mark → Option (Base × List Mark)
immediate_front ms =
    option_map_or (of_hole base.Negative) (negative_hole ms) (option_and_then (of_number base.Immediate) (number_spelled ms))

abbrev pub register_zero : List Mark → Option (Base × List Mark)
register_zero rest = Some (base.RegisterZero, rest)

-- what stands behind `r`
abbrev pub named_front : List Mark → Option (Base × List Mark)
named_front ms = option_and_then register_zero (strip 48 ms)

-- an operand without its index
unfoldable pub base_front : List Mark → Option (Base × List Mark)
base_front ms =
    option_map_or deferred_front (strip 42 ms)
    (option_map_or immediate_front (strip 36 ms)
    (option_map_or named_front (strip 114 ms)
    (option_map_or (of_hole base.RegisterDeferred) (at_front ms)
    (option_and_then near (number_spelled ms)))))

abbrev pub some_index : ℕ × List Mark → Option (Option ℕ × List Mark)
some_index x = Some (Some x.0, x.1)

-- `[%i]`, which may be missing
unfoldable pub index_front : List Mark → Option (Option ℕ × List Mark)
index_front ms =
    option_map_or (λ (inner : List Mark). option_and_then some_index (option_and_then (closed 93) (hole_front inner))) (strip 91 ms)
    (Some (None, ms))

abbrev pub with_index : Base → Option ℕ × List Mark → Form × List Mark
with_index b x = (record { base = b; index = x.0 }, x.1)

abbrev pub indexed : Base × List Mark → Option (Form × List Mark)
indexed x = option_map (with_index x.0) (index_front x.1)

-- an operand
unfoldable pub form_front : List Mark → Option (Form × List Mark)
form_front ms = option_and_then indexed (base_front ms)
