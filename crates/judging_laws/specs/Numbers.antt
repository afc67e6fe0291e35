-- The numbers that a template spells.
use Rattle.std.specs.Prelude.{◌^◌, ◌<◌}
use Rattle.vax_templates.specs.declared.form.Number.{Number}
use Rattle.vax_templates.specs.declared.form.Number.TheVariants as number

-- a number that is spelled itself is a longword
abbrev pub IsShort : Number → Type 0
IsShort (number.Itself n) = n < 2 ^ 32
IsShort (number.Symbol i) = Unit {0}
