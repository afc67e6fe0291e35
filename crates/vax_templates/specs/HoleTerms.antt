-- The term that a hole, a number or a register of an operand stands for.
use Rattle.std.specs.Prelude.{ℕ, ◌==◌, List, Option, Some, Result, Ok, Err, if◌then◌else◌}
use Rattle.sel_target.specs.term_core.specs.Shape.{Shape, Constant, Symbol}
use Rattle.sel_target.specs.declared.fault.TemplateKind.{TemplateKind}
use Rattle.sel_target.specs.declared.fault.TemplateKind.TheVariants.{NotInstr}
use Rattle.vax_templates.specs.declared.form.Number.{Number}
use Rattle.vax_templates.specs.declared.form.Number.TheVariants as number
use Rattle.vax_templates.specs.declared.setting.Hole.{Hole}
use Rattle.vax_templates.specs.declared.setting.Hole.TheVariants as hole_kind
use Rattle.vax_templates.specs.declared.setting.Own.{Own}
use Rattle.vax_templates.specs.declared.setting.Own.TheVariants as own
use Rattle.vax_templates.specs.declared.setting.Setting.{Setting}
use Rattle.vax_templates.specs.Settings.{hole_at}

-- the constant that a symbol stands for, and also an object's address
abbrev pub constant_of : Hole → ℕ → Result Shape TemplateKind
constant_of hole_kind.Constant i = Ok (Symbol i)
constant_of (hole_kind.Literal n) i = Ok (Constant n)
constant_of h i = Err NotInstr

abbrev pub address_of : Hole → ℕ → Result Shape TemplateKind
address_of hole_kind.Object i = Ok (Symbol i)
address_of h i = constant_of h i

abbrev pub absolute_term : List Hole → Number → Result Shape TemplateKind
absolute_term holes (number.Itself n) = Ok (Constant n)
absolute_term holes (number.Symbol i) = constant_of (hole_at holes i) i

abbrev pub number_term : List Hole → Number → Result Shape TemplateKind
number_term holes (number.Itself n) = Ok (Constant n)
number_term holes (number.Symbol i) = address_of (hole_at holes i) i

-- what `%0` holds, where it is a register with a value
abbrev pub own_value : Own → Option Shape → Result Shape TemplateKind
own_value own.Register (Some t) = Ok t
own_value o t = Err NotInstr

abbrev pub register_of : Hole → ℕ → Result Shape TemplateKind
register_of hole_kind.Register i = Ok (Symbol i)
register_of h i = Err NotInstr

-- what the register holds that a hole spells
abbrev pub register_term : Setting → List Hole → Option Shape → ℕ → Result Shape TemplateKind
register_term s holes zero i = if i == 0 then own_value s.own zero else register_of (hole_at holes i) i
