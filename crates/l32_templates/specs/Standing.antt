-- Where an operand of a template stands, on terms, as the machine's operands stand somewhere on numbers. A number is a number alone:
-- an object has no place in it.
use Rattle.std.specs.Prelude.{ℕ, ◌==◌, List, Option, None, Result, Ok, Err, if◌then◌else◌}
use Rattle.vax_templates.specs.term_core.specs.Shape.{Shape, Symbol}
use Rattle.vax_templates.specs.sel_target.specs.declared.fault.TemplateKind.{TemplateKind}
use Rattle.vax_templates.specs.sel_target.specs.declared.fault.TemplateKind.TheVariants.{NotInstr}
use Rattle.vax_templates.specs.declared.setting.Hole.{Hole}
use Rattle.vax_templates.specs.declared.setting.Hole.TheVariants as hole_kind
use Rattle.vax_templates.specs.declared.setting.Setting.{Setting}
use Rattle.vax_templates.specs.Settings.{hole_at}
use Rattle.vax_templates.specs.HoleTerms.{constant_of, absolute_term, register_term}
use Rattle.vax_templates.specs.Standing.{Where, At, ◌>>=◌, where_own, where_hole, where_zero, at, displaced, pointed, negated, itself}
use Rattle.l32_templates.specs.declared.form.Form.{Form}
use Rattle.l32_templates.specs.declared.form.Form.TheVariants as form

-- a local or an argument holds the address itself
abbrev pub where_deferred : Hole → ℕ → Result Where TemplateKind
where_deferred hole_kind.Local i = Ok (At (Symbol i) None)
where_deferred h i = Err NotInstr

-- where an operand stands; `%0` holds a value or none
unfoldable pub form_where : Setting → List Hole → Option Shape → Form → Result Where TemplateKind
form_where s holes zero form.RegisterZero = where_zero s.opening
form_where s holes zero (form.Hole i) = if i == 0 then where_own s.own else where_hole (hole_at holes i) i
form_where s holes zero (form.Immediate n) = absolute_term holes n >>= itself
form_where s holes zero (form.Negative i) = constant_of (hole_at holes i) i >>= negated
form_where s holes zero (form.Displacement n i) = displaced (absolute_term holes n) (register_term s holes zero i) >>= at
form_where s holes zero (form.DisplacementDeferred n i) = displaced (absolute_term holes n) (register_term s holes zero i) >>= pointed
form_where s holes zero (form.Deferred i) = where_deferred (hole_at holes i) i
