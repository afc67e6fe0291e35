-- The stages of an operand as the code holds their parts.
use Rattle.std.specs.Prelude.{ℕ, List, Option, Result}
use Rattle.std.specs.Global.{Box}
use Rattle.term_core.specs.declared.term.Term.{Term}
use Rattle.term_core.specs.Shape.{Shape}
use Rattle.vax_templates.specs.sel_target.specs.declared.fault.TemplateKind.{TemplateKind}
use Rattle.vax_core.specs.declared.op.OperandKind.{OperandKind}
use Rattle.vax_templates.specs.declared.form.Form.{Form}
use Rattle.vax_templates.specs.declared.form.Number.{Number}
use Rattle.vax_templates.specs.declared.setting.Hole.{Hole}
use Rattle.vax_templates.specs.declared.setting.Setting.{Setting}
use Rattle.vax_templates.specs.HoleTerms.{number_term, register_term}
use Rattle.vax_templates.specs.Standing.{displaced}
use Rattle.vax_templates.specs.Taking.{Arguments, all_evaluated}
use Rattle.vax_target_taking.specs.Views.{term_of}

abbrev pub sum_of : Setting → List Hole → Option (Box Term) → Number → ℕ → Result Shape TemplateKind
sum_of s holes zero n i = displaced (number_term holes n) (register_term s holes (term_of zero) i)

abbrev pub taken_of_all : Setting → List Hole → Option (Box Term) → List OperandKind → List Form → Result Arguments TemplateKind
taken_of_all s holes zero kinds forms = all_evaluated s holes (term_of zero) kinds forms
