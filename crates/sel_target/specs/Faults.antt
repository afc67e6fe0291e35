-- What the kinds of a template's faults are called.
use Rattle.std.specs.Prelude.{ℕ, List, codes}
use Rattle.sel_target.specs.declared.fault.TemplateKind.{TemplateKind}
use Rattle.sel_target.specs.declared.fault.TemplateKind.TheVariants as template_kind

abbrev pub template_kind_name : TemplateKind → List ℕ
template_kind_name template_kind.NotInstr = codes "NotInstr"
template_kind_name template_kind.WrongSize = codes "WrongSize"
template_kind_name template_kind.Order = codes "Order"
