-- The stages of a template as the code holds their parts.
use Rattle.std.specs.Prelude.{Bool, List, Option, Result}
use Rattle.std.specs.Global.{Box}
use Rattle.md_reader_pieces.specs.declared.piece.Piece.{Piece}
use Rattle.term_core.specs.declared.term.Term.{Term}
use Rattle.sel_target.specs.declared.fault.TemplateKind.{TemplateKind}
use Rattle.vax_templates.specs.declared.setting.Hole.{Hole}
use Rattle.vax_templates.specs.declared.setting.Setting.{Setting}
use Rattle.vax_templates.specs.Deeds.{Deed}
use Rattle.vax_templates.specs.Judging.{instruction_did, line_did}
use Rattle.vax_target_forms.specs.declared.instruction.LineInstruction.{LineInstruction}
use Rattle.vax_target_forms.specs.Views.{instruction_view}
use Rattle.vax_target_taking.specs.Views.{term_of}
use Rattle.template_judging.specs.declared.step.Before.{Before}
use Rattle.template_judging.specs.Views.{last_of}

abbrev pub did_after : Setting → List Hole → Bool → Option (Box Term) → Before → LineInstruction → Result Deed TemplateKind
did_after s holes is_first zero before i = instruction_did s holes is_first (term_of zero) (last_of before) (instruction_view i)

abbrev pub line_after : Setting → List Hole → Bool → Option (Box Term) → Before → List Piece → Result Deed TemplateKind
line_after s holes is_first zero before pieces = line_did s holes is_first (term_of zero) (last_of before) pieces
