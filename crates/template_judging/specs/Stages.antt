-- The stages of a template as the code holds their parts.
use Rattle.std.specs.Prelude.{ℕ, Bool, List, Option, Result}
use Rattle.std.specs.Global.{Box}
use Rattle.md_reader_pieces.specs.declared.piece.Line.{Line}
use Rattle.md_reader_pieces.specs.declared.piece.Piece.{Piece}
use Rattle.term_core.specs.declared.term.Term.{Term}
use Rattle.sel_terms.specs.Effects.{ActShape}
use Rattle.sel_target.specs.declared.fault.TemplateKind.{TemplateKind}
use Rattle.sel_target.specs.Meaning.{Fault}
use Rattle.vax_templates.specs.declared.setting.Hole.{Hole}
use Rattle.vax_templates.specs.Settings.{hole_at}
use Rattle.vax_templates.specs.HoleTerms.{constant_of}
use Rattle.vax_templates.specs.Standing.{◌>>=◌}
use Rattle.vax_templates.specs.Deeds.{Deed}
use Rattle.vax_templates.specs.GiveLines.{number_given}
use Rattle.vax_templates.specs.Progress.{Progress}
use Rattle.vax_target_taking.specs.Views.{term_of}
use Rattle.template_judging.specs.declared.step.Before.{Before}
use Rattle.template_judging.specs.declared.found.Run.{Run}
use Rattle.template_judging.specs.Meaning.{LineDeed}
use Rattle.template_judging.specs.Lines.{judged}
use Rattle.template_judging.specs.Views.{last_of, progress_of}

abbrev pub line_after : LineDeed → Bool → Option (Box Term) → Before → List Piece → Result Deed TemplateKind
line_after did is_first zero before pieces = did is_first (term_of zero) (last_of before) pieces

abbrev pub judged_run : LineDeed → Bool → Line → Run → Result Progress Fault
judged_run did is_first l r = judged did is_first l (progress_of r)

-- a rule gives the constant that a symbol stands for
abbrev pub constant_given : List Hole → ℕ → Result ActShape TemplateKind
constant_given holes i = constant_of (hole_at holes i) i >>= number_given
