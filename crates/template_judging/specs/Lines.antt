-- What the lines of a template leave, one behind another, where a line does what it does, and what the template gives.
use Rattle.std.specs.Prelude.{Bool, false, List, [], ◌∷◌, Option, Result, Ok}
use Rattle.md_reader_pieces.specs.declared.piece.Line.{Line}
use Rattle.md_reader.specs.declared.types.Give.{Give}
use Rattle.md_reader.specs.declared.types.Give.TheVariants as give
use Rattle.term_core.specs.Shape.{Shape}
use Rattle.sel_terms.specs.Effects.{ActShape}
use Rattle.sel_target.specs.declared.fault.TemplateKind.{TemplateKind}
use Rattle.sel_target.specs.Meaning.{Fault}
use Rattle.vax_templates.specs.Standing.{◌>>=◌}
use Rattle.vax_templates.specs.Deeds.{Last}
use Rattle.vax_templates.specs.Progress.{Progress, at_line, kept}
use Rattle.vax_templates.specs.GiveLines.{left_value, last_deed}
use Rattle.template_judging.specs.Meaning.{LineDeed, ShapeGift}

-- what is left behind a line
abbrev pub judged : LineDeed → Bool → Line → Progress → Result Progress Fault
judged did is_first l p = at_line l.line (did is_first p.own p.last l.pieces) >>= kept l.line p

abbrev pub lines_judged : LineDeed → Bool → Progress → List Line → Result Progress Fault
lines_judged did is_first p [] = Ok p
lines_judged did is_first p (l ∷ ls) = judged did is_first l p >>= λ (q : Progress). lines_judged did false q ls

-- what a template did, by what it gives, where this is left in `%0` and that by the last line
abbrev pub given_by : ShapeGift → Option Shape → Last → Give → Result ActShape TemplateKind
given_by gives zero l give.Fresh = left_value zero
given_by gives zero l give.Reuse = left_value zero
given_by gives zero l give.Scratch = last_deed l
given_by gives zero l give.Nothing = last_deed l
given_by gives zero l (give.Shape shape) = gives shape.pieces
