-- What a template does, and the first fault in it: what any machine's does whose lines and operands mean what L32's do.
use Rattle.std.specs.Prelude.{List, Result}
use Rattle.vax_templates.specs.sel_target.specs.md_reader_pieces.specs.declared.piece.Line.{Line}
use Rattle.vax_templates.specs.sel_target.specs.md_reader.specs.declared.types.Kind.{Kind}
use Rattle.vax_templates.specs.sel_target.specs.md_reader.specs.declared.types.Class.{Class}
use Rattle.vax_templates.specs.sel_target.specs.md_reader.specs.declared.types.Rule.{Rule}
use Rattle.vax_templates.specs.sel_target.specs.sel_terms.specs.Effects.{EffectShape}
use Rattle.vax_templates.specs.sel_target.specs.Meaning.{Fault}
use Rattle.template_judging.specs.Meaning.{LineMeaning}
use Rattle.template_judging.specs.Found.{found as any_found, saved_found as any_saved}
use Rattle.l32_templates.specs.Judging.{line_did}
use Rattle.l32_templates.specs.GiveLines.{given_shape}

-- L32, as the judging of templates sees it
abbrev pub l32_lines : LineMeaning
l32_lines = record { did = line_did; gives = given_shape }

-- the effect of a rule's template
abbrev pub found : List Class → Rule → Result EffectShape Fault
found classes r = any_found l32_lines classes r

-- the effect of a line that saves what is of this kind, or, for a register, of a line that reloads one
abbrev pub saved_found : Kind → Line → Result EffectShape Fault
saved_found k l = any_saved l32_lines k l
