-- What an operand is that a rule gives.
use Rattle.std.specs.Prelude.{List, Option, Some, None, Result, Ok, Err}
use Rattle.vax_templates.specs.sel_target.specs.md_reader_pieces.specs.declared.piece.Piece.{Piece}
use Rattle.vax_templates.specs.sel_target.specs.md_reader.specs.declared.types.Kind.{Kind}
use Rattle.vax_templates.specs.sel_target.specs.md_reader.specs.declared.types.Kind.TheVariants as kind
use Rattle.vax_templates.specs.sel_target.specs.sel_terms.specs.Effects.{ActShape}
use Rattle.vax_templates.specs.sel_target.specs.declared.fault.TemplateKind.{TemplateKind}
use Rattle.vax_templates.specs.sel_target.specs.declared.fault.TemplateKind.TheVariants.{NotInstr}
use Rattle.vax_templates.specs.declared.setting.Hole.{Hole}
use Rattle.vax_templates.specs.declared.setting.Setting.{Setting}
use Rattle.vax_templates.specs.Settings.{hole_at}
use Rattle.vax_templates.specs.HoleTerms.{constant_of}
use Rattle.vax_templates.specs.Standing.{Where, ◌>>=◌}
use Rattle.vax_templates.specs.GiveLines.{register_given, number_given, address_given, value_given, place_given}
use Rattle.l32_templates.specs.declared.form.Form.{Form}
use Rattle.l32_templates.specs.declared.form.Form.TheVariants as form
use Rattle.l32_templates.specs.Instructions.{shape_of_pieces}
use Rattle.l32_templates.specs.Standing.{form_where}
use Rattle.l32_templates.specs.Taking.{sourced}

abbrev pub form_number : List Hole → Form → Result ActShape TemplateKind
form_number holes (form.Hole i) = constant_of (hole_at holes i) i >>= number_given
form_number holes f = Err NotInstr

-- what an operand is that a rule of this kind gives
unfoldable pub shape_given : Setting → List Hole → Option Kind → Form → Result ActShape TemplateKind
shape_given s holes (Some kind.Reg) f = form_where s holes None f >>= register_given
shape_given s holes (Some kind.Con) f = form_number holes f
shape_given s holes (Some kind.Ea) f = form_where s holes None f >>= address_given
shape_given s holes (Some (kind.Value z)) f = form_where s holes None f >>= λ (w : Where). sourced s None w z >>= value_given
shape_given s holes (Some (kind.Place z)) f = form_where s holes None f >>= place_given z
shape_given s holes (Some kind.Nothing) f = Err NotInstr
shape_given s holes None f = Err NotInstr

abbrev pub shape_read : Option Form → Result Form TemplateKind
shape_read None = Err NotInstr
shape_read (Some f) = Ok f

abbrev pub given_shape : Setting → List Hole → Option Kind → List Piece → Result ActShape TemplateKind
given_shape s holes k ps = shape_read (shape_of_pieces ps) >>= shape_given s holes k
