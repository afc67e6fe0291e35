-- A machine's lines and operands, as the judging of a template sees them.
use Rattle.std.specs.Prelude.{Bool, List, Option, Result}
use Rattle.md_reader_pieces.specs.declared.piece.Piece.{Piece}
use Rattle.md_reader.specs.declared.types.Kind.{Kind}
use Rattle.term_core.specs.Shape.{Shape}
use Rattle.sel_terms.specs.Effects.{ActShape}
use Rattle.sel_target.specs.declared.fault.TemplateKind.{TemplateKind}
use Rattle.vax_templates.specs.declared.setting.Hole.{Hole}
use Rattle.vax_templates.specs.declared.setting.Setting.{Setting}
use Rattle.vax_templates.specs.Deeds.{Last, Deed}

-- what a line does: whether it is the first, what `%0` holds, and what the line before left
abbrev pub LineDeed : Type 0
LineDeed = Bool → Option Shape → Last → List Piece → Result Deed TemplateKind

-- what an operand is that a rule gives
abbrev pub ShapeGift : Type 0
ShapeGift = List Piece → Result ActShape TemplateKind

-- the same of each template, by what its lines may do, what its holes stand for, and the kind of its rule
pub record LineMeaning : Type 0 where
  pub did : Setting → List Hole → LineDeed
  pub gives : Setting → List Hole → Option Kind → ShapeGift
