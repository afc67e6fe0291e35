-- What holds of templates, of any machine.
use Rattle.std.specs.Prelude.{◌≡◌, ◌≤◌, Bool, false, List, [], length, Option, Some, Ok}
use Rattle.vax_templates.specs.md_reader_pieces.specs.declared.piece.Piece.{Piece}
use Rattle.vax_templates.specs.md_reader_pieces.specs.declared.piece.Line.{Line}
use Rattle.vax_templates.specs.md_reader.specs.declared.types.Kind.{Kind}
use Rattle.vax_templates.specs.md_reader.specs.declared.types.Kind.TheVariants as kind
use Rattle.vax_templates.specs.md_reader.specs.declared.types.Give.{Give}
use Rattle.vax_templates.specs.term_core.specs.Shape.{Shape}
use Rattle.vax_templates.specs.sel_terms.specs.Effects.{ActShape, EffectShape}
use Rattle.vax_templates.specs.declared.setting.Hole.{Hole}
use Rattle.vax_templates.specs.declared.setting.Setting.{Setting}
use Rattle.vax_templates.specs.Deeds.{Last, Deed}
use Rattle.template_judging.specs.Meaning.{LineMeaning}
use Rattle.template_judging.specs.Found.{template_found}
use Rattle.judging_laws.specs.Each.{EachOk}

-- what a line did divides at most once, and not at all behind the first line
pub record InOrder (is_first : Bool) (d : Deed) : Type 0 where
  pub once : length d.divisors ≤ 1
  pub never : is_first ≡ false → d.divisors ≡ []

-- it holds of what any line of any template did
abbrev pub OfEachLine : LineMeaning → (Bool → Deed → Type 0) → Type 0
OfEachLine of P =
    (s : Setting) (holes : List Hole) (is_first : Bool) (zero : Option Shape) (l : Last) (ps : List Piece)
    → EachOk (P is_first) (of.did s holes is_first zero l ps)

-- a template of a rule without a result and without a line is wrong, unless a shape may stand for nothing
abbrev pub GivesNoNothing : LineMeaning → Type 0
GivesNoNothing of =
    (s : Setting) (holes : List Hole) (ps : List Piece) → EachOk (λ (x : ActShape). ⊥) (of.gives s holes (Some kind.Nothing) ps)

pub record JudgingGoesByLines : Type 0 where
  pub divides_once : (of : LineMeaning) → OfEachLine of InOrder → (s : Setting) (holes : List Hole) (k : Option Kind) (ls : List Line)
      (g : Give) (e : EffectShape) → template_found of s holes k ls g ≡ Ok e → length e.divisors ≤ 1
  pub some_line : (of : LineMeaning) → GivesNoNothing of → (s : Setting) (holes : List Hole) (ls : List Line) (g : Give) (e : EffectShape)
      → template_found of s holes (Some kind.Nothing) ls g ≡ Ok e → 1 ≤ length ls
