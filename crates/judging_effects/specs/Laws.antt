-- How a template was judged that has an effect, on any machine, and that what its lines read stands in the effect.
use Rattle.std.specs.Prelude.{◌≡◌, ℕ, Bool, true, List, Option, None, Ok}
use Rattle.std.specs.List.{AllByRecursion}
use Rattle.judging_laws.specs.md_reader_pieces.specs.declared.piece.Line.{Line}
use Rattle.judging_laws.specs.md_reader.specs.declared.types.Kind.{Kind}
use Rattle.judging_laws.specs.md_reader.specs.declared.types.Give.{Give}
use Rattle.judging_laws.specs.term_core.specs.Shape.{Shape}
use Rattle.judging_laws.specs.sel_terms.specs.Effects.{ActShape, EffectShape}
use Rattle.judging_laws.specs.sel_target.specs.Values.{View, IsReadWhere}
use Rattle.judging_laws.specs.sel_target.specs.EffectTerms.{terms_of}
use Rattle.judging_laws.specs.vax_templates.specs.declared.setting.Hole.{Hole}
use Rattle.judging_laws.specs.vax_templates.specs.declared.setting.Setting.{Setting}
use Rattle.judging_laws.specs.vax_templates.specs.Progress.{Progress, start}
use Rattle.judging_laws.specs.vax_templates.specs.Dropped.{first_dropped}
use Rattle.judging_laws.specs.vax_templates.specs.Found.{with_divisors}
use Rattle.judging_laws.specs.template_judging.specs.Meaning.{LineMeaning}
use Rattle.judging_laws.specs.template_judging.specs.Lines.{lines_judged, given_by}
use Rattle.judging_laws.specs.template_judging.specs.Found.{template_found}

-- how a template was judged
pub record IsFound (of : LineMeaning) (s : Setting) (roles : List Hole) (k : Option Kind) (ls : List Line) (g : Give) (e : EffectShape)
    : Type 0 where
  pub progress : Progress
  pub judged : lines_judged (of.did s roles) true start ls ≡ Ok progress
  pub deed : ActShape
  pub given : given_by (of.gives s roles k) progress.own progress.last g ≡ Ok deed
  pub is : with_divisors progress deed ≡ e
  pub none_dropped_so : first_dropped e progress.reads ≡ None

abbrev pub AllSafe : Bool → View → List Shape → Type 0
AllSafe every v ts = AllByRecursion (λ (t : Shape). IsReadWhere every v t) ts

abbrev pub EachSafe : Bool → View → List (ℕ × List Shape) → Type 0
EachSafe every v rs = AllByRecursion (λ (r : ℕ × List Shape). AllSafe every v r.1) rs

-- a template that has an effect was judged so, and where the effect's terms can be read, all can be that lines read
pub record EffectsHoldReads : Type 0 where
  pub found : (of : LineMeaning) (s : Setting) (roles : List Hole) (k : Option Kind) (ls : List Line) (g : Give) (e : EffectShape)
      → template_found of s roles k ls g ≡ Ok e → IsFound of s roles k ls g e
  pub reads : (every : Bool) (v : View) (e : EffectShape) (rs : List (ℕ × List Shape))
      → first_dropped e rs ≡ None → AllSafe every v (terms_of e) → EachSafe every v rs
