-- What a template does, and the first fault in it, where lines and operands mean what they mean.
use Rattle.std.specs.Prelude.{ℕ, true, List, [], ◌∷◌, Option, None, Result}
use Rattle.md_reader_pieces.specs.declared.piece.Line.{Line}
use Rattle.md_reader.specs.declared.types.Kind.{Kind}
use Rattle.md_reader.specs.declared.types.Class.{Class}
use Rattle.md_reader.specs.declared.types.Give.{Give}
use Rattle.md_reader.specs.declared.types.Rule.{Rule}
use Rattle.md_reader.specs.Patterns.{kind_at}
use Rattle.sel_terms.specs.Effects.{ActShape, EffectShape}
use Rattle.sel_target.specs.Meaning.{Fault}
use Rattle.vax_templates.specs.declared.setting.Hole.{Hole}
use Rattle.vax_templates.specs.declared.setting.Setting.{Setting}
use Rattle.vax_templates.specs.Settings.{holes_of, setting_of, saved_hole, saved_setting}
use Rattle.vax_templates.specs.Standing.{◌>>=◌}
use Rattle.vax_templates.specs.Progress.{Progress, start, at_line}
use Rattle.vax_templates.specs.GiveLines.{given_line}
use Rattle.vax_templates.specs.Found.{with_divisors, checked, saved_give}
use Rattle.template_judging.specs.Meaning.{ShapeGift, LineMeaning}
use Rattle.template_judging.specs.Lines.{lines_judged, given_by}

-- the effect of lines that left this
unfoldable pub ended : ShapeGift → ℕ → Give → Progress → Result EffectShape Fault
ended gives line g p = at_line line (given_by gives p.own p.last g) >>= λ (deed : ActShape). checked p (with_divisors p deed)

unfoldable pub template_found : LineMeaning → Setting → List Hole → Option Kind → List Line → Give → Result EffectShape Fault
template_found of s holes k ls g =
    lines_judged (of.did s holes) true start ls >>= ended (of.gives s holes k) (given_line ls g) g

-- the effect of a rule's template
unfoldable pub found : LineMeaning → List Class → Rule → Result EffectShape Fault
found of classes r =
    template_found of (setting_of classes r) (holes_of classes r.right) (kind_at classes r.left) r.lines r.give

-- the effect of a line that saves what is of this kind, or, for a register, of a line that reloads one
unfoldable pub saved_found : LineMeaning → Kind → Line → Result EffectShape Fault
saved_found of k l = template_found of (saved_setting k) (saved_hole k ∷ []) None (l ∷ []) (saved_give k)
