-- What a template does, and the first fault in it.
-- This is how the code computes it; that instructions do so is the law vax_is_lawful of vax_target_laws.
use Rattle.std.specs.Prelude.{ℕ, true, List, [], ◌∷◌, Option, None, Result, if◌then◌else◌}
use Rattle.sel_target.specs.md_reader_pieces.specs.declared.piece.Line.{Line}
use Rattle.sel_target.specs.md_reader.specs.declared.types.Kind.{Kind}
use Rattle.sel_target.specs.md_reader.specs.declared.types.Class.{Class}
use Rattle.sel_target.specs.md_reader.specs.declared.types.Give.{Give}
use Rattle.sel_target.specs.md_reader.specs.declared.types.Give.TheVariants as give
use Rattle.sel_target.specs.md_reader.specs.declared.types.Rule.{Rule}
use Rattle.sel_target.specs.md_reader.specs.Patterns.{kind_at}
use Rattle.sel_target.specs.sel_terms.specs.Effects.{ActShape, EffectShape}
use Rattle.sel_target.specs.Meaning.{Fault}
use Rattle.vax_templates.specs.declared.setting.Hole.{Hole}
use Rattle.vax_templates.specs.declared.setting.Setting.{Setting}
use Rattle.vax_templates.specs.Settings.{holes_of, setting_of, saved_hole, saved_setting, is_reload}
use Rattle.vax_templates.specs.Standing.{◌>>=◌}
use Rattle.vax_templates.specs.Progress.{Progress, start, at_line, lines_judged}
use Rattle.vax_templates.specs.GiveLines.{given_by, given_line}
use Rattle.vax_templates.specs.Dropped.{first_dropped, none_dropped}

abbrev pub with_divisors : Progress → ActShape → EffectShape
with_divisors p deed = record { act = deed; divisors = p.divisors }

abbrev pub checked : Progress → EffectShape → Result EffectShape Fault
checked p e = none_dropped e (first_dropped e p.reads)

-- the effect of lines that left this
unfoldable pub ended : Setting → List Hole → Option Kind → ℕ → Give → Progress → Result EffectShape Fault
ended s holes k line g p =
    at_line line (given_by s holes k p.own p.last g) >>= λ (deed : ActShape). checked p (with_divisors p deed)

unfoldable pub template_found : Setting → List Hole → Option Kind → List Line → Give → Result EffectShape Fault
template_found s holes k ls g = lines_judged s holes true start ls >>= ended s holes k (given_line ls g) g

-- the effect of a rule's template
unfoldable pub found : List Class → Rule → Result EffectShape Fault
found classes r = template_found (setting_of classes r) (holes_of classes r.right) (kind_at classes r.left) r.lines r.give

-- a reload line gives a register, another one saves
abbrev pub saved_give : Kind → Give
saved_give k = if is_reload k then give.Fresh else give.Nothing

-- the effect of a line that saves what is of this kind, or, for a register, of a line that reloads one
unfoldable pub saved_found : Kind → Line → Result EffectShape Fault
saved_found k l = template_found (saved_setting k) (saved_hole k ∷ []) None (l ∷ []) (saved_give k)
