-- What a template does on the VAX, by its own definitions, is what any machine's does whose lines and operands mean what the VAX's do.
use Rattle.std.specs.Prelude.{ℕ, Bool, true, false, List, [], ◌∷◌, Option, Some, None, Result, Ok, Err}
use Rattle.std.proofs.Common.{◌≡◌, ◌∙◌, refl, ap}
use Rattle.md_reader_pieces.specs.declared.piece.Line.{Line}
use Rattle.md_reader.specs.declared.types.Kind.{Kind}
use Rattle.md_reader.specs.declared.types.Class.{Class}
use Rattle.md_reader.specs.declared.types.Give.{Give}
use Rattle.md_reader.specs.declared.types.Give.TheVariants as give
use Rattle.md_reader.specs.declared.types.Rule.{Rule}
use Rattle.md_reader.specs.Patterns.{kind_at}
use Rattle.term_core.specs.Shape.{Shape}
use Rattle.sel_terms.specs.Effects.{ActShape, EffectShape}
use Rattle.sel_target.specs.declared.fault.TemplateKind.{TemplateKind}
use Rattle.sel_target.specs.Meaning.{Fault}
use Rattle.vax_templates.specs.declared.setting.Hole.{Hole}
use Rattle.vax_templates.specs.declared.setting.Setting.{Setting}
use Rattle.vax_templates.specs.Settings.{holes_of, setting_of, saved_hole, saved_setting}
use Rattle.vax_templates.specs.Standing.{◌>>=◌}
use Rattle.vax_templates.specs.Deeds.{Last}
use Rattle.vax_templates.specs.Judging.{line_did}
use Rattle.vax_templates.specs.Progress.{Progress, start, at_line, judged, lines_judged}
use Rattle.vax_templates.specs.GiveLines.{given_shape, given_by, given_line}
use Rattle.vax_templates.specs.Found.{with_divisors, checked, ended, template_found, found, saved_give, saved_found}
use Rattle.template_judging.specs.Lines.{lines_judged as any_lines, given_by as any_given}
use Rattle.template_judging.specs.Found.{ended as any_ended, template_found as any_template, found as any_found, saved_found as any_saved}
use Rattle.vax_target_judging.specs.Lines.{vax_lines}

behind : {A B E : Type 0} (r : Result A E) (f f' : A → Result B E) → ((x : A) → f x ≡ f' x) → (r >>= f) ≡ (r >>= f')
behind (Ok x) f f' same = same x
behind (Err e) f f' same = refl

lines_are : (s : Setting) (holes : List Hole) (is_first : Bool) (p : Progress) (ls : List Line)
    → any_lines (line_did s holes) is_first p ls ≡ lines_judged s holes is_first p ls
lines_are s holes is_first p [] = refl
lines_are s holes is_first p (l ∷ ls) =
    behind (judged s holes is_first l p) (λ (q : Progress). any_lines (line_did s holes) false q ls) (λ (q : Progress). lines_judged s holes false q ls)
    (λ (q : Progress). lines_are s holes false q ls)

gives_are : (s : Setting) (holes : List Hole) (k : Option Kind) (zero : Option Shape) (l : Last) (g : Give)
    → any_given (given_shape s holes k) zero l g ≡ given_by s holes k zero l g
gives_are s holes k zero l give.Fresh = refl
gives_are s holes k zero l give.Reuse = refl
gives_are s holes k zero l give.Scratch = refl
gives_are s holes k zero l give.Nothing = refl
gives_are s holes k zero l (give.Shape shape) = refl

ended_is : (s : Setting) (holes : List Hole) (k : Option Kind) (line : ℕ) (g : Give) (p : Progress)
    → any_ended (given_shape s holes k) line g p ≡ ended s holes k line g p
unfolding any_ended ended
ended_is s holes k line g p =
    ap (λ (given : Result ActShape TemplateKind). at_line line given >>= λ (deed : ActShape). checked p (with_divisors p deed))
    (gives_are s holes k p.own p.last g)

template_is : (s : Setting) (holes : List Hole) (k : Option Kind) (ls : List Line) (g : Give)
    → any_template vax_lines s holes k ls g ≡ template_found s holes k ls g
unfolding any_template template_found
template_is s holes k ls g =
    ap (λ (r : Result Progress Fault). r >>= any_ended (given_shape s holes k) (given_line ls g) g) (lines_are s holes true start ls)
    ∙ behind (lines_judged s holes true start ls) (any_ended (given_shape s holes k) (given_line ls g) g)
    (ended s holes k (given_line ls g) g) (ended_is s holes k (given_line ls g) g)

pub found_is : (classes : List Class) (r : Rule) → any_found vax_lines classes r ≡ found classes r
unfolding any_found found
found_is classes r = template_is (setting_of classes r) (holes_of classes r.right) (kind_at classes r.left) r.lines r.give

pub saved_is : (k : Kind) (l : Line) → any_saved vax_lines k l ≡ saved_found k l
unfolding any_saved saved_found
saved_is k l = template_is (saved_setting k) (saved_hole k ∷ []) None (l ∷ []) (saved_give k)
