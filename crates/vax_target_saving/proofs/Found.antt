-- What is found of a template of one line: what the line did, and that the effect has what it read.
use Rattle.std.proofs.Common.{◌≡◌, ℕ, Bool, true, false, cond, Option, Some, None, Result, Ok, Err, List, [], ◌∷◌, refl, subst}
use Rattle.std.specs.List.{list_all}
use Rattle.gg_base.proofs.Facts.{err_ok, ok_same}
use Rattle.md_reader_pieces.specs.declared.piece.Line.{Line}
use Rattle.vax_target_spelling.specs.md_reader.specs.declared.types.Give.TheVariants as give
use Rattle.term_core.specs.Shape.{Shape}
use Rattle.vax_target_spelling.specs.sel_terms.specs.Effects.{ActShape, EffectShape, Value}
use Rattle.vax_target_spelling.specs.sel_target.specs.declared.fault.TemplateKind.{TemplateKind}
use Rattle.vax_target_spelling.specs.vax_templates.specs.declared.setting.Hole.{Hole}
use Rattle.vax_target_spelling.specs.vax_templates.specs.declared.setting.Setting.{Setting}
use Rattle.vax_target_spelling.specs.vax_templates.specs.Standing.{◌>>=◌}
use Rattle.vax_target_spelling.specs.vax_templates.specs.Deeds.{Last, Plain, Ended, Deed}
use Rattle.vax_target_spelling.specs.vax_templates.specs.Judging.{line_did}
use Rattle.vax_target_spelling.specs.vax_templates.specs.Progress.{Progress, start, kept_or_put, at_line, kept, progressed}
use Rattle.vax_target_spelling.specs.vax_templates.specs.GiveLines.{left_value, last_deed, given_line}
use Rattle.vax_target_spelling.specs.vax_templates.specs.Dropped.{effect_contains, first_dropped, none_dropped}
use Rattle.vax_target_spelling.specs.vax_templates.specs.Found.{with_divisors, checked, ended, template_found}

-- a line did this, and its effect is that, in which all stands that it read
pub record LineFound (s : Setting) (holes : List Hole) (l : Line) (e : EffectShape) : Type 0 where
  pub deed : Deed
  pub did : line_did s holes true None Plain l.pieces ≡ Ok deed
  pub divisors : deed.divisors ≡ e.divisors
  pub reads : list_all (effect_contains e) deed.reads ≡ true

pub record StatementFound (s : Setting) (holes : List Hole) (l : Line) (e : EffectShape) : Type 0 where
  pub line : LineFound s holes l e
  pub act : line.deed.last ≡ Ended e.act

pub record ResultFound (s : Setting) (holes : List Hole) (l : Line) (e : EffectShape) : Type 0 where
  pub line : LineFound s holes l e
  pub value : Shape
  pub own : line.deed.own ≡ Some value
  pub act : Value value ≡ e.act

-- what follows where nothing that was read is dropped
kept_reads : (P : EffectShape → Type 0) (e x : EffectShape) (line : ℕ) (reads : List Shape) → none_dropped x (first_dropped x ((line, reads) ∷ [])) ≡ Ok e →
    (list_all (effect_contains x) reads ≡ true → P x) → P e
kept_reads P e x line reads is h = by (list_all (effect_contains x) reads) refl is where
  by : (b : Bool) → list_all (effect_contains x) reads ≡ b → none_dropped x (cond b None (Some line)) ≡ Ok e → P e
  by true all is = subst P (ok_same x e is) (h all)
  by false all is = absurd (err_ok _ e is)

put_is : (o : Option Shape) → o ≡ kept_or_put None o
put_is None = refl
put_is (Some t) = refl

module _ (s : Setting) (holes : List Hole) (l : Line) (e : EffectShape) where
  statement_by : (n : ℕ) (d : Deed) → line_did s holes true None Plain l.pieces ≡ Ok d → (x : Last) → d.last ≡ x →
      (at_line n (last_deed x) >>= λ (deed : ActShape). checked (progressed l.line start d) (with_divisors (progressed l.line start d) deed)) ≡ Ok e → StatementFound s holes l e
  statement_by n d did (Ended deed) last is =
      kept_reads (λ y. StatementFound s holes l y) e (with_divisors (progressed l.line start d) deed) l.line d.reads is
      (λ all. record { line = record { deed = d; did = did; divisors = refl; reads = all }; act = last })
  statement_by n d did _ last is = absurd (err_ok _ e is)

  pub statement_found : template_found s holes None (l ∷ []) give.Nothing ≡ Ok e → StatementFound s holes l e
  unfolding template_found ended
  statement_found is = by (line_did s holes true None Plain l.pieces) refl is where
    by : (r : Result Deed TemplateKind) → line_did s holes true None Plain l.pieces ≡ r →
        (((at_line l.line r >>= kept l.line start) >>= λ (q : Progress). Ok q) >>= ended s holes None (given_line (l ∷ []) give.Nothing) give.Nothing) ≡ Ok e → StatementFound s holes l e
    by (Ok d) did is = statement_by (given_line (l ∷ []) give.Nothing) d did d.last refl is
    by (Err k) did is = absurd (err_ok _ e is)

  result_by : (n : ℕ) (d : Deed) → line_did s holes true None Plain l.pieces ≡ Ok d → (x : Option Shape) → d.own ≡ x →
      (at_line n (left_value x) >>= λ (deed : ActShape). checked (progressed l.line start d) (with_divisors (progressed l.line start d) deed)) ≡ Ok e → ResultFound s holes l e
  result_by n d did (Some t) own is =
      kept_reads (λ y. ResultFound s holes l y) e (with_divisors (progressed l.line start d) (Value t)) l.line d.reads is
      (λ all. record { line = record { deed = d; did = did; divisors = refl; reads = all }; value = t; own = own; act = refl })
  result_by n d did None own is = absurd (err_ok _ e is)

  pub result_found : template_found s holes None (l ∷ []) give.Fresh ≡ Ok e → ResultFound s holes l e
  unfolding template_found ended
  result_found is = by (line_did s holes true None Plain l.pieces) refl is where
    by : (r : Result Deed TemplateKind) → line_did s holes true None Plain l.pieces ≡ r →
        (((at_line l.line r >>= kept l.line start) >>= λ (q : Progress). Ok q) >>= ended s holes None (given_line (l ∷ []) give.Fresh) give.Fresh) ≡ Ok e → ResultFound s holes l e
    by (Ok d) did is = result_by (given_line (l ∷ []) give.Fresh) d did (kept_or_put None d.own) (put_is d.own) is
    by (Err k) did is = absurd (err_ok _ e is)
