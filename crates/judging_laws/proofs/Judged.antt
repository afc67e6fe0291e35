-- What holds of a template because it holds of each of its lines, or of its shape.
use Rattle.std.proofs.Common.{◌≡◌, ℕ, suc, ◌≤◌, Bool, true, false, Option, Some, None, Result, Ok, Err, List, [], ◌∷◌, ◌++◌, length, refl, sym, ap, subst, arith}
use Rattle.std.proofs.lemmas.Bool.{true≢false}
use Rattle.vax_templates.specs.gg_base.proofs.Facts.{err_ok}
use Rattle.vax_templates.specs.md_reader_pieces.specs.declared.piece.Line.{Line}
use Rattle.vax_templates.specs.md_reader.specs.declared.types.Kind.{Kind}
use Rattle.vax_templates.specs.md_reader.specs.declared.types.Kind.TheVariants as kind
use Rattle.vax_templates.specs.md_reader.specs.declared.types.Give.{Give}
use Rattle.vax_templates.specs.md_reader.specs.declared.types.Give.TheVariants as give
use Rattle.vax_templates.specs.term_core.specs.Shape.{Shape}
use Rattle.vax_templates.specs.sel_terms.specs.Effects.{ActShape, EffectShape}
use Rattle.vax_templates.specs.sel_target.specs.declared.fault.TemplateKind.{TemplateKind}
use Rattle.vax_templates.specs.sel_target.specs.Meaning.{Fault}
use Rattle.vax_templates.specs.declared.setting.Hole.{Hole}
use Rattle.vax_templates.specs.declared.setting.Setting.{Setting}
use Rattle.vax_templates.specs.Standing.{◌>>=◌}
use Rattle.vax_templates.specs.Deeds.{Plain, Deed}
use Rattle.vax_templates.specs.Progress.{Progress, start, progressed, at_line, kept}
use Rattle.vax_templates.specs.GiveLines.{given_line}
use Rattle.vax_templates.specs.Dropped.{first_dropped, none_dropped}
use Rattle.vax_templates.specs.Found.{with_divisors, checked}
use Rattle.template_judging.specs.Meaning.{LineMeaning}
use Rattle.template_judging.specs.Lines.{judged, lines_judged, given_by}
use Rattle.template_judging.specs.Found.{ended, template_found}
use Rattle.judging_laws.specs.Each.{EachOk}
use Rattle.judging_laws.specs.Laws.{InOrder, OfEachLine, GivesNoNothing}
use Rattle.judging_laws.proofs.Parts.{bind_each, always_ok, still_ok, of_ok}

pub at_its_line : {A : Type 0} (P : Type 0) (line : ℕ) (r : Result A TemplateKind) → EachOk (λ (x : A). P) r → EachOk (λ (x : A). P) (at_line line r)
at_its_line P line (Ok x) h = h
at_its_line P line (Err e) h = tt

module _ (of : LineMeaning) (s : Setting) (holes : List Hole) where
  -- ---- lines

  -- what holds of what is left so far, and is kept by each line, holds behind all lines
  module _ (I : Bool → Progress → Type 0) (J : Bool → Deed → Type 0) (Q : Progress → Type 0) (each : OfEachLine of J)
      (step : (is_first : Bool) (line : ℕ) (p : Progress) (d : Deed) → I is_first p → J is_first d → I false (progressed line p d))
      (out : (is_first : Bool) (p : Progress) → I is_first p → Q p) where
    kept_so : (is_first : Bool) (line : ℕ) (p : Progress) (r : Result Deed TemplateKind) → I is_first p → EachOk (J is_first) r → EachOk (I false) (at_line line r >>= kept line p)
    kept_so is_first line p (Ok d) h j = step is_first line p d h j
    kept_so is_first line p (Err e) h j = tt

    pub lines_keep : (ls : List Line) (is_first : Bool) (p : Progress) → I is_first p → EachOk Q (lines_judged (of.did s holes) is_first p ls)
    lines_keep [] is_first p h = out is_first p h
    lines_keep (l ∷ ls) is_first p h =
        bind_each (I false) Q (judged (of.did s holes) is_first l p) (λ (q : Progress). lines_judged (of.did s holes) false q ls)
        (λ q k. lines_keep ls false q k)
        (kept_so is_first l.line p (of.did s holes is_first p.own p.last l.pieces) h (each s holes is_first p.own p.last l.pieces))

    -- and so it holds of the template
    pub template_keeps : (P : EffectShape → Type 0) (k : Option Kind) (ls : List Line) (g : Give) (e : EffectShape) → I true start
        → ((q : Progress) → Q q → EachOk P (ended (of.gives s holes k) (given_line ls g) g q)) → template_found of s holes k ls g ≡ Ok e → P e
    unfolding template_found
    template_keeps P k ls g e begin end is =
        of_ok P (lines_judged (of.did s holes) true start ls >>= ended (of.gives s holes k) (given_line ls g) g) e is
        (bind_each Q P (lines_judged (of.did s holes) true start ls) (ended (of.gives s holes k) (given_line ls g) g) end (lines_keep ls true start begin))

  -- ---- divisions

  -- so far at most one division, and none before the first line
  record Fewest (is_first : Bool) (p : Progress) : Type 0 where
    once : length p.divisors ≤ 1
    never : is_first ≡ true → p.divisors ≡ []

  length_none : (a b : List Shape) → b ≡ [] → length (a ++ b) ≡ length a
  length_none [] b e = ap length e
  length_none (t ∷ a) b e = ap suc (length_none a b e)

  more_once : (is_first : Bool) (p : Progress) (d : Deed) → Fewest is_first p → InOrder is_first d → length (p.divisors ++ d.divisors) ≤ 1
  more_once true p d h o = subst (λ (ds : List Shape). length (ds ++ d.divisors) ≤ 1) (sym (h.never refl)) o.once
  more_once false p d h o = let e = length_none p.divisors d.divisors (o.never refl) in omega (arith, e, h.once)

  abbrev DividesOnce : EffectShape → Type 0
  DividesOnce e = length e.divisors ≤ 1

  dropped_once : (e : EffectShape) (o : Option ℕ) → DividesOnce e → EachOk DividesOnce (none_dropped e o)
  dropped_once e None h = h
  dropped_once e (Some line) h = tt

  ended_once : (k : Option Kind) (line : ℕ) (g : Give) (p : Progress) → length p.divisors ≤ 1 → EachOk DividesOnce (ended (of.gives s holes k) line g p)
  unfolding ended
  ended_once k line g p h =
      bind_each (λ (x : ActShape). Unit {0}) DividesOnce (at_line line (given_by (of.gives s holes k) p.own p.last g)) (λ (deed : ActShape). checked p (with_divisors p deed))
      (λ deed u. dropped_once (with_divisors p deed) (first_dropped (with_divisors p deed) p.reads) h)
      (always_ok (at_line line (given_by (of.gives s holes k) p.own p.last g)) tt)

  pub template_once : OfEachLine of InOrder → (k : Option Kind) (ls : List Line) (g : Give) (e : EffectShape) → template_found of s holes k ls g ≡ Ok e → DividesOnce e
  template_once each k ls g e is =
      template_keeps Fewest InOrder (λ q. length q.divisors ≤ 1) each
      (λ is_first line p d h o. record { once = more_once is_first p d h o; never = λ f. absurd (true≢false (sym f)) })
      (λ is_first p h. h.once)
      DividesOnce k ls g e (record { once = omega arith; never = λ f. refl }) (λ q h. ended_once k (given_line ls g) g q h) is

  -- ---- a statement has a line

  nothing_given : GivesNoNothing of → (g : Give) → EachOk (λ (x : ActShape). ⊥) (given_by (of.gives s holes (Some kind.Nothing)) None Plain g)
  nothing_given none give.Fresh = tt
  nothing_given none give.Reuse = tt
  nothing_given none give.Scratch = tt
  nothing_given none give.Nothing = tt
  nothing_given none (give.Shape l) = none s holes l.pieces

  no_lines : GivesNoNothing of → (g : Give) (e : EffectShape) → template_found of s holes (Some kind.Nothing) [] g ≡ Ok e → ⊥
  unfolding template_found ended
  no_lines none g e is = by (given_by (of.gives s holes (Some kind.Nothing)) None Plain g) (nothing_given none g) is where
    by : (r : Result ActShape TemplateKind) → EachOk (λ (x : ActShape). ⊥) r →
        (at_line (given_line [] g) r >>= λ (deed : ActShape). checked start (with_divisors start deed)) ≡ Ok e → ⊥
    by (Ok x) h is = h
    by (Err k) h is = err_ok _ e is

  pub some_line : GivesNoNothing of → (ls : List Line) (g : Give) (e : EffectShape) → template_found of s holes (Some kind.Nothing) ls g ≡ Ok e → 1 ≤ length ls
  some_line none [] g e is = absurd (no_lines none g e is)
  some_line none (l ∷ ls) g e is = omega arith

  -- ---- a shape

  -- what follows from a right shape follows from the template
  pub of_shape : (k : Option Kind) (ls : List Line) (l : Line) (e : EffectShape) (P : Type 0) →
      EachOk (λ (x : ActShape). P) (of.gives s holes k l.pieces) → template_found of s holes k ls (give.Shape l) ≡ Ok e → P
  unfolding template_found ended
  of_shape k ls l e P h is =
      of_ok (λ (x : EffectShape). P) (lines_judged (of.did s holes) true start ls >>= ended (of.gives s holes k) (given_line ls (give.Shape l)) (give.Shape l)) e is
      (ends (lines_judged (of.did s holes) true start ls)) where
        ends : (r : Result Progress Fault) → EachOk (λ (x : EffectShape). P) (r >>= ended (of.gives s holes k) (given_line ls (give.Shape l)) (give.Shape l))
        ends (Ok p) =
            still_ok P (at_line (given_line ls (give.Shape l)) (of.gives s holes k l.pieces)) (λ (deed : ActShape). checked p (with_divisors p deed))
            (at_its_line P (given_line ls (give.Shape l)) (of.gives s holes k l.pieces) h)
        ends (Err e) = tt
