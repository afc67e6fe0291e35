-- What was judged line by line: what lines before did stays, and nothing stands behind a deed.
use Rattle.std.proofs.Common.{◌≡◌, ℕ, ◌++◌, Bool, false, List, [], ◌∷◌, Option, Ok, refl, sym, ap, subst, ◌∙◌}
use Rattle.std.specs.List.{AllByRecursion}
use Rattle.judging_laws.specs.vax_templates.specs.gg_base.proofs.Facts.{ok_same}
use Rattle.judging_laws.specs.md_reader_pieces.specs.declared.piece.Piece.{Piece}
use Rattle.judging_laws.specs.md_reader_pieces.specs.declared.piece.Line.{Line}
use Rattle.judging_laws.specs.term_core.specs.Shape.{Shape}
use Rattle.judging_laws.specs.sel_terms.specs.Effects.{ActShape}
use Rattle.judging_laws.specs.vax_templates.specs.Deeds.{Ended, Deed}
use Rattle.judging_laws.specs.vax_templates.specs.Progress.{Progress, progressed, at_line, kept}
use Rattle.judging_laws.specs.template_judging.specs.Meaning.{LineDeed}
use Rattle.judging_laws.specs.template_judging.specs.Lines.{judged, lines_judged}
use Rattle.judging_laws.proofs.Binds.{chained}
use Rattle.judging_effects.proofs.Founds.{at_line_is}

pub all_front : {A : Type 0} (P : A → Type 0) (xs ys : List A) → AllByRecursion P (xs ++ ys) → AllByRecursion P xs
all_front P [] ys h = tt
all_front P (x ∷ xs) ys h = (h.0, all_front P xs ys h.1)

pub all_back : {A : Type 0} (P : A → Type 0) (xs ys : List A) → AllByRecursion P (xs ++ ys) → AllByRecursion P ys
all_back P [] ys h = h
all_back P (x ∷ xs) ys h = all_back P xs ys h.1

module _ (did : LineDeed) where
  -- a line that was judged, with the others behind it
  pub record IsJudged (is_first : Bool) (l : Line) (ls : List Line) (p q : Progress) : Type 0 where
    pub deed : Deed
    pub does : did is_first p.own p.last l.pieces ≡ Ok deed
    pub then_so : lines_judged did false (progressed l.line p deed) ls ≡ Ok q

  pub judged_is : (is_first : Bool) (l : Line) (ls : List Line) (p q : Progress) → lines_judged did is_first p (l ∷ ls) ≡ Ok q → IsJudged is_first l ls p q
  judged_is is_first l ls p q e =
      let x = chained (judged did is_first l p) (λ (x : Progress). lines_judged did false x ls) q e in
      let d = chained (at_line l.line (did is_first p.own p.last l.pieces)) (kept l.line p) x.first x.is in
      record {
        deed = d.first;
        does = at_line_is l.line (did is_first p.own p.last l.pieces) d.first d.is;
        then_so = subst (λ y. lines_judged did false y ls ≡ Ok q) (sym (ok_same (progressed l.line p d.first) x.first d.then_so)) x.then_so;
      }

  -- what holds of all that lines read holds of what was read before
  pub reads_before : (P : ℕ × List Shape → Type 0) (ls : List Line) (is_first : Bool) (p q : Progress) → lines_judged did is_first p ls ≡ Ok q → AllByRecursion P q.reads
      → AllByRecursion P p.reads
  reads_before P [] is_first p q e h = subst (λ (x : Progress). AllByRecursion P x.reads) (sym (ok_same p q e)) h
  reads_before P (l ∷ ls) is_first p q e h =
      let j = judged_is is_first l ls p q e in
      all_front P p.reads ((l.line, j.deed.reads) ∷ []) (reads_before P ls false (progressed l.line p j.deed) q j.then_so h)

  pub divisors_before : (P : Shape → Type 0) (ls : List Line) (is_first : Bool) (p q : Progress) → lines_judged did is_first p ls ≡ Ok q → AllByRecursion P q.divisors
      → AllByRecursion P p.divisors
  divisors_before P [] is_first p q e h = subst (λ (x : Progress). AllByRecursion P x.divisors) (sym (ok_same p q e)) h
  divisors_before P (l ∷ ls) is_first p q e h =
      let j = judged_is is_first l ls p q e in
      all_front P p.divisors j.deed.divisors (divisors_before P ls false (progressed l.line p j.deed) q j.then_so h)

  -- nothing stands behind a deed, where no line may
  pub closed : ((is_first : Bool) (held : Option Shape) (deed : ActShape) (ps : List Piece) (d : Deed) → did is_first held (Ended deed) ps ≡ Ok d → ⊥)
      → (ls : List Line) (is_first : Bool) (p q : Progress) (deed : ActShape) → p.last ≡ Ended deed → lines_judged did is_first p ls ≡ Ok q → (ls ≡ []) × (q.last ≡ Ended deed)
  closed none [] is_first p q deed is e = (refl, ap (λ (x : Progress). x.last) (sym (ok_same p q e)) ∙ is)
  closed none (l ∷ ls) is_first p q deed is e =
      let j = judged_is is_first l ls p q e in
      absurd (none is_first p.own deed l.pieces j.deed (subst (λ x. did is_first p.own x l.pieces ≡ Ok j.deed) is j.does))
