use Rattle.std.proofs.Common.{◌≡◌, List, [], ◌∷◌, None, Result, ◌⊎◌, inl, inr, length, refl, ◌∙◌, arith, ⊎_elim}
use Rattle.sel_target.specs.md_reader_pieces.specs.declared.piece.Line.{Line}
use Rattle.md_reader.specs.declared.types.Kind.{Kind}
use Rattle.sel_terms.specs.Effects.{EffectShape}
use Rattle.sel_target.specs.Meaning.{Fault}
use Rattle.sel_parse.specs.Shown.{lines_refused}
use Rattle.sel_parse.proofs.showing.lines_refused.Goals as goal

none_left : (saved : Kind → Line → Result EffectShape Fault) (kinds : List Kind) (lines : List Line) → (length kinds ≡ 0) ⊎ (length lines ≡ 0) → lines_refused saved kinds lines ≡ None
none_left saved [] lines none = refl
none_left saved (k ∷ kinds) [] none = refl
none_left saved (k ∷ kinds) (l ∷ lines) (inl none) = absurd (omega arith)
none_left saved (k ∷ kinds) (l ∷ lines) (inr none) = absurd (omega arith)

pub returns : goal.returns
returns g c = c.loop-kind.invariant.same ∙ none_left g.T.Templates.meaning.spill_effect _ _ (⊎_elim (λ none. inl none.1.0) (λ none. inr none.1.0) c.in-None.ensures.steps)
