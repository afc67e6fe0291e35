-- What a test of two effects says of what is refused.
use Rattle.std.proofs.Common.{◌≡◌, ℕ, Bool, true, false, refl, sym, ap, subst, ◌∙◌, List, Option, Some, None, cond}
use Rattle.std.specs.Prelude.{◌↔◌, IsTrue, Result, Ok}
use Rattle.sel_terms.specs.term_core.specs.declared.facts.Fact.{Fact}
use Rattle.sel_terms.specs.Effects.{EffectShape, norm_effect}
use Rattle.sel_terms.specs.Same.{same_effect}
use Rattle.sel_terms.proofs.Alike.{same_effect_tells}
use Rattle.sel_target.specs.Meaning.{Fault}
use Rattle.sel_parse.specs.declared.fault.ShowFault.{ShowFault}
use Rattle.sel_parse.specs.Shown.{Refusal, Unshown, unlike, compared}
use Rattle.sel_parse.specs.Answers.{Refuses}

abbrev answer : ℕ → EffectShape → EffectShape → Bool → Option Refusal
answer n w f b = cond b None (Some (Unshown n w f))

not_same : (b : Bool) (w f : EffectShape) (r : Bool) → same_effect w f ≡ b → IsTrue r ↔ (w ≡ f) → r ≡ false → b ≡ false
not_same false w f r e t h = refl
not_same true w f r e t h = sym (t.1 ((same_effect_tells w f).0 e)) ∙ h

same_none : (n : ℕ) (w f : EffectShape) (r : Bool) → IsTrue r ↔ (w ≡ f) → r ≡ true → unlike n w f ≡ None
same_none n w f r t e = ap (answer n w f) ((same_effect_tells w f).1 (t.0 e))

other_some : (n : ℕ) (w f : EffectShape) (r : Bool) → IsTrue r ↔ (w ≡ f) → r ≡ false → unlike n w f ≡ Some (Unshown n w f)
other_some n w f r t h = ap (answer n w f) (not_same (same_effect w f) w f r refl t h)

pub unlike_none : (n : ℕ) (w f w' f' : EffectShape) (r : Bool) → w ≡ w' → f ≡ f' → IsTrue r ↔ (w ≡ f) → r ≡ true → unlike n w' f' ≡ None
unlike_none n w f w' f' r p q t e =
    subst (λ x. unlike n x f' ≡ None) p (subst (λ y. unlike n w y ≡ None) q (same_none n w f r t e))

pub unlike_some : (n : ℕ) (w f w' f' : EffectShape) (r : Bool) → w ≡ w' → f ≡ f' → IsTrue r ↔ (w ≡ f) → r ≡ false
    → unlike n w' f' ≡ Some (Unshown n w f)
unlike_some n w f w' f' r p q t e =
    subst (λ x. unlike n x f' ≡ Some (Unshown n w f)) p (subst (λ y. unlike n w y ≡ Some (Unshown n w f)) q (other_some n w f r t e))

abbrev found_unlike : ℕ → List Fact → EffectShape → EffectShape → Option Refusal
found_unlike n facts w f = unlike n (norm_effect facts w) (norm_effect facts f)

pub compared_told : (n : ℕ) (facts facts' : List Fact) (w w' f : EffectShape) (o : Result EffectShape Fault) (res : Result Unit ShowFault)
    → Refuses res (found_unlike n facts w f) → facts ≡ facts' → w ≡ w' → o ≡ Ok f → Refuses res (compared n facts' w' o)
compared_told n facts facts' w w' f o res h p q e =
    subst (λ x. Refuses res (compared n facts' w' x)) (sym e)
    (subst (λ x. Refuses res (found_unlike n x w' f)) p (subst (λ x. Refuses res (found_unlike n facts x f)) q h))
