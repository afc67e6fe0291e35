-- What follows a run that comes to an end.
use Rattle.std.proofs.Common.{◌≡◌, ℕ, List, refl, sym, ap, subst, ◌∙◌, inl, inr, arith}
use Rattle.std.proofs.Math.Logic.{∥∥₁_map, ∥∥₁_elim}
use Rattle.std.specs.Prelude.{◌⊎◌}
use Rattle.std.specs.Coded.{Coded-set, coded_ℕ, coded_list}
use Rattle.std.proofs.lemmas.Bool.{cases_lt}
use Rattle.gg_base.specs.declared.run.End.{End}
use Rattle.gg_base.specs.declared.run.End.TheVariants.{Ended, Trapped, Wild, Deep, Spent, Broken}
use Rattle.gg_base.specs.Runs.{Outcome, Runs, OneEnd}
use Rattle.gg_base.specs.Follows.{IsLost, GetsLost, Says, Tells, Follows}
use Rattle.gg_base.proofs.Facts.{no_prop}
use Rattle.gg_load_meaning.specs.Run.{ComesTo}
use Rattle.cmd_load_runs.specs.Sides.{EndsLike}

-- A run that comes to an end with a value.
module _ (a : Runs) (o : Outcome) (value : ℕ) (comes : ComesTo a o) (end_is : o.end ≡ Ended value) where
  -- what it says is spent, or the outcome
  said : (n : ℕ) → ((a n).end ≡ Spent) ⊎ (a n ≡ o)
  said n = elim (cases_lt n o.number) [ inl low ↦ inl (comes.before n low) | inr high ↦ inr (comes.reaches n high) ]

  not_lost : (n : ℕ) → IsLost (a n).end → ⊥
  not_lost n lost =
      elim (said n) [ inl e ↦ subst IsLost e lost | inr e ↦ subst IsLost (ap (λ (x : Outcome). x.end) e ∙ end_is) lost ]

  -- where it says an end with a value, that is the outcome's
  says_it : (output : List ℕ) (s : ℕ) → Says a output (Ended s) → (output ≡ o.output) × (s ≡ value)
  says_it output s (n, written, end) = elim (said n) [
    | inl e ↦ absurd (let f : Spent ≡ Ended s = sym e ∙ end in cc)
    | inr e ↦ (
      sym written ∙ ap (λ (x : Outcome). x.output) e,
      let f : Ended s ≡ Ended value = sym end ∙ ap (λ (x : Outcome). x.end) e ∙ end_is in cc,
    )
  ]

  never_trapped : (output : List ℕ) → Says a output Trapped → ⊥
  never_trapped output (n, written, end) = elim (said n) [
    | inl e ↦ let f : Spent ≡ Trapped = sym e ∙ end in cc
    | inr e ↦ let f : Trapped ≡ Ended value = sym end ∙ ap (λ (x : Outcome). x.end) e ∙ end_is in cc
  ]

  never_lost : GetsLost a → ⊥
  never_lost lost = not_lost lost.0 lost.1

  says_or_lost : (output : List ℕ) (s : ℕ) → Says a output (Ended s) ⊎ GetsLost a → (output ≡ o.output) × (s ≡ value)
  says_or_lost output s (inl h) = says_it output s h
  says_or_lost output s (inr h) = absurd (never_lost h)

  trapped_or_lost : (output : List ℕ) → Says a output Trapped ⊎ GetsLost a → ⊥
  trapped_or_lost output (inl h) = never_trapped output h
  trapped_or_lost output (inr h) = never_lost h

  -- what the end of a follower tells
  told : (end : End) (output : List ℕ) → ∥ Tells end output a ∥₁ → (end ≡ Spent → ⊥) → (output ≡ o.output) × (end ≡ Ended value)
  told (Ended s) output t unspent = (
    ∥∥₁_elim t (Coded-set (coded_list coded_ℕ) _ _) (λ h. (says_or_lost output s h).0),
    ap (λ (x : ℕ). Ended x) (∥∥₁_elim t (Coded-set coded_ℕ _ _) (λ h. (says_or_lost output s h).1)),
  )
  told Trapped output t unspent = absurd (∥∥₁_elim t no_prop (trapped_or_lost output))
  told Spent output t unspent = absurd (unspent refl)
  told _ output t unspent = absurd (∥∥₁_elim t no_prop never_lost)

  pub ends_like : (b : Runs) → ∥ Follows a b ∥₁ → OneEnd b → EndsLike b o value
  ends_like b follows one n unspent =
      let e = told (b n).end (b n).output (∥∥₁_map follows (λ f. f.backward n)) unspent in
      let same : b (b n).number ≡ b n = one.stays (b n).number n unspent (omega arith) in
      let is : b n ≡ record { output = o.output; end = Ended value; number = (b n).number } =
      λ i. record { output = e.0 i; end = e.1 i; number = (b n).number } in
      record { is = is; at = record { ends = same ∙ is; least = λ m low. one.before m n low } }
