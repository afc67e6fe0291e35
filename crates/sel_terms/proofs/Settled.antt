-- What a rule says of its symbols is settled: the least symbol that is spelled like another one gives way to none.
use Rattle.std.proofs.Common.{◌≡◌, ℕ, zero, suc, ◌+◌, ◌<◌, ◌≤◌, ◌⊎◌, inl, inr, List, [], ◌∷◌, length, sym, ap, ◌∙◌, refl, subst, arith, length-append, add-one}
use Rattle.std.proofs.lemmas.List.{get_or_push, get_or_append_left, get_or_past}
use Rattle.std.specs.Prelude.{◌==◌, min, max, slice_index_or, if◌then◌else◌}
use Rattle.std.proofs.lemmas.Bool.Decides.{nat_tests}
use Rattle.std.proofs.lemmas.Bool.{cases_lt}
use Rattle.md_reader.specs.declared.types.Class.{Class}
use Rattle.md_reader.specs.declared.types.Rule.{Rule}
use Rattle.md_reader.specs.declared.types.Restriction.{Restriction}
use Rattle.md_reader.specs.declared.types.Restriction.TheVariants as restriction
use Rattle.md_reader.specs.declared.types.Kind.{Kind}
use Rattle.term_core.specs.declared.facts.Fact.{Fact}
use Rattle.term_core.specs.Facts.{same_as}
use Rattle.term_core.specs.Normal.{AreSettled}
use Rattle.sel_terms.specs.RuleFacts.{alike_once, repeated, least_alike, fact_of, facts_below, saved_facts}

lesser_of_two : (i a b : ℕ) → (if i == max a b then min a b else i) ≤ i
lesser_of_two i a b = grind (arith, nat_tests)

once_lesser : (rs : List Restriction) (i : ℕ) → alike_once rs i ≤ i
once_lesser [] i = omega arith
once_lesser (restriction.Same a b ∷ rs) i =
    let h = lesser_of_two i a b in
    let k = once_lesser rs (if i == max a b then min a b else i) in
    omega (arith, h, k)
once_lesser (restriction.Range j low high ∷ rs) i = once_lesser rs i
once_lesser (restriction.Signed j ∷ rs) i = once_lesser rs i

either : (m n : ℕ) → m ≤ n → (m ≡ n) ⊎ (m < n)
either m n h = grind arith

module _ (f : ℕ → ℕ) (lesser : (i : ℕ) → f i ≤ i) where
  -- after so many turns nothing changes, or as many steps downwards were made
  rests_or_sinks : (k n : ℕ) → (f (repeated k f n) ≡ repeated k f n) ⊎ (repeated k f n + k ≤ n)
  rests_or_sinks zero n = inr (omega arith)
  rests_or_sinks (suc k) n = next (repeated k f n) (rests_or_sinks k n)
    where
      next : (r : ℕ) → (f r ≡ r) ⊎ (r + k ≤ n) → (f (f r) ≡ f r) ⊎ (f r + suc k ≤ n)
      next r (inl e) = inl (ap f e)
      next r (inr h) = elim (either (f r) r (lesser r)) [ inl e ↦ inl (ap f e) | inr g ↦ inr (omega arith) ]

  at_rest : (n : ℕ) → f (repeated n f n) ≡ repeated n f n
  at_rest n = elim (rests_or_sinks n n) [ inl e ↦ e | inr h ↦ (let l = lesser (repeated n f n) in omega arith) ]

  stays : (k n : ℕ) → f n ≡ n → repeated k f n ≡ n
  stays zero n e = refl
  stays (suc k) n e = ap f (stays k n e) ∙ e

  sinks : (k n : ℕ) → repeated k f n ≤ n
  sinks zero n = omega arith
  sinks (suc k) n = let h = lesser (repeated k f n) in let l = sinks k n in omega arith

least_again : (rs : List Restriction) (i : ℕ) → least_alike rs (least_alike rs i) ≡ least_alike rs i
least_again rs i =
    stays (alike_once rs) (once_lesser rs) (least_alike rs i) (least_alike rs i) (at_rest (alike_once rs) (once_lesser rs) i)

least_lesser : (rs : List Restriction) (i : ℕ) → least_alike rs i ≤ i
least_lesser rs i = sinks (alike_once rs) (once_lesser rs) i i

module _ (classes : List Class) (rule : Rule) where
  pub facts_count : (k : ℕ) → length (facts_below classes rule k) ≡ k
  facts_count zero = refl
  facts_count (suc k) = length-append (facts_below classes rule k) (fact_of classes rule k ∷ []) ∙ ap (λ n. n + 1) (facts_count k) ∙ add-one k

  same_within : (k i : ℕ) (d : Fact) → i < k → (slice_index_or (facts_below classes rule k) i d).same_as ≡ least_alike rule.restrictions i
  same_within zero i d h = absurd (omega arith)
  same_within (suc k) i d h = elim (either i k (omega arith)) [
    | inl e ↦ ap (λ (x : Fact). x.same_as) (get_or_push (facts_below classes rule k) (fact_of classes rule k) d i (facts_count k ∙ sym e)) ∙ ap (least_alike rule.restrictions) (sym e)
    | inr g ↦ ap (λ (x : Fact). x.same_as) (get_or_append_left (facts_below classes rule k) (fact_of classes rule k ∷ []) d i (subst (λ n. i < n) (sym (facts_count k)) g)) ∙ same_within k i d g
  ]

  same_behind : (k i : ℕ) → k ≤ i → same_as (facts_below classes rule k) i ≡ i
  same_behind k i h = ap (λ (x : Fact). x.same_as) (get_or_past (facts_below classes rule k) i _ (subst (λ n. n ≤ i) (sym (facts_count k)) h))

  pub facts_settled : (k : ℕ) → AreSettled (facts_below classes rule k)
  facts_settled k i = elim (cases_lt i k) [
    | inl h ↦ (let e : same_as (facts_below classes rule k) i ≡ least_alike rule.restrictions i = same_within k i _ h in
        let l = least_lesser rule.restrictions i in
        ap (same_as (facts_below classes rule k)) e ∙ same_within k (least_alike rule.restrictions i) _ (omega arith) ∙ least_again rule.restrictions i ∙ sym e)
    | inr h ↦ ap (same_as (facts_below classes rule k)) (same_behind k i h)
  ]

pub saved_settled : (k : Kind) → AreSettled (saved_facts k)
saved_settled k zero = refl
saved_settled k (suc zero) = refl
saved_settled k (suc (suc i)) = refl
