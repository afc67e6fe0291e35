-- Steps one after another.
use Rattle.std.proofs.Common.{◌≡◌, ℕ, ◌+◌, ◌≤◌, List, ◌++◌, sym, ap, ◌∙◌, arith, append_assoc}
use Rattle.gg_base.specs.declared.run.End.{End}
use Rattle.gg_base.specs.declared.run.End.TheVariants.{Ended, Trapped, Wild, Deep, Spent, Broken}
use Rattle.gg_base.specs.Runs.{Runs}
use Rattle.gg_base.specs.Follows.{AsksAt}
use Rattle.run_leads.specs.Leads.{Leads}
use Rattle.run_leads.specs.Laws.{LeadsCompose, LeadsAsk, HaltsAnswer}

pub leads_compose : LeadsCompose
leads_compose = record {
  none = λ r.
      let e : (i : ℕ) → 0 + i ≡ i = λ i. omega arith in
      record { output = λ i. ap (λ (k : ℕ). (r k).output) (e i); end = λ i. ap (λ (k : ℕ). (r k).end) (e i) };
  further = λ r s t v w i j h g.
      let same : (k : ℕ) → i + j + k ≡ i + (j + k) = λ k. omega arith in
      record {
        output = λ k. ap (λ (x : ℕ). (r x).output) (same k) ∙ h.output (j + k) ∙ ap (λ (o : List ℕ). v ++ o) (g.output k) ∙ sym (append_assoc v w (t k).output);
        end = λ k. ap (λ (x : ℕ). (r x).end) (same k) ∙ h.end (j + k) ∙ g.end k;
      };
  halts = λ r s v w i j e h g.
      let same : (k : ℕ) → i + j + k ≡ i + (j + k) = λ k. omega arith in
      record {
        output = λ k. ap (λ (x : ℕ). (r x).output) (same k) ∙ h.output (j + k) ∙ ap (λ (o : List ℕ). v ++ o) (g.output k);
        end = λ k. ap (λ (x : ℕ). (r x).end) (same k) ∙ h.end (j + k) ∙ g.end k;
      };
}

module _ (r s : Runs) (w : List ℕ) (count : ℕ) (h : Leads r w count s) where
  written : (i : ℕ) (o : List ℕ) → (s i).output ≡ o → (r (count + i)).output ≡ w ++ o
  written i o e = h.output i ∙ ap (λ (l : List ℕ). w ++ l) e

  asked : (i j : ℕ) → j ≤ count + i → (e : End) (o : List ℕ) → AsksAt i e o s → AsksAt j e (w ++ o) r
  asked i j le (Ended v) o a = (count + a.0, written a.0 o a.1, h.end a.0 ∙ a.2)
  asked i j le Trapped o a = (count + a.0, written a.0 o a.1, h.end a.0 ∙ a.2)
  asked i j le Spent o a = (count + a.0, written a.0 o a.1, h.end a.0 ∙ a.2, omega (arith, a.3, le))
  asked i j le Wild o a = (count + a.0, written a.0 o a.1)
  asked i j le Deep o a = (count + a.0, written a.0 o a.1)
  asked i j le (Broken k) o a = tt

pub leads_ask : LeadsAsk
leads_ask r s w count h i j le e o a = asked r s w count h i j le e o a

pub halts_answer : HaltsAnswer
halts_answer = record {
  ended = λ r w count i v h. (count + 0, h.output 0, h.end 0);
  trapped = λ r w count i h. (count + 0, h.output 0, h.end 0);
}
