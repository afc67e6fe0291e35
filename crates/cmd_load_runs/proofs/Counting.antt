-- Runs whose outputs and numbers are kept while they go on.
use Rattle.std.proofs.Common.{◌≡◌, ℕ, suc, ◌+◌, ◌-◌, ◌<◌, List, [], ◌∷◌, ◌++◌, refl, sym, ap, ◌∙◌, arith, append_assoc}
use Rattle.gg_base.specs.Runs.{Outcome, byte_first, one_first}
use Rattle.vax_machine.specs.declared.turn.Turn.TheVariants as turns
use Rattle.vax_machine.specs.declared.turn.Stop.TheVariants as stops
use Rattle.vax_machine.specs.State.{State}
use Rattle.vax_machine.specs.Step.{Next, Goes, Writes, Stops, step_of, IsStep}
use Rattle.vax_machine.specs.Running.{behind, steps}
use Rattle.vax_machine.proofs.Stepping.{one_step}

-- what was written and counted so far, and what is left, make the whole
pub record Stands (whole : Outcome) (out : List ℕ) (done : ℕ) (rest : Outcome) : Type 0 where
  pub output : whole.output ≡ out ++ rest.output
  pub end : whole.end ≡ rest.end
  pub number : whole.number ≡ done + rest.number

-- one moment was counted
counted : (whole : Outcome) (out : List ℕ) (done : ℕ) (rest next : Outcome) → rest ≡ one_first next → Stands whole out done rest → Stands whole out (done + 1) next
counted whole out done rest next e h =
    let n : rest.number ≡ suc next.number = ap (λ (o : Outcome). o.number) e in
    record {
      output = h.output ∙ ap (λ (o : Outcome). out ++ o.output) e;
      end = h.end ∙ ap (λ (o : Outcome). o.end) e;
      number = omega (arith, h.number, n);
    }

-- a byte was written
written : (whole : Outcome) (out : List ℕ) (done b : ℕ) (rest next : Outcome) → rest ≡ byte_first b next → Stands whole out done rest → Stands whole (out ++ b ∷ []) done next
written whole out done b rest next e h = record {
  output = h.output ∙ ap (λ (o : Outcome). out ++ o.output) e ∙ sym (append_assoc out (b ∷ []) next.output);
  end = h.end ∙ ap (λ (o : Outcome). o.end) e;
  number = h.number ∙ ap (λ (o : Outcome). done + o.number) e;
}

-- ---- the steps of a machine

going : (m : State) (k : ℕ) (x : Next) → IsStep turns.Going m x → behind x (steps k) ≡ steps k m
going m k (Goes n) step = ap (λ (s : State). steps k s) (sym step.1)
going m k (Writes b n) step = absurd (let e = step.0 in cc)
going m k (Stops (stops.Ended v)) step = absurd (let e = step.0 in cc)
going m k (Stops stops.Trapped) step = absurd (let e = step.0 in cc)
going m k (Stops (stops.Broken kind)) step = absurd (let e = step.0 in cc)

wrote : (m : State) (k b : ℕ) (x : Next) → IsStep (turns.Wrote b) m x → behind x (steps k) ≡ byte_first b (steps k m)
wrote m k b (Goes n) step = absurd (let e = step.0 in cc)
wrote m k b (Writes c n) step =
    let e = step.0 in
    let byte : c ≡ b = cc in
    ap (λ (s : State). byte_first c (steps k s)) (sym step.1) ∙ ap (λ (d : ℕ). byte_first d (steps k m)) byte
wrote m k b (Stops (stops.Ended v)) step = absurd (let e = step.0 in cc)
wrote m k b (Stops stops.Trapped) step = absurd (let e = step.0 in cc)
wrote m k b (Stops (stops.Broken kind)) step = absurd (let e = step.0 in cc)

-- so many steps of at most n are done
abbrev pub Does : Outcome → ℕ → List ℕ → ℕ → State → Type 0
Does whole n out i m = Stands whole out i (steps (n - i) m)

pub went : (whole : Outcome) (n i : ℕ) (out : List ℕ) (m m' : State) → i < n → IsStep turns.Going m' (step_of m) → Does whole n out i m → Does whole n out (i + 1) m'
went whole n i out m m' lt step h =
    counted whole out i _ _ (one_step m n i lt ∙ ap one_first (going m' (n - (i + 1)) (step_of m) step)) h

pub put : (whole : Outcome) (n i b : ℕ) (out : List ℕ) (m m' : State) → i < n → IsStep (turns.Wrote b) m' (step_of m) → Does whole n out i m →
    Does whole n (out ++ b ∷ []) (i + 1) m'
put whole n i b out m m' lt step h =
    written whole out (i + 1) b _ _ refl
    (counted whole out i _ (byte_first b (steps (n - (i + 1)) m')) (one_step m n i lt ∙ ap one_first (wrote m' (n - (i + 1)) b (step_of m) step)) h)
