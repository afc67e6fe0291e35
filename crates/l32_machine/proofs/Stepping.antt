-- A run that is done step by step.
use Rattle.std.proofs.Common.{◌≡◌, ℕ, suc, ◌+◌, ◌-◌, ◌<◌, List, [], ◌∷◌, ◌++◌, sym, ap, subst, ◌∙◌, arith, append_assoc}
use Rattle.std.proofs.lemmas.List.{append-nil}
use Rattle.gg_base.specs.declared.run.End.{End}
use Rattle.gg_base.specs.declared.run.End.TheVariants as ends
use Rattle.gg_base.specs.Runs.{Outcome, one_first}
use Rattle.l32_machine.specs.declared.turn.Turn32.{Turn32}
use Rattle.l32_machine.specs.declared.turn.Turn32.TheVariants as turns
use Rattle.l32_machine.specs.declared.turn.Stop32.{Stop32}
use Rattle.l32_machine.specs.declared.turn.Stop32.TheVariants as stops
use Rattle.l32_machine.specs.State.{State}
use Rattle.l32_machine.specs.Step.{Next, Goes, Writes, Stops, step_of, turn_of, IsStep}
use Rattle.l32_machine.specs.Running.{break_of, end_of, behind, steps, Ran}

-- what was written so far and what is left make the whole run
pub record Stands (whole : Outcome) (old out : List ℕ) (rest : Outcome) : Type 0 where
  pub ended : whole.end ≡ rest.end
  pub output : old ++ whole.output ≡ out ++ rest.output

pub one_step : (m : State) (n i : ℕ) → i < n → steps (n - i) m ≡ one_first (behind (step_of m) (steps (n - (i + 1))))
one_step m n i lt = let e : n - i ≡ suc (n - (i + 1)) = omega arith in ap (λ (k : ℕ). steps k m) e

going≢wrote : (b : ℕ) → turns.Going ≡ turns.Wrote b → ⊥
going≢wrote b e = cc

wrote≢going : (b : ℕ) → turns.Wrote b ≡ turns.Going → ⊥
wrote≢going b e = cc

going≢over : (e : Stop32) → turns.Going ≡ turn_of e → ⊥
going≢over (stops.Ended v) h = cc
going≢over stops.Trapped h = cc
going≢over (stops.Broken k) h = cc

wrote≢over : (b : ℕ) (e : Stop32) → turns.Wrote b ≡ turn_of e → ⊥
wrote≢over b (stops.Ended v) h = cc
wrote≢over b stops.Trapped h = cc
wrote≢over b (stops.Broken k) h = cc

same_byte : (b c : ℕ) → turns.Wrote b ≡ turns.Wrote c → b ≡ c
same_byte b c e = cc

-- one step and what is left behind it
went_by : (whole : Outcome) (old out : List ℕ) (m' : State) (k : ℕ) (rest : Outcome) (x : Next) → IsStep turns.Going m' x → rest ≡ one_first (behind x (steps k))
    → Stands whole old out rest → Stands whole old out (steps k m')
went_by whole old out m' k rest (Goes n) step e h =
    let same : steps k n ≡ steps k m' = ap (λ (x : State). steps k x) (sym step.1) in
    record {
      ended = h.ended ∙ ap (λ (o : Outcome). o.end) e ∙ ap (λ (o : Outcome). o.end) same;
      output = h.output ∙ ap (λ (o : Outcome). out ++ o.output) e ∙ ap (λ (o : Outcome). out ++ o.output) same;
    }
went_by whole old out m' k rest (Writes b n) step e h = absurd (going≢wrote b step.0)
went_by whole old out m' k rest (Stops x) step e h = absurd (going≢over x step.0)

wrote_by : (whole : Outcome) (old out : List ℕ) (m' : State) (k b : ℕ) (rest : Outcome) (x : Next) → IsStep (turns.Wrote b) m' x → rest ≡ one_first (behind x (steps k))
    → Stands whole old out rest → Stands whole old (out ++ b ∷ []) (steps k m')
wrote_by whole old out m' k b rest (Goes n) step e h = absurd (wrote≢going b step.0)
wrote_by whole old out m' k b rest (Writes c n) step e h =
    let same : steps k n ≡ steps k m' = ap (λ (x : State). steps k x) (sym step.1) in
    let byte : c ≡ b = sym (same_byte b c step.0) in
    record {
      ended = h.ended ∙ ap (λ (o : Outcome). o.end) e ∙ ap (λ (o : Outcome). o.end) same;
      output =
          h.output ∙ ap (λ (o : Outcome). out ++ o.output) e ∙ ap (λ (o : Outcome). out ++ c ∷ o.output) same
          ∙ ap (λ (d : ℕ). out ++ d ∷ (steps k m').output) byte ∙ sym (append_assoc out (b ∷ []) (steps k m').output);
    }
wrote_by whole old out m' k b rest (Stops x) step e h = absurd (wrote≢over b x step.0)

-- a step by which the run goes on
pub went : (whole : Outcome) (old out : List ℕ) (m m' : State) (n i : ℕ) → i < n → IsStep turns.Going m' (step_of m) → Stands whole old out (steps (n - i) m)
    → Stands whole old out (steps (n - (i + 1)) m')
went whole old out m m' n i lt step h = went_by whole old out m' (n - (i + 1)) (steps (n - i) m) (step_of m) step (one_step m n i lt) h

-- a step that writes a byte
pub wrote : (b : ℕ) (whole : Outcome) (old out : List ℕ) (m m' : State) (n i : ℕ) → i < n → IsStep (turns.Wrote b) m' (step_of m) → Stands whole old out (steps (n - i) m)
    → Stands whole old (out ++ b ∷ []) (steps (n - (i + 1)) m')
wrote b whole old out m m' n i lt step h = wrote_by whole old out m' (n - (i + 1)) b (steps (n - i) m) (step_of m) step (one_step m n i lt) h

-- the end that a turn tells
abbrev pub Tells : Turn32 → End → Type 0
Tells turns.Going end = ⊥
Tells (turns.Wrote b) end = ⊥
Tells (turns.Ended v) end = end ≡ ends.Ended v
Tells turns.Trapped end = end ≡ ends.Trapped
Tells (turns.Broken k) end = end ≡ ends.Broken (break_of k)

told : (e : Stop32) (t : Turn32) (end : End) → t ≡ turn_of e → Tells t end → end ≡ end_of e
told (stops.Ended v) t end same h = let P : Turn32 → Type 0 = λ x. Tells x end in subst P same h
told stops.Trapped t end same h = let P : Turn32 → Type 0 = λ x. Tells x end in subst P same h
told (stops.Broken k) t end same h = let P : Turn32 → Type 0 = λ x. Tells x end in subst P same h

nothing_told : (t : Turn32) (end : End) → t ≡ turns.Going → Tells t end → ⊥
nothing_told t end same h = let P : Turn32 → Type 0 = λ x. Tells x end in subst P same h

nothing_told_byte : (b : ℕ) (t : Turn32) (end : End) → t ≡ turns.Wrote b → Tells t end → ⊥
nothing_told_byte b t end same h = let P : Turn32 → Type 0 = λ x. Tells x end in subst P same h

stopped_by : (whole : Outcome) (old out : List ℕ) (m' : State) (k : ℕ) (rest : Outcome) (x : Next) (t : Turn32) (end : End) → IsStep t m' x → Tells t end → rest
    ≡ one_first (behind x (steps k)) → Stands whole old out rest → Ran whole old out end
stopped_by whole old out m' k rest (Goes n) t end step tells e h = absurd (nothing_told t end step.0 tells)
stopped_by whole old out m' k rest (Writes b n) t end step tells e h = absurd (nothing_told_byte b t end step.0 tells)
stopped_by whole old out m' k rest (Stops x) t end step tells e h = record {
  ended = h.ended ∙ ap (λ (o : Outcome). o.end) e ∙ sym (told x t end step.0 tells);
  output = sym (append-nil out) ∙ sym (ap (λ (o : Outcome). out ++ o.output) e) ∙ sym h.output;
}

-- a step by which the run is over
pub stopped : (t : Turn32) (end : End) (whole : Outcome) (old out : List ℕ) (m m' : State) (n i : ℕ) → Tells t end → i < n → IsStep t m' (step_of m) → Stands whole old out (steps (n - i) m)
    → Ran whole old out end
stopped t end whole old out m m' n i tells lt step h = stopped_by whole old out m' (n - (i + 1)) (steps (n - i) m) (step_of m) t end step tells (one_step m n i lt) h
