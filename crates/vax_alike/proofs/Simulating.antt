-- The runs of two machines that move in step, but for steps that the first does alone.
use Rattle.std.proofs.Common.{◌≡◌, ℕ, zero, suc, ◌<◌, List, ◌∷◌, refl, sym, ap, ◌∙◌, arith}
use Rattle.gg_base.specs.Follows.{Says}
use Rattle.vax_machine.specs.declared.turn.Stop.{Stop}
use Rattle.vax_machine.specs.State.{State}
use Rattle.vax_machine.specs.Step.{Next, Goes, Writes, Stops, step_of}
use Rattle.vax_machine.specs.Running.{behind, steps, state_run}

module _ (S : ℕ → State → State → Type 0) where
  -- both do a step and stand to each other behind it, or the run of both is over, or the first does a step alone
  pub data Moves (k : ℕ) (m n : State) : Type 0 where
    Going : (j : ℕ) (x y : State) → step_of m ≡ Goes x → step_of n ≡ Goes y → S j x y → Moves k m n
    Writing : (j b : ℕ) (x y : State) → step_of m ≡ Writes b x → step_of n ≡ Writes b y → S j x y → Moves k m n
    Over : (e : Stop) → step_of m ≡ Stops e → step_of n ≡ Stops e → Moves k m n
    First : (j : ℕ) (x : State) → step_of m ≡ Goes x → j < k → S j x n → Moves k m n

  -- what so many steps of m say, those of n say
  abbrev Told : ℕ → State → State → Type 0
  Told i m n = Says (state_run n) (steps i m).output (steps i m).end

  told_on : (i k : ℕ) (m n : State) → ((j : ℕ) (x y : State) → S j x y → Told i x y) → Moves k m n → Told (suc i) m n
  told_on i k m n go (Going j x y e f s) =
      let h = go j x y s in (
        suc h.0,
        ap (λ (z : Next). (behind z (steps h.0)).output) f ∙ h.1 ∙ sym (ap (λ (z : Next). (behind z (steps i)).output) e),
        ap (λ (z : Next). (behind z (steps h.0)).end) f ∙ h.2 ∙ sym (ap (λ (z : Next). (behind z (steps i)).end) e),
      )
  told_on i k m n go (Writing j b x y e f s) =
      let h = go j x y s in (
        suc h.0,
        ap (λ (z : Next). (behind z (steps h.0)).output) f ∙ ap (λ (o : List ℕ). b ∷ o) h.1 ∙ sym (ap (λ (z : Next). (behind z (steps i)).output) e),
        ap (λ (z : Next). (behind z (steps h.0)).end) f ∙ h.2 ∙ sym (ap (λ (z : Next). (behind z (steps i)).end) e),
      )
  told_on i k m n go (Over x e f) = (
    suc zero,
    ap (λ (z : Next). (behind z (steps zero)).output) f ∙ sym (ap (λ (z : Next). (behind z (steps i)).output) e),
    ap (λ (z : Next). (behind z (steps zero)).end) f ∙ sym (ap (λ (z : Next). (behind z (steps i)).end) e),
  )
  told_on i k m n go (First j x e lt s) =
      let h = go j x n s in
      (h.0, h.1 ∙ sym (ap (λ (z : Next). (behind z (steps i)).output) e), h.2 ∙ sym (ap (λ (z : Next). (behind z (steps i)).end) e))

  -- and back
  abbrev Retold : ℕ → State → State → Type 0
  Retold i m n = Says (state_run m) (steps i n).output (steps i n).end

  retold_on : (i k : ℕ) (m n : State) → ((j : ℕ) (x y : State) → S j x y → Retold i x y) → ((j : ℕ) (x : State) → j < k → S j x n → Retold (suc i) x n)
      → Moves k m n → Retold (suc i) m n
  retold_on i k m n go first (Going j x y e f s) =
      let h = go j x y s in (
        suc h.0,
        ap (λ (z : Next). (behind z (steps h.0)).output) e ∙ h.1 ∙ sym (ap (λ (z : Next). (behind z (steps i)).output) f),
        ap (λ (z : Next). (behind z (steps h.0)).end) e ∙ h.2 ∙ sym (ap (λ (z : Next). (behind z (steps i)).end) f),
      )
  retold_on i k m n go first (Writing j b x y e f s) =
      let h = go j x y s in (
        suc h.0,
        ap (λ (z : Next). (behind z (steps h.0)).output) e ∙ ap (λ (o : List ℕ). b ∷ o) h.1 ∙ sym (ap (λ (z : Next). (behind z (steps i)).output) f),
        ap (λ (z : Next). (behind z (steps h.0)).end) e ∙ h.2 ∙ sym (ap (λ (z : Next). (behind z (steps i)).end) f),
      )
  retold_on i k m n go first (Over x e f) = (
    suc zero,
    ap (λ (z : Next). (behind z (steps zero)).output) e ∙ sym (ap (λ (z : Next). (behind z (steps i)).output) f),
    ap (λ (z : Next). (behind z (steps zero)).end) e ∙ sym (ap (λ (z : Next). (behind z (steps i)).end) f),
  )
  retold_on i k m n go first (First j x e lt s) =
      let h = first j x lt s in
      (suc h.0, ap (λ (z : Next). (behind z (steps h.0)).output) e ∙ h.1, ap (λ (z : Next). (behind z (steps h.0)).end) e ∙ h.2)

  module _ (moves : (k : ℕ) (m n : State) → S k m n → Moves k m n) where
    pub told : (i k : ℕ) (m n : State) → S k m n → Told i m n
    told zero k m n s = (zero, refl, refl)
    told (suc i) k m n s = told_on i k m n (told i) (moves k m n s)

    -- the first does fewer steps alone than there is fuel for
    retold_by : (i : ℕ) → ((k : ℕ) (m n : State) → S k m n → Retold i m n) → (fuel k : ℕ) → k < fuel → (m n : State) → S k m n → Retold (suc i) m n
    retold_by i go zero k lt m n s = absurd (omega arith)
    retold_by i go (suc fuel) k lt m n s = retold_on i k m n go (λ j x less t. retold_by i go fuel j (omega arith) x n t) (moves k m n s)

    pub retold : (i k : ℕ) (m n : State) → S k m n → Retold i m n
    retold zero k m n s = (zero, refl, refl)
    retold (suc i) k m n s = retold_by i (retold i) (suc k) k (omega arith) m n s
