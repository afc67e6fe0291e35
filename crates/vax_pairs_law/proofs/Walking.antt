-- Runs of two machines that stand to each other from one piece to the next.
use Rattle.std.proofs.Common.{◌≡◌, ℕ, zero, suc, ◌+◌, ◌<◌, List, [], ◌∷◌, ◌++◌, refl, sym, ap, subst, ◌∙◌, arith}
use Rattle.vax_pairs.specs.gg_base.specs.declared.run.End.{End}
use Rattle.vax_pairs.specs.gg_base.specs.declared.run.End.TheVariants.{Spent}
use Rattle.vax_pairs.specs.gg_base.specs.Follows.{Says}
use Rattle.vax_pairs.specs.vax_machine.specs.declared.turn.Stop.{Stop}
use Rattle.vax_pairs.specs.vax_machine.specs.State.{State}
use Rattle.vax_pairs.specs.vax_machine.specs.Step.{Next, Goes, Writes, Stops, step_of}
use Rattle.vax_pairs.specs.vax_machine.specs.Running.{behind, steps, state_run}
use Rattle.vax_alike.specs.Alike.{AlikeRuns}
use Rattle.vax_alike.proofs.Sharing.{covered}
use Rattle.vax_pairs.specs.Ways.{Way, Stay, Going, Writing, Nearer, Forward, Lower}

-- what n says is what it says behind a way, with the way's bytes in front
said_behind : (y n : State) (w : List ℕ) (l : ℕ) → Way y n w l → (o : List ℕ) (e : End) → Says (state_run y) o e → Says (state_run n) (w ++ o) e
said_behind y n w l Stay o e h = h
said_behind y n w l (Going m x v k f way) o e h =
    let s = said_behind y x v k way o e h in
    (suc s.0, ap (λ (z : Next). (behind z (steps s.0)).output) f ∙ s.1, ap (λ (z : Next). (behind z (steps s.0)).end) f ∙ s.2)
said_behind y n w l (Writing m x b v k f way) o e h =
    let s = said_behind y x v k way o e h in
    (suc s.0, ap (λ (z : Next). (behind z (steps s.0)).output) f ∙ ap (λ (t : List ℕ). b ∷ t) s.1, ap (λ (z : Next). (behind z (steps s.0)).end) f ∙ s.2)

-- bytes at the front of others
abbrev Front : List ℕ → List ℕ → Type 0
Front [] w = Unit {0}
Front (a ∷ o) [] = ⊥
Front (a ∷ o) (b ∷ w) = (b ≡ a) × Front o w

-- on a way each front of its bytes is written at some moment
said_inside : (y n : State) (w : List ℕ) (l : ℕ) → Way y n w l → (o : List ℕ) → Front o w → Says (state_run n) o Spent
said_inside y n w l way [] h = (zero, refl, refl)
said_inside y n w l Stay (a ∷ o) h = absurd h
said_inside y n w l (Going m x v k f way) (a ∷ o) h =
    let s = said_inside y x v k way (a ∷ o) h in
    (suc s.0, ap (λ (z : Next). (behind z (steps s.0)).output) f ∙ s.1, ap (λ (z : Next). (behind z (steps s.0)).end) f ∙ s.2)
said_inside y n w l (Writing m x b v k f way) (a ∷ o) h =
    let s = said_inside y x v k way o h.1 in (
      suc s.0,
      ap (λ (z : Next). (behind z (steps s.0)).output) f ∙ ap (λ (t : List ℕ). b ∷ t) s.1 ∙ ap (λ (c : ℕ). c ∷ o) h.0,
      ap (λ (z : Next). (behind z (steps s.0)).end) f ∙ s.2,
    )

-- so many steps are done inside a way, or lead past it
data Partly (x m : State) (w : List ℕ) (k i : ℕ) : Type 0 where
  Inside : (o : List ℕ) → Front o w → (steps i m).output ≡ o → (steps i m).end ≡ Spent → Partly x m w k i
  Past : (j : ℕ) → i ≡ k + j → (steps i m).output ≡ w ++ (steps j x).output → (steps i m).end ≡ (steps j x).end → Partly x m w k i

partly_going : (x m z : State) (w : List ℕ) (k i : ℕ) → step_of m ≡ Goes z → Partly x z w k i → Partly x m w (suc k) (suc i)
partly_going x m z w k i f (Inside o h a b) = Inside o h (ap (λ (t : Next). (behind t (steps i)).output) f ∙ a) (ap (λ (t : Next). (behind t (steps i)).end) f ∙ b)
partly_going x m z w k i f (Past j e a b) = Past j (omega (arith, e)) (ap (λ (t : Next). (behind t (steps i)).output) f ∙ a) (ap (λ (t : Next). (behind t (steps i)).end) f ∙ b)

partly_writing : (x m z : State) (c : ℕ) (w : List ℕ) (k i : ℕ) → step_of m ≡ Writes c z → Partly x z w k i → Partly x m (c ∷ w) (suc k) (suc i)
partly_writing x m z c w k i f (Inside o h a b) =
    Inside (c ∷ o) (refl, h) (ap (λ (t : Next). (behind t (steps i)).output) f ∙ ap (λ (t : List ℕ). c ∷ t) a) (ap (λ (t : Next). (behind t (steps i)).end) f ∙ b)
partly_writing x m z c w k i f (Past j e a b) =
    Past j (omega (arith, e)) (ap (λ (t : Next). (behind t (steps i)).output) f ∙ ap (λ (t : List ℕ). c ∷ t) a) (ap (λ (t : Next). (behind t (steps i)).end) f ∙ b)

partly : (x m : State) (w : List ℕ) (k : ℕ) → Way x m w k → (i : ℕ) → Partly x m w k i
partly x m w k Stay i = Past i (omega arith) refl refl
partly x m w k (Going p z v l f way) zero = Inside [] tt refl refl
partly x m w k (Going p z v l f way) (suc i) = partly_going x p z v l i f (partly x z v l way i)
partly x m w k (Writing p z b v l f way) zero = Inside [] tt refl refl
partly x m w k (Writing p z b v l f way) (suc i) = partly_writing x p z b v l i f (partly x z v l way i)

-- what so many steps of m say, those of n say
abbrev Told : ℕ → State → State → Type 0
Told i m n = Says (state_run n) (steps i m).output (steps i m).end

told_past : (x m : State) (w : List ℕ) (i j : ℕ) → (steps i m).output ≡ w ++ (steps j x).output → (steps i m).end ≡ (steps j x).end
    → (y n : State) (l : ℕ) → Way y n w l → Told j x y → Told i m n
told_past x m w i j a b y n l way h =
    let s = said_behind y n w l way _ _ h in
    (s.0, s.1 ∙ sym a, s.2 ∙ sym b)

told_over : (j : ℕ) (x y : State) (e : Stop) → step_of x ≡ Stops e → step_of y ≡ Stops e → Told j x y
told_over zero x y e f g = (zero, refl, refl)
told_over (suc j) x y e f g = (
  suc zero,
  ap (λ (z : Next). (behind z (steps zero)).output) g ∙ sym (ap (λ (z : Next). (behind z (steps j)).output) f),
  ap (λ (z : Next). (behind z (steps zero)).end) g ∙ sym (ap (λ (z : Next). (behind z (steps j)).end) f),
)

module _ (S : ℕ → State → State → Type 0) where
  -- Both go on to states that stand to each other, writing the same; or both runs are over.
  pub data Pieces (k : ℕ) (m n : State) : Type 0 where
    Further : (i j l : ℕ) (w : List ℕ) (x y : State) → Way x m w i → Way y n w j → Nearer i j l k → S l x y → Pieces k m n
    Finished : (i j : ℕ) (w : List ℕ) (x y : State) (e : Stop) → Way x m w i → Way y n w j → step_of x ≡ Stops e → step_of y ≡ Stops e → Pieces k m n

  module _ (i k : ℕ) (below : (j : ℕ) → j < i → (l : ℕ) (x y : State) → S l x y → Told j x y) (same : (l : ℕ) → l < k → (x y : State) → S l x y → Told i x y) where
    told_nearer : (p q l j : ℕ) → Nearer p q l k → i ≡ p + j → (x y : State) → S l x y → Told j x y
    told_nearer p q l j (Forward f g) e x y s = below j (omega (arith, f, e)) l x y s
    told_nearer zero q l j (Lower f) e x y s = subst (λ (t : ℕ). Told t x y) (omega (arith, e)) (same l f x y s)
    told_nearer (suc p) q l j (Lower f) e x y s = below j (omega (arith, e)) l x y s

    told_onward : (m n x y : State) (w : List ℕ) (p q l : ℕ) → Way y n w q → Nearer p q l k → S l x y → Partly x m w p i → Told i m n
    told_onward m n x y w p q l way near s (Inside o h a b) = (let t = said_inside y n w q way o h in (t.0, t.1 ∙ sym a, t.2 ∙ sym b))
    told_onward m n x y w p q l way near s (Past j e a b) = told_past x m w i j a b y n q way (told_nearer p q l j near e x y s)

    told_ending : (m n x y : State) (w : List ℕ) (p q : ℕ) (e : Stop) → Way y n w q → step_of x ≡ Stops e → step_of y ≡ Stops e → Partly x m w p i → Told i m n
    told_ending m n x y w p q e way f g (Inside o h a b) = (let t = said_inside y n w q way o h in (t.0, t.1 ∙ sym a, t.2 ∙ sym b))
    told_ending m n x y w p q e way f g (Past j is a b) = told_past x m w i j a b y n q way (told_over j x y e f g)

    told_on : (m n : State) → Pieces k m n → Told i m n
    told_on m n (Further p q l w x y v u near s) = told_onward m n x y w p q l u near s (partly x m w p v i)
    told_on m n (Finished p q w x y e v u f g) = told_ending m n x y w p q e u f g (partly x m w p v i)

  module _ (pieces : (k : ℕ) (m n : State) → S k m n → Pieces k m n) where
    told_by : (i : ℕ) → ((j : ℕ) → j < i → (l : ℕ) (x y : State) → S l x y → Told j x y) → (fuel k : ℕ) → k < fuel → (m n : State) → S k m n → Told i m n
    told_by i below zero k lt m n s = absurd (omega (arith, lt))
    told_by i below (suc fuel) k lt m n s = told_on i k below (λ l less x y t. told_by i below fuel l (omega (arith, lt, less)) x y t) m n (pieces k m n s)

    told_below : (bound i : ℕ) → i < bound → (k : ℕ) (m n : State) → S k m n → Told i m n
    told_below zero i lt k m n s = absurd (omega (arith, lt))
    told_below (suc bound) i lt k m n s = told_by i (λ j less l x y t. told_below bound j (omega (arith, lt, less)) l x y t) (suc k) k (omega arith) m n s

    pub told : (i k : ℕ) (m n : State) → S k m n → Told i m n
    told i k m n s = told_below (suc i) i (omega arith) k m n s

-- the same, seen from the other side
module _ (S : ℕ → State → State → Type 0) where
  abbrev Back : ℕ → State → State → Type 0
  Back k n m = S k m n

  nearer_back : (i j l k : ℕ) → Nearer i j l k → Nearer j i l k
  nearer_back i j l k (Forward f g) = Forward g f
  nearer_back i j l k (Lower f) = Lower f

  pieces_back : (k : ℕ) (m n : State) → Pieces S k m n → Pieces Back k n m
  pieces_back k m n (Further p q l w x y v u near s) = Further q p l w y x u v (nearer_back p q l k near) s
  pieces_back k m n (Finished p q w x y e v u f g) = Finished q p w y x e u v g f

  pub pieces_are_alike : ((k : ℕ) (m n : State) → S k m n → Pieces S k m n) → (k : ℕ) (m n : State) → S k m n → AlikeRuns (state_run m) (state_run n)
  pieces_are_alike pieces k m n s = record {
    ahead = covered (state_run m) (state_run n) (λ i. told S pieces i k m n s);
    back = covered (state_run n) (state_run m) (λ i. told Back (λ l y x t. pieces_back l x y (pieces l x y t)) i k n m s);
  }
