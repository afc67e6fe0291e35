-- Which elements an empty list, a list of one and a list with one more in front have.
use Rattle.std.proofs.Common.{◌≡◌, ◌⊎◌, ℕ, zero, suc, ◌<◌, List, [], ◌∷◌, Contains, get_or, refl, inl, inr, ⊎_elim, arith}
use Rattle.std.proofs.lemmas.List.Elements.{Contains-append_cases}

pub nowhere_in : {X : Type 0} (x : X) → Contains [] x → ⊥
nowhere_in x h = let lt = h.1 in omega (arith, lt)

pub here : {X : Type 0} (x : X) (xs : List X) → Contains (x ∷ xs) x
here x xs = (0, omega arith, refl)

pub one_cases : {X : Type 0} (y x : X) → Contains (y ∷ []) x → y ≡ x
one_cases y x h = by h.0 h.1 h.2
  where
    by : (k : ℕ) → k < 1 → get_or (y ∷ []) k x ≡ x → y ≡ x
    by zero lt e = e
    by (suc k) lt e = absurd (omega (arith, lt))

pub cons_cases : {X : Type 0} (y : X) (ys : List X) (x : X) → Contains (y ∷ ys) x → (y ≡ x) ⊎ Contains ys x
cons_cases y ys x h = ⊎_elim (λ a. inl (one_cases y x a)) (λ b. inr b) (Contains-append_cases (y ∷ []) ys x h)
