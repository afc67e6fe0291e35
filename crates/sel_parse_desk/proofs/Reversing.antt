-- The top of a stack, whose order the definition turns round.
use Rattle.std.proofs.Common.{◌≡◌, ℕ, zero, suc, ◌-◌, ◌<◌, ◌≤◌, List, [], ◌∷◌, ◌++◌, length, take, drop, refl, ap, sym, ◌∙◌, ⊎_elim, arith, length-drop}
use Rattle.std.specs.Prelude.{reverse}
use Rattle.std.proofs.lemmas.Bool.{cases_lt}
use Rattle.std.proofs.lemmas.List.{reverse-reverse, length-reverse, reverse-append, take-append-drop, take_all, drop_all}

module _ {X : Type 0} where
  take_first : (a b : List X) (k : ℕ) → k ≡ length a → take k (a ++ b) ≡ a
  take_first [] b zero e = refl
  take_first [] b (suc k) e = absurd (omega (arith, e))
  take_first (x ∷ a) b zero e = absurd (omega (arith, e))
  take_first (x ∷ a) b (suc k) e = ap (λ (c : List X). x ∷ c) (take_first a b k (omega (arith, e)))

  drop_first : (a b : List X) (k : ℕ) → k ≡ length a → drop k (a ++ b) ≡ b
  drop_first [] b zero e = refl
  drop_first [] b (suc k) e = absurd (omega (arith, e))
  drop_first (x ∷ a) b zero e = absurd (omega (arith, e))
  drop_first (x ∷ a) b (suc k) e = drop_first a b k (omega (arith, e))

  parted : (a : List X) (m : ℕ) → reverse a ≡ reverse (drop m a) ++ reverse (take m a)
  parted a m = ap (λ (c : List X). reverse c) (sym (take-append-drop m a)) ∙ reverse-append (take m a) (drop m a)

  length-back : (a : List X) (k : ℕ) → k ≤ length a → k ≡ length (reverse (drop (length a - k) a))
  length-back a k le =
      let r = length-reverse (drop (length a - k) a) in
      let d = length-drop (length a - k) a in
      omega (arith, r, d, le)

  -- the elements below the top k, and the top k
  pub below_top : (a : List X) (k : ℕ) → reverse (drop k (reverse a)) ≡ take (length a - k) a
  below_top a k = ⊎_elim short long (cases_lt (length a) k)
    where
      short : length a < k → reverse (drop k (reverse a)) ≡ take (length a - k) a
      short lt =
          let r = length-reverse a in
          let n : length a - k ≡ 0 = omega (arith, lt) in
          ap (λ (c : List X). reverse c) (drop_all k (reverse a) (omega (arith, r, lt))) ∙ ap (λ (m : ℕ). take m a) (sym n)

      long : k ≤ length a → reverse (drop k (reverse a)) ≡ take (length a - k) a
      long le =
          let m = length a - k in
          ap (λ (c : List X). reverse (drop k c)) (parted a m)
          ∙ (ap (λ (c : List X). reverse c) (drop_first (reverse (drop m a)) (reverse (take m a)) k (length-back a k le))
          ∙ reverse-reverse (take m a))

  pub top_apart : (a : List X) (k : ℕ) → reverse (take k (reverse a)) ≡ drop (length a - k) a
  top_apart a k = ⊎_elim short long (cases_lt (length a) k)
    where
      short : length a < k → reverse (take k (reverse a)) ≡ drop (length a - k) a
      short lt =
          let r = length-reverse a in
          let n : length a - k ≡ 0 = omega (arith, lt) in
          ap (λ (c : List X). reverse c) (take_all k (reverse a) (omega (arith, r, lt))) ∙ (reverse-reverse a ∙ ap (λ (m : ℕ). drop m a) (sym n))

      long : k ≤ length a → reverse (take k (reverse a)) ≡ drop (length a - k) a
      long le =
          let m = length a - k in
          ap (λ (c : List X). reverse (take k c)) (parted a m)
          ∙ (ap (λ (c : List X). reverse c) (take_first (reverse (drop m a)) (reverse (take m a)) k (length-back a k le))
          ∙ reverse-reverse (drop m a))
