-- Searches from a number on.
use Rattle.std.proofs.Common.{◌≡◌, ℕ, zero, suc, ◌+◌, ◌<◌, ◌≤◌, List, [], ◌∷◌, length, take, drop, Option, Some, None, Bool, true, false, refl, ap, sym, ◌∙◌, subst, arith}
use Rattle.std.specs.Prelude.{◌||◌, if◌then◌else◌, is_some, IfSome}
use Rattle.std.specs.List.{list_any, find, position_from, range_with_len}
use Rattle.std.proofs.lemmas.Option.{same_Some}
use Rattle.sel_target.specs.Symbols.{lowest, behind_one, first_that}

-- as `any` and `find` meet it in a range
pub any_lowest : (p : ℕ → Bool) (k n : ℕ) → list_any p (range_with_len k n) ≡ is_some (lowest p k n)
any_lowest p k zero = refl
any_lowest p k (suc n) = by (p k) (any_lowest p (k + 1) n)
  where
    by : (b : Bool) → list_any p (range_with_len (k + 1) n) ≡ is_some (lowest p (k + 1) n)
        → (b || list_any p (range_with_len (k + 1) n)) ≡ is_some (if b then Some k else lowest p (k + 1) n)
    by true h = refl
    by false h = h

pub find_lowest : (p : ℕ → Bool) (k n : ℕ) → find p (range_with_len k n) ≡ lowest p k n
find_lowest p k zero = refl
find_lowest p k (suc n) = ap (λ (o : Option ℕ). if p k then Some k else o) (find_lowest p (k + 1) n)

pub lowest_below : (p : ℕ → Bool) (k n m : ℕ) → (0 < n → k + n ≤ m) → IfSome (lowest p k n) (λ i. i < m)
lowest_below p k zero m le = tt
lowest_below p k (suc n) m le =
    let whole : k + suc n ≤ m = le (omega arith) in
    by (p k) (omega (arith, whole)) (lowest_below p (k + 1) n m (λ _. omega (arith, whole)))
  where
    by : (b : Bool) → k < m → IfSome (lowest p (k + 1) n) (λ i. i < m) → IfSome (if b then Some k else lowest p (k + 1) n) (λ i. i < m)
    by true h g = h
    by false h g = g

-- the first element that passes, as `position` meets it
abbrev pub plus : ℕ → Option ℕ → Option ℕ
plus i None = None
plus i (Some k) = Some (k + i)

plus_one : (i : ℕ) (o : Option ℕ) → plus (i + 1) o ≡ plus i (behind_one o)
plus_one i None = refl
plus_one i (Some k) = ap (λ (j : ℕ). Some j) (let s : k + (i + 1) ≡ k + 1 + i = omega arith in s)

plus_none : (o : Option ℕ) → plus 0 o ≡ o
plus_none None = refl
plus_none (Some k) = ap (λ (j : ℕ). Some j) (let s : k + 0 ≡ k = omega arith in s)

module _ {X : Type 0} (p : X → Bool) where
  first_from : (xs : List X) (i : ℕ) → position_from p i xs ≡ plus i (first_that p xs)
  first_from [] i = refl
  first_from (x ∷ xs) i = by (p x) (first_from xs (i + 1))
    where
      by : (b : Bool) → position_from p (i + 1) xs ≡ plus (i + 1) (first_that p xs)
          → (if b then Some i else position_from p (i + 1) xs) ≡ plus i (if b then Some 0 else behind_one (first_that p xs))
      by true h = ap (λ (j : ℕ). Some j) (let s : i ≡ 0 + i = omega arith in s)
      by false h = h ∙ plus_one i (first_that p xs)

  pub first_position : (xs : List X) → position_from p 0 xs ≡ first_that p xs
  first_position xs = first_from xs 0 ∙ plus_none (first_that p xs)

  one_behind : (i : ℕ) (o : Option ℕ) → behind_one (plus i o) ≡ plus (suc i) o
  one_behind i None = refl
  one_behind i (Some k) = ap (λ (j : ℕ). Some j) (let s : k + i + 1 ≡ k + suc i = omega arith in s)

  -- where none of the first n passes
  pub first_behind : (xs : List X) (n : ℕ) → list_any p (take n xs) ≡ false → first_that p xs ≡ plus n (first_that p (drop n xs))
  first_behind xs zero none = sym (plus_none (first_that p xs))
  first_behind [] (suc n) none = refl
  first_behind (y ∷ xs) (suc n) none = by (p y) none (first_behind xs n)
    where
      by : (b : Bool) → (b || list_any p (take n xs)) ≡ false → (list_any p (take n xs) ≡ false → first_that p xs ≡ plus n (first_that p (drop n xs)))
          → (if b then Some 0 else behind_one (first_that p xs)) ≡ plus (suc n) (first_that p (drop n xs))
      by true h go = absurd (cc)
      by false h go = ap behind_one (go h) ∙ one_behind n (first_that p (drop n xs))

  pub first_within : (xs : List X) → IfSome (first_that p xs) (λ i. i < length xs)
  first_within [] = tt
  first_within (y ∷ xs) = by (p y) (first_that p xs) (first_within xs)
    where
      by : (b : Bool) (o : Option ℕ) → IfSome o (λ i. i < length xs) → IfSome (if b then Some 0 else behind_one o) (λ i. i < length (y ∷ xs))
      by true o h = omega arith
      by false None h = tt
      by false (Some k) h = omega (arith, h)

-- the first element that passes
module _ {X : Type 0} (p : X → Bool) where
  -- before the first element that passes none does
  pub first_before : (xs : List X) (i : ℕ) → first_that p xs ≡ Some i → (i < length xs) × (list_any p (take i xs) ≡ false)
  first_before [] i e = absurd (cc)
  first_before (y ∷ xs) i e = by (p y) refl (first_that p xs) (λ k f. first_before xs k f) e
    where
      later : (k : ℕ) → p y ≡ false → list_any p (take k xs) ≡ false → list_any p (take (k + 1) (y ∷ xs)) ≡ false
      later k off f = ap (λ (j : ℕ). list_any p (take j (y ∷ xs))) (let s : k + 1 ≡ suc k = omega arith in s) ∙ ap (λ (b : Bool). b || list_any p (take k xs)) off ∙ f

      by : (b : Bool) → p y ≡ b → (o : Option ℕ) → ((k : ℕ) → o ≡ Some k → (k < length xs) × (list_any p (take k xs) ≡ false))
          → (if b then Some 0 else behind_one o) ≡ Some i → (i < length (y ∷ xs)) × (list_any p (take i (y ∷ xs)) ≡ false)
      by true here o go f = subst (λ (j : ℕ). (j < length (y ∷ xs)) × (list_any p (take j (y ∷ xs)) ≡ false)) (same_Some 0 i f) (omega arith, refl)
      by false off None go f = absurd (cc)
      by false off (Some k) go f =
          let h = go k refl in
          subst (λ (j : ℕ). (j < length (y ∷ xs)) × (list_any p (take j (y ∷ xs)) ≡ false)) (same_Some (k + 1) i f) (omega (arith, h.0), later k off h.1)

  pub first_none : (xs : List X) (n : ℕ) → first_that p xs ≡ None → list_any p (take n xs) ≡ false
  first_none xs zero e = refl
  first_none [] (suc n) e = refl
  first_none (y ∷ xs) (suc n) e = by (p y) (first_that p xs) (λ f. first_none xs n f) e
    where
      by : (b : Bool) (o : Option ℕ) → (o ≡ None → list_any p (take n xs) ≡ false) → (if b then Some 0 else behind_one o) ≡ None
          → (b || list_any p (take n xs)) ≡ false
      by true o go f = absurd (cc)
      by false None go f = go refl
      by false (Some k) go f = absurd (cc)
