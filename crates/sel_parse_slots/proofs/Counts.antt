-- How many numbers of a range pass a test.
use Rattle.std.proofs.Common.{◌≡◌, ℕ, zero, suc, ◌+◌, ◌<◌, ◌≤◌, ◌==◌, List, [], ◌∷◌, ◌++◌, Some, None, Bool, true, false, refl, ap, ◌∙◌, arith}
use Rattle.std.proofs.Common.{slice_get}
use Rattle.std.specs.Prelude.{slice_set, not, if◌then◌else◌, ◌||◌}
use Rattle.std.specs.List.{list_any}
use Rattle.std.proofs.lemmas.Bool.Decides.{nat_tests}
use Rattle.std.proofs.lemmas.Bool.{eqb-true}
use Rattle.std.proofs.lemmas.Option.{same_Some}
use Rattle.sel_target.specs.Symbols.{lowest}

abbrev pub tick : Bool → ℕ
tick true = 1
tick false = 0

-- how many of the n numbers from k on pass
abbrev pub count : (ℕ → Bool) → ℕ → ℕ → ℕ
count p k zero = 0
count p k (suc n) = tick (p k) + count p (k + 1) n

pub tick_or : (a b : Bool) → tick (a || b) ≤ tick a + tick b
tick_or true b = omega arith
tick_or false b = omega arith

pub tick_small : (a : Bool) → tick a ≤ 1
tick_small true = omega arith
tick_small false = omega arith

-- where one implies the other
pub tick_implied : (b c : Bool) → (b ≡ true → c ≡ true) → tick b ≤ tick c
tick_implied true c h = (let e = ap tick (h refl) in omega (arith, e))
tick_implied false c h = omega arith

-- where each that passes one test passes one of two others
pub count_two : (p q r : ℕ → Bool) → ((v : ℕ) → tick (p v) ≤ tick (q v) + tick (r v)) → (k n : ℕ) → count p k n ≤ count q k n + count r k n
count_two p q r h k zero = omega arith
count_two p q r h k (suc n) = (let a = h k in let b = count_two p q r h (k + 1) n in omega (arith, a, b))

pub count_less : (p q : ℕ → Bool) → ((v : ℕ) → tick (p v) ≤ tick (q v)) → (k n : ℕ) → count p k n ≤ count q k n
count_less p q h k zero = omega arith
count_less p q h k (suc n) = (let a = h k in let b = count_less p q h (k + 1) n in omega (arith, a, b))

pub count_none : (p : ℕ → Bool) (k n : ℕ) → ((v : ℕ) → k ≤ v → p v ≡ false) → count p k n ≡ 0
count_none p k zero h = refl
count_none p k (suc n) h =
    let a = ap tick (h k (omega arith)) in
    let b = count_none p (k + 1) n (λ v le. h v (omega (arith, le))) in
    omega (arith, a, b)

pub unequal : (w k : ℕ) → (w ≡ k → ⊥) → (w == k) ≡ false
unequal w k h = by (w == k) refl
  where
    by : (b : Bool) → (w == k) ≡ b → (w == k) ≡ false
    by true e = absurd (h (eqb-true w k e))
    by false e = e

count_above : (w k n : ℕ) → w < k → count (λ v. w == v) k n ≡ 0
count_above w k n lt = count_none (λ v. w == v) k n (λ v le. unequal w v (λ e. omega (arith, lt, le, e)))

pub count_one : (w k n : ℕ) → count (λ v. w == v) k n ≤ 1
count_one w k zero = omega arith
count_one w k (suc n) = by (count_one w (k + 1) n) (w == k) refl
  where
    by : count (λ v. w == v) (k + 1) n ≤ 1 → (b : Bool) → (w == k) ≡ b → tick (w == k) + count (λ v. w == v) (k + 1) n ≤ 1
    by b true e =
        let same = eqb-true w k e in
        let a = tick_small (w == k) in
        let c = count_above w (k + 1) n (omega (arith, same)) in
        omega (arith, a, c)
    by b false e = (let a = ap tick e in omega (arith, a, b))

-- one that passes counts
pub count_some : (p : ℕ → Bool) (k n r : ℕ) → k ≤ r → r < k + n → p r ≡ true → 1 ≤ count p k n
count_some p k zero r le lt e = absurd (omega (arith, le, lt))
count_some p k (suc n) r le lt e = by (λ far. count_some p (k + 1) n r far (omega (arith, lt)) e) (k == r) refl
  where
    further : (k == r) ≡ false → k + 1 ≤ r
    further f = grind (arith, nat_tests)

    by : (k + 1 ≤ r → 1 ≤ count p (k + 1) n) → (b : Bool) → (k == r) ≡ b → 1 ≤ tick (p k) + count p (k + 1) n
    by go true f = (let same = eqb-true k r f in let a = ap tick (ap p same ∙ e) in omega (arith, a))
    by go false f = (let a = go (further f) in omega (arith, a))

-- the lowest that passes has no more below it than fail
pub below_lowest : (p : ℕ → Bool) (k n w : ℕ) → lowest p k n ≡ Some w → w ≤ k + count (λ v. not (p v)) k n
below_lowest p k zero w e = absurd (cc)
below_lowest p k (suc n) w e = by (λ f. below_lowest p (k + 1) n w f) (p k) refl e
  where
    by : (lowest p (k + 1) n ≡ Some w → w ≤ k + 1 + count (λ v. not (p v)) (k + 1) n) → (b : Bool) → p k ≡ b → (if b then Some k else lowest p (k + 1) n) ≡ Some w
        → w ≤ k + (tick (not (p k)) + count (λ v. not (p v)) (k + 1) n)
    by ih true is f = (let same : k ≡ w = cc in omega (arith, same))
    by ih false is f = (let a = ih f in let b = ap (λ x. tick (not x)) is in omega (arith, a, b))

-- where none passes, all fail
pub none_lowest : (p : ℕ → Bool) (k n : ℕ) → lowest p k n ≡ None → n ≤ count (λ v. not (p v)) k n
none_lowest p k zero e = omega arith
none_lowest p k (suc n) e = by (λ f. none_lowest p (k + 1) n f) (p k) refl e
  where
    by : (lowest p (k + 1) n ≡ None → n ≤ count (λ v. not (p v)) (k + 1) n) → (b : Bool) → p k ≡ b → (if b then Some k else lowest p (k + 1) n) ≡ None
        → suc n ≤ tick (not (p k)) + count (λ v. not (p v)) (k + 1) n
    by ih true is f = absurd (cc)
    by ih false is f = (let a = ih f in let b = ap (λ x. tick (not x)) is in omega (arith, a, b))

-- ---- totals over a list

abbrev pub total : {A : Type 0} → (A → ℕ) → List A → ℕ
total f [] = 0
total f (a ∷ all) = f a + total f all

pub total_set : {A : Type 0} (f : A → ℕ) (xs : List A) (i : ℕ) (a b : A) → slice_get xs i ≡ Some a → total f (slice_set xs i b) + f a ≡ total f xs + f b
total_set f [] i a b e = absurd (cc)
total_set f (x ∷ xs) zero a b e = (let same : f x ≡ f a = ap f (same_Some x a e) in omega (arith, same))
total_set f (x ∷ xs) (suc i) a b e = (let r = total_set f xs i a b e in omega (arith, r))

pub total_append : {A : Type 0} (f : A → ℕ) (xs ys : List A) → total f (xs ++ ys) ≡ total f xs + total f ys
total_append f [] ys = omega arith
total_append f (x ∷ xs) ys = (let r = total_append f xs ys in omega (arith, r))

-- the counts of what some of a list pass
pub count_any : {A : Type 0} (p : A → ℕ → Bool) (all : List A) (k n : ℕ) → count (λ v. list_any (λ (a : A). p a v) all) k n ≤ total (λ (a : A). count (p a) k n) all
count_any p [] k n = (let e = count_none (λ v. false) k n (λ v le. refl) in omega (arith, e))
count_any p (a ∷ all) k n =
    let g = count_two (λ v. list_any (λ b. p b v) (a ∷ all)) (p a) (λ v. list_any (λ b. p b v) all) (λ v. tick_or (p a v) (list_any (λ b. p b v) all)) k n in
    let h = count_any p all k n in
    omega (arith, g, h)
