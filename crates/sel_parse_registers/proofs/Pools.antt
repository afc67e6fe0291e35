-- Counts: the registers of a pool, the elements of a list that pass, and searches that find none.
use Rattle.std.proofs.Common.{◌≡◌, ℕ, zero, suc, ◌+◌, ◌/◌, ◌^◌, ◌<◌, ◌≤◌, ◌==◌, List, [], ◌∷◌, map, take, drop, slice_get, Option, Some, None, Bool, true, false, refl, sym, ap, ◌∙◌, arith}
use Rattle.std.specs.Prelude.{reverse, not, ◌&&◌, ◌||◌, count_ones, if◌then◌else◌}
use Rattle.std.specs.List.{AllByRecursion as All, list_any}
use Rattle.std.specs.Int.{bit_at}
use lib.Count.{ones_step}
use Rattle.std.proofs.Math.Nat.{pow-suc}
use Rattle.std.proofs.lemmas.Bool.Decides.{nat_tests}
use Rattle.std.proofs.lemmas.Grind.{reverse_onto}
use Rattle.std.proofs.lemmas.Nat.{ones-le}
use Rattle.std.proofs.lemmas.Nat.Bits.{bit_at-suc, bit_at_lowest}
use Rattle.std.proofs.lemmas.Bool.{eqb-true, true≢false}
use Rattle.std.proofs.lemmas.Option.{none-some, same_Some}
use Rattle.sel_target.specs.Symbols.{lowest, behind_one, first_that}
use Rattle.sel_parse_slots.specs.sel_parse_selected.specs.Spills.{later_of, last_that}
use Rattle.sel_parse_slots.proofs.Counts.{tick, tick_or, count, total, total_append}

pub tick_true : (b : Bool) → 1 ≤ tick b → b ≡ true
tick_true true le = refl
tick_true false le = absurd (omega (arith, le))

pub tick_none : (b : Bool) → tick b ≤ 0 → b ≡ false
tick_none true le = absurd (omega (arith, le))
tick_none false le = refl

-- ---- counts of ranges

pub count_less_in : (p p' : ℕ → Bool) (k n : ℕ) → ((v : ℕ) → k ≤ v → v < k + n → tick (p v) ≤ tick (p' v)) → count p k n ≤ count p' k n
count_less_in p p' k zero h = omega arith
count_less_in p p' k (suc n) h =
    let a = h k (omega arith) (omega arith) in
    let b = count_less_in p p' (k + 1) n (λ v from below. h v (omega (arith, from)) (omega (arith, below))) in
    omega (arith, a, b)

pub none_count : (p : ℕ → Bool) (k n : ℕ) → lowest p k n ≡ None → count p k n ≡ 0
none_count p k zero e = refl
none_count p k (suc n) e = by (λ f. none_count p (k + 1) n f) (p k) refl e
  where
    by : (lowest p (k + 1) n ≡ None → count p (k + 1) n ≡ 0) → (b : Bool) → p k ≡ b → (if b then Some k else lowest p (k + 1) n) ≡ None → tick (p k) + count p (k + 1) n ≡ 0
    by ih true is f = absurd (none-some k (sym f))
    by ih false is f = (let a = ih f in let b = ap tick is in omega (arith, a, b))

-- where the lowest is none, none passes
pub lowest_none : (p : ℕ → Bool) (k n r : ℕ) → lowest p k n ≡ None → k ≤ r → r < k + n → p r ≡ false
lowest_none p k zero r e le lt = absurd (omega (arith, le, lt))
lowest_none p k (suc n) r e le lt = by (λ f far. lowest_none p (k + 1) n r f far (omega (arith, lt))) (p k) refl e (k == r) refl
  where
    further : (k == r) ≡ false → k + 1 ≤ r
    further f = grind (arith, nat_tests)

    by : (lowest p (k + 1) n ≡ None → k + 1 ≤ r → p r ≡ false) → (b : Bool) → p k ≡ b → (if b then Some k else lowest p (k + 1) n) ≡ None → (c : Bool) → (k == r) ≡ c → p r ≡ false
    by ih true is f c g = absurd (none-some k (sym f))
    by ih false is f true g = ap p (sym (eqb-true k r g)) ∙ is
    by ih false is f false g = ih f (further g)

-- ---- how many registers a pool has

count_shift : (p p' : ℕ → Bool) → ((r : ℕ) → p (r + 1) ≡ p' r) → (k n : ℕ) → count p (k + 1) n ≡ count p' k n
count_shift p p' h k zero = refl
count_shift p p' h k (suc n) =
    let a = ap tick (h k) in
    let b = count_shift p p' h (k + 1) n in
    omega (arith, a, b)

tick_digit : (m : ℕ) → m < 2 → tick (m == 1) ≡ m
tick_digit zero lt = refl
tick_digit (suc zero) lt = refl
tick_digit (suc (suc m)) lt = absurd (omega (arith, lt))

pub ones_counted : (k n : ℕ) → n < 2 ^ k → count_ones n ≡ count (λ r. bit_at n r == 1) 0 k
ones_counted zero n lt = (let a = ones-le 0 n lt in omega (arith, a))
ones_counted (suc k) n lt =
    let double = pow-suc 2 k in
    let half : n / 2 < 2 ^ k = omega (arith, lt, double) in
    let step = ones_step n in
    let rest = ones_counted k (n / 2) half in
    let shifted = count_shift (λ r. bit_at n r == 1) (λ r. bit_at (n / 2) r == 1) (λ r. next r) 0 k in
    let low = bit_at_lowest n in
    let digit = tick_digit (bit_at n 0) (omega (arith, low)) in
    omega (arith, step, rest, shifted, low, digit)
  where
    next : (r : ℕ) → (bit_at n (r + 1) == 1) ≡ (bit_at (n / 2) r == 1)
    next r = ap (λ j. bit_at n j == 1) (let e : r + 1 ≡ suc r = omega arith in e) ∙ ap (λ x. x == 1) (bit_at-suc n r)

-- ---- how many elements pass

module _ {X : Type 0} (p : X → Bool) where
  pub any_total : (xs : List X) → tick (list_any p xs) ≤ total (λ (x : X). tick (p x)) xs
  any_total [] = omega arith
  any_total (x ∷ xs) = (let a = tick_or (p x) (list_any p xs) in let b = any_total xs in omega (arith, a, b))

  -- where none passes
  pub none_total : (xs : List X) → list_any p xs ≡ false → total (λ (x : X). tick (p x)) xs ≡ 0
  none_total [] e = refl
  none_total (x ∷ xs) e = by (λ f. none_total xs f) (p x) refl e
    where
      by : (list_any p xs ≡ false → total (λ (y : X). tick (p y)) xs ≡ 0) → (b : Bool) → p x ≡ b → (b || list_any p xs) ≡ false → tick (p x) + total (λ (y : X). tick (p y)) xs ≡ 0
      by ih true is f = absurd (cc)
      by ih false is f = (let a = ih f in let b = ap tick is in omega (arith, a, b))

  pub total_none : (xs : List X) → total (λ (x : X). tick (p x)) xs ≤ 0 → list_any p xs ≡ false
  total_none xs le = (let a = any_total xs in tick_none (list_any p xs) (omega (arith, a, le)))

  pub none_last : (xs : List X) → last_that p xs ≡ None → All (λ (x : X). p x ≡ false) xs
  none_last [] e = tt
  none_last (x ∷ xs) e = by (last_that p xs) (λ f. none_last xs f) (p x) refl e
    where
      by : (o : Option ℕ) → (o ≡ None → All (λ (x : X). p x ≡ false) xs) → (b : Bool) → p x ≡ b → later_of o (if b then Some 0 else None) ≡ None → (p x ≡ false) × All (λ (x : X). p x ≡ false) xs
      by (Some i) ih b is f = absurd (none-some (i + 1) (sym f))
      by None ih true is f = absurd (none-some 0 (sym f))
      by None ih false is f = (is, ih refl)

  pub none_first : (xs : List X) → first_that p xs ≡ None → All (λ (x : X). p x ≡ false) xs
  none_first [] e = tt
  none_first (x ∷ xs) e = by (first_that p xs) (λ f. none_first xs f) (p x) refl e
    where
      by : (o : Option ℕ) → (o ≡ None → All (λ (x : X). p x ≡ false) xs) → (b : Bool) → p x ≡ b → (if b then Some 0 else behind_one o) ≡ None → (p x ≡ false) × All (λ (x : X). p x ≡ false) xs
      by o ih true is f = absurd (none-some 0 (sym f))
      by (Some i) ih false is f = absurd (none-some (i + 1) (sym f))
      by None ih false is f = (is, ih refl)

module _ {X Y : Type 0} (f : X → Y) (p : Y → Bool) where
  pub map_total : (xs : List X) → tick (list_any p (map f xs)) ≤ total (λ (x : X). tick (p (f x))) xs
  map_total [] = omega arith
  map_total (x ∷ xs) = (let a = tick_or (p (f x)) (list_any p (map f xs)) in let b = map_total xs in omega (arith, a, b))

  pub map_at : (xs : List X) (i : ℕ) (y : Y) → slice_get (map f xs) i ≡ Some y → tick (p y) ≤ total (λ (x : X). tick (p (f x))) xs
  map_at [] i y e = absurd (none-some y e)
  map_at (x ∷ xs) zero y e = (let a = ap (λ z. tick (p z)) (same_Some (f x) y e) in omega (arith, a))
  map_at (x ∷ xs) (suc i) y e = (let a = map_at xs i y e in omega (arith, a))

-- ---- totals of lists that are turned round or parted

module _ {X : Type 0} (f : X → ℕ) where
  pub total_reverse : (xs : List X) → total f (reverse xs) ≡ total f xs
  total_reverse [] = refl
  total_reverse (x ∷ xs) =
      let turned = ap (total f) (reverse_onto xs x []) in
      let parts = total_append f (reverse xs) (x ∷ []) in
      let rest = total_reverse xs in
      omega (arith, turned, parts, rest)

  pub total_parted : (n : ℕ) (xs : List X) → total f (take n xs) + total f (drop n xs) ≡ total f xs
  total_parted zero xs = omega arith
  total_parted (suc n) [] = refl
  total_parted (suc n) (x ∷ xs) = (let a = total_parted n xs in omega (arith, a))

-- ---- what makes a register free: it is of the pool, no entry below holds it, and no symbol, unless theirs were given back

pub free_parts : (p b g s : Bool) → (p && (not b && (g || not s))) ≡ true → (p ≡ true) × (b ≡ false) × (g ≡ false → s ≡ false)
free_parts false b g s e = absurd (cc)
free_parts true true g s e = absurd (cc)
free_parts true false true s e = (refl, refl, λ f. absurd (cc))
free_parts true false false true e = absurd (cc)
free_parts true false false false e = (refl, refl, λ f. refl)

pub made_free : (p b g s : Bool) → p ≡ true → b ≡ false → (g ≡ false → s ≡ false) → (p && (not b && (g || not s))) ≡ true
made_free false b g s e f h = absurd (cc)
made_free true true g s e f h = absurd (cc)
made_free true false true s e f h = refl
made_free true false false true e f h = absurd (let k = h refl in true≢false k)
made_free true false false false e f h = refl

pub not_free : (p b g s : Bool) → (p && (not b && (g || not s))) ≡ false → b ≡ false → (g ≡ false → s ≡ false) → p ≡ false
not_free false b g s e f h = refl
not_free true true g s e f h = absurd (cc)
not_free true false true s e f h = absurd (cc)
not_free true false false true e f h = absurd (let k = h refl in true≢false k)
not_free true false false false e f h = absurd (cc)
