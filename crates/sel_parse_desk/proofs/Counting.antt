-- Counts of the entries that hold a register or a frame word.
use Rattle.std.proofs.Common.{◌≡◌, ℕ, zero, suc, ◌+◌, ◌<◌, ◌≤◌, List, [], ◌∷◌, ◌++◌, length, set, take, drop, get_or, count_by, Bool, true, false, cond, refl, ap}
use Rattle.std.proofs.Common.{sym, ◌∙◌, subst, arith}
use Rattle.std.specs.Prelude.{◌==◌, ◌||◌, not}
use Rattle.std.specs.List.{list_any}
use Rattle.std.proofs.lemmas.Bool.{ne_eqb}
use Rattle.std.proofs.lemmas.List.Sums.{sum_by-set, sum_by-cons}
use Rattle.sel_parse_desk.specs.Tallied.{one}

module _ {X : Type 0} (p : X → Bool) where
  pub count-cons : (x : X) (xs : List X) → count_by p (x ∷ xs) ≡ one (p x) + count_by p xs
  count-cons x xs = sum_by-cons (λ (y : X). cond (p y) 1 0) x xs

  pub count-snoc : (xs : List X) (x : X) → count_by p (xs ++ x ∷ []) ≡ count_by p xs + one (p x)
  count-snoc [] x = let e = count-cons x [] in omega (arith, e)
  count-snoc (y ∷ xs) x =
      let ih = count-snoc xs x in
      let e = count-cons y (xs ++ x ∷ []) in
      let f = count-cons y xs in
      omega (arith, ih, e, f)

  pub count-set : (xs : List X) (i : ℕ) (x y : X) → i < length xs → y ≡ get_or xs i y → count_by p (set xs i x) + one (p y) ≡ count_by p xs + one (p x)
  count-set xs i x y lt e =
      subst (λ z. count_by p (set xs i x) + one (p z) ≡ count_by p xs + one (p x)) (sym e) (sum_by-set (λ (z : X). cond (p z) 1 0) xs i x y lt)

  pub count-parts : (n : ℕ) (xs : List X) → count_by p (take n xs) + count_by p (drop n xs) ≡ count_by p xs
  count-parts zero xs = let z : count_by p [] ≡ 0 = refl in omega (arith, z)
  count-parts (suc n) [] = refl
  count-parts (suc n) (x ∷ xs) =
      let ih = count-parts n xs in
      let e = count-cons x xs in
      let f = count-cons x (take n xs) in
      omega (arith, ih, e, f)

  -- whether there is one to count
  pub count-some : (xs : List X) → not (count_by p xs == 0) ≡ list_any p xs
  count-some [] = refl
  count-some (x ∷ xs) = by (p x) (count_by p xs) (count_by p (x ∷ xs)) (count-cons x xs) (list_any p xs) (count-some xs)
    where
      by : (b : Bool) (n m : ℕ) → m ≡ one b + n → (c : Bool) → not (n == 0) ≡ c → not (m == 0) ≡ (b || c)
      by true n zero e c ih = absurd (omega (arith, e))
      by true n (suc m) e c ih = ap (λ (b : Bool). not b) (ne_eqb (suc m) 0 (λ q. omega (arith, q)))
      by false n m e c ih = ap (λ (k : ℕ). not (k == 0)) (let s : m ≡ n = omega (arith, e) in s) ∙ ih

  pub count-more : (xs : List X) (i : ℕ) (x : X) → i < length xs → x ≡ get_or xs i x → count_by p (take (i + 1) xs) ≡ count_by p (take i xs) + one (p x)
  count-more [] i x lt e = absurd (omega (arith, lt))
  count-more (y ∷ xs) zero x lt e =
      let c = count-cons y [] in
      let z : count_by p [] ≡ 0 = refl in
      let s : one (p y) ≡ one (p x) = ap (λ (a : X). one (p a)) (sym e) in
      omega (arith, c, z, s)
  count-more (y ∷ xs) (suc i) x lt e =
      let ih = count-more xs i x (omega (arith, lt)) e in
      let c = count-cons y (take (i + 1) xs) in
      let d = count-cons y (take i xs) in
      let s : count_by p (take (suc i + 1) (y ∷ xs)) ≡ count_by p (y ∷ take (i + 1) xs) = ap (λ (j : ℕ). count_by p (take j (y ∷ xs))) (let t : suc i + 1 ≡ suc (i + 1) = omega arith in t) in
      omega (arith, ih, c, d, s)

  -- one element is counted in no more than all
  pub count-one : (xs : List X) (i : ℕ) (x : X) → i < length xs → x ≡ get_or xs i x → count_by p (take i xs) + one (p x) ≤ count_by p xs
  count-one xs i x lt e =
      let m = count-more xs i x lt e in
      let n = count-parts (i + 1) xs in
      omega (arith, m, n)
