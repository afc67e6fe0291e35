-- Lists that are turned round or mapped, and searches in them.
use Rattle.std.proofs.Common.{◌≡◌, ℕ, zero, suc, ◌+◌, ◌-◌, ◌<◌, ◌≤◌, List, [], ◌∷◌, ◌++◌, length, map, slice_get, Option, Some, None, Bool, true, false, refl, sym, ap, ◌∙◌, arith}
use Rattle.std.specs.Prelude.{reverse, slice_set, ◌||◌, if◌then◌else◌}
use Rattle.std.specs.List.{AllByRecursion as All, list_any}
use Rattle.std.proofs.lemmas.List.{length-reverse, map-append}
use Rattle.std.proofs.lemmas.Grind.{reverse_onto}
use Rattle.std.proofs.lemmas.List.Folds.{list_any-append}
use Rattle.std.proofs.lemmas.Option.{none-some, same_Some}
use Rattle.gg_base.proofs.Facts.{slice_seam}
use Rattle.sel_target.specs.Symbols.{lowest, behind_one, first_that}
use Rattle.sel_parse_slots.specs.sel_parse_selected.specs.Spills as selected_spills

module _ {X : Type 0} where
  pub turned_cons : (x : X) (xs : List X) → reverse (x ∷ xs) ≡ reverse xs ++ x ∷ []
  turned_cons x xs = reverse_onto xs x []

  get_left : (xs ys : List X) (i : ℕ) → i < length xs → slice_get (xs ++ ys) i ≡ slice_get xs i
  get_left [] ys i lt = absurd (omega (arith, lt))
  get_left (x ∷ xs) ys zero lt = refl
  get_left (x ∷ xs) ys (suc i) lt = get_left xs ys i (omega (arith, lt))

  set_left : (xs ys : List X) (i : ℕ) (y : X) → i < length xs → slice_set (xs ++ ys) i y ≡ slice_set xs i y ++ ys
  set_left [] ys i y lt = absurd (omega (arith, lt))
  set_left (x ∷ xs) ys zero y lt = refl
  set_left (x ∷ xs) ys (suc i) y lt = ap (λ l. x ∷ l) (set_left xs ys i y (omega (arith, lt)))

  set_seam : (xs : List X) (x y : X) (ys : List X) → slice_set (xs ++ x ∷ ys) (length xs) y ≡ xs ++ y ∷ ys
  set_seam [] x y ys = refl
  set_seam (z ∷ xs) x y ys = ap (λ l. z ∷ l) (set_seam xs x y ys)

  pub turned_get : (xs : List X) (j : ℕ) → j < length xs → slice_get (reverse xs) (length xs - suc j) ≡ slice_get xs j
  turned_get [] j lt = absurd (omega (arith, lt))
  turned_get (x ∷ xs) zero lt =
      let n = length-reverse xs in
      let i : length (x ∷ xs) - suc zero ≡ length (reverse xs) = omega (arith, n) in
      ap (λ l. slice_get l (length (x ∷ xs) - suc zero)) (turned_cons x xs) ∙ ap (slice_get (reverse xs ++ x ∷ [])) i ∙ slice_seam (reverse xs) x []
  turned_get (x ∷ xs) (suc j) lt =
      let n = length-reverse xs in
      let i : length (x ∷ xs) - suc (suc j) ≡ length xs - suc j = omega arith in
      ap (λ l. slice_get l (length (x ∷ xs) - suc (suc j))) (turned_cons x xs) ∙ ap (slice_get (reverse xs ++ x ∷ [])) i
      ∙ get_left (reverse xs) (x ∷ []) (length xs - suc j) (omega (arith, n, lt)) ∙ turned_get xs j (omega (arith, lt))

  pub turned_set : (xs : List X) (j : ℕ) (y : X) → j < length xs → slice_set (reverse xs) (length xs - suc j) y ≡ reverse (slice_set xs j y)
  turned_set [] j y lt = absurd (omega (arith, lt))
  turned_set (x ∷ xs) zero y lt =
      let n = length-reverse xs in
      let i : length (x ∷ xs) - suc zero ≡ length (reverse xs) = omega (arith, n) in
      ap (λ l. slice_set l (length (x ∷ xs) - suc zero) y) (turned_cons x xs) ∙ ap (λ k. slice_set (reverse xs ++ x ∷ []) k y) i ∙ set_seam (reverse xs) x y []
      ∙ sym (turned_cons y xs)
  turned_set (x ∷ xs) (suc j) y lt =
      let n = length-reverse xs in
      let i : length (x ∷ xs) - suc (suc j) ≡ length xs - suc j = omega arith in
      ap (λ l. slice_set l (length (x ∷ xs) - suc (suc j)) y) (turned_cons x xs) ∙ ap (λ k. slice_set (reverse xs ++ x ∷ []) k y) i
      ∙ set_left (reverse xs) (x ∷ []) (length xs - suc j) y (omega (arith, n, lt)) ∙ ap (λ l. l ++ x ∷ []) (turned_set xs j y (omega (arith, lt)))
      ∙ sym (turned_cons x (slice_set xs j y))

  last_or : (p : X → Bool) (x : X) (b : Bool) → (b || (p x || false)) ≡ (p x || b)
  last_or p x b = by (p x) b
    where
      by : (a b : Bool) → (b || (a || false)) ≡ (a || b)
      by true true = refl
      by true false = refl
      by false true = refl
      by false false = refl

  pub any_turned : (p : X → Bool) (xs : List X) → list_any p (reverse xs) ≡ list_any p xs
  any_turned p [] = refl
  any_turned p (x ∷ xs) =
      ap (list_any p) (turned_cons x xs) ∙ list_any-append p (reverse xs) (x ∷ []) ∙ ap (λ b. b || (p x || false)) (any_turned p xs) ∙ last_or p x (list_any p xs)

module _ {X Y : Type 0} (f : X → Y) where
  pub map_turned : (xs : List X) → map f (reverse xs) ≡ reverse (map f xs)
  map_turned [] = refl
  map_turned (x ∷ xs) =
      ap (map f) (turned_cons x xs) ∙ map-append f (reverse xs) (x ∷ []) ∙ ap (λ l. l ++ f x ∷ []) (map_turned xs) ∙ sym (turned_cons (f x) (map f xs))

  pub map_set : (xs : List X) (i : ℕ) (x : X) → slice_set (map f xs) i (f x) ≡ map f (slice_set xs i x)
  map_set [] i x = refl
  map_set (y ∷ xs) zero x = refl
  map_set (y ∷ xs) (suc i) x = ap (λ l. f y ∷ l) (map_set xs i x)

  pub map_any : (p : Y → Bool) (p' : X → Bool) (xs : List X) → All (λ x. p (f x) ≡ p' x) xs → list_any p (map f xs) ≡ list_any p' xs
  map_any p p' [] h = refl
  map_any p p' (x ∷ xs) h = ap (λ b. b || list_any p (map f xs)) h.0 ∙ ap (λ b. p' x || b) (map_any p p' xs h.1)

  -- the first that passes
  pub map_first : (p : Y → Bool) (p' : X → Bool) (xs : List X) → All (λ x. p (f x) ≡ p' x) xs → first_that p (map f xs) ≡ first_that p' xs
  map_first p p' [] h = refl
  map_first p p' (x ∷ xs) h =
      ap (λ b. if b then Some 0 else behind_one (first_that p (map f xs))) h.0
      ∙ ap (λ o. if p' x then Some 0 else o) (ap behind_one (map_first p p' xs h.1))

  pub attributes_any : (p : Y → Bool) (xs : List X) → list_any p (map f xs) ≡ list_any (λ x. p (f x)) xs
  attributes_any p [] = refl
  attributes_any p (x ∷ xs) = ap (λ b. p (f x) || b) (attributes_any p xs)

-- ---- the last that passes is the first of the list turned round

abbrev pub counted_back : ℕ → Option ℕ → Option ℕ
counted_back n None = None
counted_back n (Some j) = Some (n - suc j)

module _ {X : Type 0} (p : X → Bool) where
  abbrev or_last : Option ℕ → Option ℕ → Option ℕ
  or_last None o = o
  or_last (Some i) o = Some i

  first_more : (xs : List X) (x : X) → first_that p (xs ++ x ∷ []) ≡ or_last (first_that p xs) (if p x then Some (length xs) else None)
  first_more [] x = by (p x)
    where
      by : (b : Bool) → (if b then Some 0 else behind_one None) ≡ (if b then Some 0 else None)
      by true = refl
      by false = refl
  first_more (y ∷ xs) x = by (p y) (p x) (first_that p xs) (first_more xs x)
    where
      by : (b c : Bool) (o : Option ℕ) → first_that p (xs ++ x ∷ []) ≡ or_last o (if c then Some (length xs) else None)
          → (if b then Some 0 else behind_one (first_that p (xs ++ x ∷ [])))
          ≡ or_last (if b then Some 0 else behind_one o) (if c then Some (length (y ∷ xs)) else None)
      by true c o e = refl
      by false c (Some i) e = ap behind_one e
      by false true None e = ap behind_one e ∙ ap Some (let s : length xs + 1 ≡ length (y ∷ xs) = omega arith in s)
      by false false None e = ap behind_one e

  pub last_turned : (xs : List X) → first_that p (reverse xs) ≡ counted_back (length xs) (selected_spills.last_that p xs)
  last_turned [] = refl
  last_turned (x ∷ xs) =
      ap (first_that p) (turned_cons x xs) ∙ first_more (reverse xs) x ∙ ap (λ o. or_last o (if p x then Some (length (reverse xs)) else None)) (last_turned xs)
      ∙ by (p x) (selected_spills.last_that p xs)
    where
      by : (b : Bool) (o : Option ℕ) → or_last (counted_back (length xs) o) (if b then Some (length (reverse xs)) else None)
          ≡ counted_back (length (x ∷ xs)) (selected_spills.later_of o (if b then Some 0 else None))
      by b (Some j) = ap Some (let s : length xs - suc j ≡ length (x ∷ xs) - suc (j + 1) = omega arith in s)
      by true None = ap Some (let n = length-reverse xs in let s : length (reverse xs) ≡ length (x ∷ xs) - suc 0 = omega (arith, n) in s)
      by false None = refl

  pub last_in : (xs : List X) (j : ℕ) → selected_spills.last_that p xs ≡ Some j → j < length xs
  last_in [] j e = absurd (none-some j e)
  last_in (x ∷ xs) j e = by (p x) (selected_spills.last_that p xs) (λ i f. last_in xs i f) e
    where
      by : (b : Bool) (o : Option ℕ) → ((i : ℕ) → o ≡ Some i → i < length xs) → selected_spills.later_of o (if b then Some 0 else None) ≡ Some j → j < length (x ∷ xs)
      by b (Some i) h f = (let lt = h i refl in let s = same_Some (i + 1) j f in omega (arith, lt, s))
      by true None h f = (let s = same_Some 0 j f in omega (arith, s))
      by false None h f = absurd (none-some j f)

-- ---- the lowest number

pub lowest_same : (p p' : ℕ → Bool) (k n : ℕ) → ((r : ℕ) → k ≤ r → r < k + n → p r ≡ p' r) → lowest p k n ≡ lowest p' k n
lowest_same p p' k zero h = refl
lowest_same p p' k (suc n) h =
    ap (λ b. if b then Some k else lowest p (k + 1) n) (h k (omega arith) (omega arith))
    ∙ ap (λ o. if p' k then Some k else o) (lowest_same p p' (k + 1) n (λ r from below. h r (omega (arith, from)) (omega (arith, below))))
