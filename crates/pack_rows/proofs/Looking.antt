-- Where a row's exceptions stand among all, and what stands at a column.
use Rattle.std.proofs.Common.{◌≡◌, ℕ, zero, suc, ◌+◌, ◌-◌, ◌^◌, ◌<◌, ◌≤◌, List, [], ◌∷◌, ◌++◌, Bool, true, false, cond, length, get_or}
use Rattle.std.proofs.Common.{map, take, drop, refl, sym, ap, ◌∙◌, subst, ⊎_elim, Some, None, Ok, Err, arith, length-append, length-drop}
use Rattle.std.specs.Prelude.{◌==◌, not}
use Rattle.std.specs.List.{flat_map}
use Rattle.std.specs.List.Sorted.{IsBinarySearchResult}
use Rattle.std.specs.Ordering.{nat_cmp}
use Rattle.std.proofs.lemmas.Bool.{eqb-true, cases_lt}
use Rattle.std.proofs.lemmas.List.{take_more, length-map, get_or-map, length-take-le, get_or-take, get_or-drop}
use Rattle.std.proofs.lemmas.List.Concat.{flat_map-append, get_or-flat_map}
use Rattle.std.proofs.lemmas.List.Elements.{All-get_or}
use Rattle.std.proofs.lemmas.List.Folds.{length-flat_map-take}
use Rattle.std.proofs.lemmas.List.Sorted.{searched}
use Rattle.pack_rows.specs.declared.packed.Packed.{Packed}
use Rattle.pack_rows.specs.Rows.{default_of, columns_from, other_than, exceptions, columns}
use Rattle.pack_rows.specs.Places.{IsRising, IsPlaceOf}
use Rattle.pack_rows.specs.Packed.{starts_from, packed, IsWithin}

-- as many columns as exceptions
pub length-columns : (d n : ℕ) (row : List ℕ) → length (columns_from d n row) ≡ length (other_than d row)
length-columns d n [] = refl
length-columns d n (x ∷ row) = by (x == d) (length-columns d (n + 1) row)
  where
    by : (b : Bool) → length (columns_from d (n + 1) row) ≡ length (other_than d row)
        → length (cond b (columns_from d (n + 1) row) (n ∷ columns_from d (n + 1) row)) ≡ length (cond (not b) (x ∷ other_than d row) (other_than d row))
    by true e = e
    by false e = ap suc e

-- columns aren't below the first that is counted
columns_above : (d n : ℕ) (row : List ℕ) (k : ℕ) → k < length (columns_from d n row) → n ≤ get_or (columns_from d n row) k 0
columns_above d n [] k lt = absurd (omega (arith, lt))
columns_above d n (x ∷ row) k lt = by (x == d) (columns_above d (n + 1) row) k lt
  where
    by : (b : Bool) → ((j : ℕ) → j < length (columns_from d (n + 1) row) → n + 1 ≤ get_or (columns_from d (n + 1) row) j 0)
        → (j : ℕ) → j < length (cond b (columns_from d (n + 1) row) (n ∷ columns_from d (n + 1) row))
        → n ≤ get_or (cond b (columns_from d (n + 1) row) (n ∷ columns_from d (n + 1) row)) j 0
    by true f j h = let le = f j h in omega (arith, le)
    by false f zero h = omega arith
    by false f (suc j) h = let le = f j (omega (arith, h)) in omega (arith, le)

-- columns rise
pub columns_rise : (d n : ℕ) (row : List ℕ) (i j : ℕ) → i ≤ j → j < length (columns_from d n row) → get_or (columns_from d n row) i 0 ≤ get_or (columns_from d n row) j 0
columns_rise d n [] i j le lt = absurd (omega (arith, lt))
columns_rise d n (x ∷ row) i j le lt = by (x == d) (columns_rise d (n + 1) row) i j le lt
  where
    by : (b : Bool) → ((p q : ℕ) → p ≤ q → q < length (columns_from d (n + 1) row) → get_or (columns_from d (n + 1) row) p 0 ≤ get_or (columns_from d (n + 1) row) q 0)
        → (p q : ℕ) → p ≤ q → q < length (cond b (columns_from d (n + 1) row) (n ∷ columns_from d (n + 1) row))
        → get_or (cond b (columns_from d (n + 1) row) (n ∷ columns_from d (n + 1) row)) p 0
        ≤ get_or (cond b (columns_from d (n + 1) row) (n ∷ columns_from d (n + 1) row)) q 0
    by true f p q h k = f p q h k
    by false f zero zero h k = omega arith
    by false f zero (suc q) h k = let a = columns_above d (n + 1) row q (omega (arith, k)) in omega (arith, a)
    by false f (suc p) zero h k = absurd (omega (arith, h))
    by false f (suc p) (suc q) h k = f p q (omega (arith, h)) (omega (arith, k))

-- the exception that stands for a column is the entry there
pub exception_at : (d n : ℕ) (row : List ℕ) (k c : ℕ) → k < length (columns_from d n row) → get_or (columns_from d n row) k 0 ≡ n + c → get_or (other_than d row) k 0 ≡ get_or row c 0
exception_at d n [] k c lt e = absurd (omega (arith, lt))
exception_at d n (x ∷ row) k c lt e = by (x == d) (exception_at d (n + 1) row) k c lt e
  where
    by : (b : Bool) → ((j m : ℕ) → j < length (columns_from d (n + 1) row) → get_or (columns_from d (n + 1) row) j 0 ≡ n + 1 + m → get_or (other_than d row) j 0 ≡ get_or row m 0)
        → (j m : ℕ) → j < length (cond b (columns_from d (n + 1) row) (n ∷ columns_from d (n + 1) row))
        → get_or (cond b (columns_from d (n + 1) row) (n ∷ columns_from d (n + 1) row)) j 0 ≡ n + m
        → get_or (cond (not b) (x ∷ other_than d row) (other_than d row)) j 0 ≡ get_or (x ∷ row) m 0
    by true f j zero h g = let a = columns_above d (n + 1) row j h in absurd (omega (arith, a, g))
    by true f j (suc m) h g = f j m h (g ∙ omega arith)
    by false f zero zero h g = refl
    by false f zero (suc m) h g = absurd (omega (arith, g))
    by false f (suc j) zero h g = let a = columns_above d (n + 1) row j (omega (arith, h)) in absurd (omega (arith, a, g))
    by false f (suc j) (suc m) h g = f j m (omega (arith, h)) (g ∙ omega arith)

-- where no exception stands for a column, the entry there is the default
pub default_at : (d n : ℕ) (row : List ℕ) (c : ℕ) → c < length row → ((k : ℕ) → k < length (columns_from d n row) → get_or (columns_from d n row) k 0 ≡ n + c → ⊥) → d ≡ get_or row c 0
default_at d n [] c lt f = absurd (omega (arith, lt))
default_at d n (x ∷ row) c lt f = by (x == d) refl (default_at d (n + 1) row) c lt f
  where
    by : (b : Bool) → (x == d) ≡ b
        → ((m : ℕ) → m < length row → ((k : ℕ) → k < length (columns_from d (n + 1) row) → get_or (columns_from d (n + 1) row) k 0 ≡ n + 1 + m → ⊥) → d ≡ get_or row m 0)
        → (m : ℕ) → m < length (x ∷ row)
        → ((k : ℕ) → k < length (cond b (columns_from d (n + 1) row) (n ∷ columns_from d (n + 1) row))
        → get_or (cond b (columns_from d (n + 1) row) (n ∷ columns_from d (n + 1) row)) k 0 ≡ n + m → ⊥) → d ≡ get_or (x ∷ row) m 0
    by true e f zero h g = sym (eqb-true x d e)
    by true e f (suc m) h g = f m (omega (arith, h)) (λ k l i. g k l (i ∙ omega arith))
    by false e f zero h g = absurd (g 0 (omega arith) (omega arith))
    by false e f (suc m) h g = f m (omega (arith, h)) (λ k l i. g (suc k) (omega (arith, l)) (i ∙ omega arith))

-- the place of a row's first exception, and of the one behind its last
pub start_at : (n : ℕ) (rows : List (List ℕ)) (i : ℕ) → i ≤ length rows → get_or (starts_from n rows) i 0 ≡ n + length (flat_map exceptions (take i rows))
start_at n [] zero le = omega arith
start_at n [] (suc i) le = absurd (omega (arith, le))
start_at n (row ∷ rows) zero le = omega arith
start_at n (row ∷ rows) (suc i) le =
    let l = length-append (exceptions row) (flat_map exceptions (take i rows)) in
    start_at (n + length (exceptions row)) rows i (omega (arith, le)) ∙ omega (arith, l)

pub length-starts : (n : ℕ) (rows : List (List ℕ)) → length (starts_from n rows) ≡ length rows + 1
length-starts n [] = refl
length-starts n (row ∷ rows) = let e = length-starts (n + length (exceptions row)) rows in omega (arith, e)

-- so many columns as exceptions stand before each row
same_lengths : (rows : List (List ℕ)) → length (flat_map columns rows) ≡ length (flat_map exceptions rows)
unfolding columns exceptions
same_lengths [] = refl
same_lengths (row ∷ rows) =
    let a = length-append (columns row) (flat_map columns rows) in
    let b = length-append (exceptions row) (flat_map exceptions rows) in
    let h = length-columns (default_of row) 0 row in
    let r = same_lengths rows in
    omega (arith, a, b, h, r)

length-row : (row : List ℕ) → length (columns row) ≡ length (exceptions row)
unfolding columns exceptions
length-row row = length-columns (default_of row) 0 row

-- the exceptions of a row stand from one place up to another, and what stands there
pub record IsSpan (rows : List (List ℕ)) (i from to : ℕ) (cs es ds : List ℕ) : Type 0 where
  pub ordered : from ≤ to
  pub within : to ≤ length cs
  pub rising : IsRising cs from to
  pub entry_in : to ≤ length es
  pub default_in : i < length ds
  pub found : (c k : ℕ) → from ≤ k → k < to → get_or cs k 0 ≡ c → get_or es k 0 ≡ get_or (get_or rows i []) c 0
  pub missed : (c : ℕ) → c < length (get_or rows i []) → ((k : ℕ) → from ≤ k → k < to → get_or cs k 0 ≡ c → ⊥) → get_or ds i 0 ≡ get_or (get_or rows i []) c 0

module _ (rows : List (List ℕ)) (i : ℕ) (lt : i < length rows) where
  abbrev row : List ℕ
  row = get_or rows i []

  abbrev from : ℕ
  from = length (flat_map exceptions (take i rows))

  abbrev to : ℕ
  to = from + length (exceptions row)

  upto : length (flat_map exceptions (take (i + 1) rows)) ≡ to
  upto = ap (λ (x : List (List ℕ)). length (flat_map exceptions x)) (take_more rows i [] lt)
      ∙ (ap (λ (x : List ℕ). length x) (flat_map-append exceptions (take i rows) (row ∷ []))
      ∙ (let a = length-append (flat_map exceptions (take i rows)) (exceptions row ++ []) in
      let b = length-append (exceptions row) [] in omega (arith, a, b)))

  below : to ≤ length (flat_map exceptions rows)
  below = length-flat_map-take exceptions rows i [] lt

  column_at : (k : ℕ) → from ≤ k → k < to → get_or (flat_map columns rows) k 0 ≡ get_or (columns row) (k - from) 0
  column_at k ge h =
      let l : length (flat_map columns (take i rows)) ≡ from = same_lengths (take i rows) in
      let n = length-row row in
      ap (λ (m : ℕ). get_or (flat_map columns rows) m 0) (omega (arith, l, ge)) ∙ get_or-flat_map columns rows i (k - from) [] 0 lt (omega (arith, ge, h, n))

  entry_at : (k : ℕ) → from ≤ k → k < to → get_or (flat_map exceptions rows) k 0 ≡ get_or (exceptions row) (k - from) 0
  entry_at k ge h =
      ap (λ (m : ℕ). get_or (flat_map exceptions rows) m 0) (omega (arith, ge)) ∙ get_or-flat_map exceptions rows i (k - from) [] 0 lt (omega (arith, ge, h))

  rise : (j k : ℕ) → j ≤ k → k < length (columns row) → get_or (columns row) j 0 ≤ get_or (columns row) k 0
  unfolding columns
  rise j k le h = columns_rise (default_of row) 0 row j k le h

  exception : (k c : ℕ) → k < length (columns row) → get_or (columns row) k 0 ≡ c → get_or (exceptions row) k 0 ≡ get_or row c 0
  unfolding columns exceptions
  exception k c h e = exception_at (default_of row) 0 row k c h (e ∙ omega arith)

  default : (c : ℕ) → c < length row → ((k : ℕ) → k < length (columns row) → get_or (columns row) k 0 ≡ c → ⊥) → default_of row ≡ get_or row c 0
  unfolding columns
  default c h f = default_at (default_of row) 0 row c h (λ k l e. f k l (e ∙ omega arith))

  pub span : IsSpan rows i from to (flat_map columns rows) (flat_map exceptions rows) (map default_of rows)
  span = record {
    ordered = omega arith;
    within = (let l = same_lengths rows in let b = below in omega (arith, l, b));
    rising = record {
      each = λ j k ge le h. (let n = length-row row in
          let r = rise (j - from) (k - from) (omega (arith, ge, le)) (omega (arith, ge, le, h, n)) in
          let a = column_at j ge (omega (arith, le, h)) in
          let b = column_at k (omega (arith, ge, le)) h in
          omega (arith, r, a, b));
    };
    entry_in = below;
    default_in = (let l = length-map rows default_of in omega (arith, l, lt));
    found = λ c k ge h e. (let n = length-row row in
        entry_at k ge h ∙ exception (k - from) c (omega (arith, ge, h, n)) (sym (column_at k ge h) ∙ e));
    missed = λ c h f. get_or-map default_of rows i [] 0 lt ∙ default c h (λ k l e. (let n = length-row row in
        f (from + k) (omega arith) (omega (arith, l, n)) (column_at (from + k) (omega arith) (omega (arith, l, n)) ∙ (ap (λ (m : ℕ). get_or (columns row) m 0) (omega arith) ∙ e))));
  }

-- the same of lists that are those
pub span_of : (rows : List (List ℕ)) (i : ℕ) (from to : ℕ) (cs es ds : List ℕ) → i < length rows
    → from ≡ get_or (starts_from 0 rows) i 0 → to ≡ get_or (starts_from 0 rows) (i + 1) 0
    → cs ≡ flat_map columns rows → es ≡ flat_map exceptions rows → ds ≡ map default_of rows → IsSpan rows i from to cs es ds
span_of rows i from to cs es ds lt a b c d e =
    let x : length (flat_map exceptions (take i rows)) ≡ from = sym (a ∙ (start_at 0 rows i (omega (arith, lt)) ∙ omega arith)) in
    let y : length (flat_map exceptions (take i rows)) + length (exceptions (get_or rows i [])) ≡ to =
    sym (b ∙ (start_at 0 rows (i + 1) (omega (arith, lt)) ∙ (let u = upto rows i lt in omega (arith, u)))) in
    subst (λ (q : ℕ × ℕ × List ℕ × List ℕ × List ℕ). IsSpan rows i q.0 q.1 q.2 q.3 q.4) (λ j. (x j, y j, sym c j, sym d j, sym e j)) (span rows i lt)

-- what is packed holds a row's exceptions so
module _ (rows : List (List ℕ)) (p : Packed) (i c : ℕ) (w : IsWithin rows p i c) where
  pub starts_in : (ss : List ℕ) → ss ≡ p.starts → i + 1 < length ss
  unfolding packed
  starts_in ss e =
      let l : length ss ≡ length rows + 1 = ap (λ (x : List ℕ). length x) (e ∙ ap (λ (q : Packed). q.starts) w.is) ∙ length-starts 0 rows in
      let lt = w.row_in in
      omega (arith, l, lt)

  pub span_in : (ss ss' cs es ds : List ℕ) → ss ≡ p.starts → ss' ≡ p.starts → cs ≡ p.columns → es ≡ p.entries → ds ≡ p.defaults
      → IsSpan rows i (get_or ss i 0) (get_or ss' (i + 1) 0) cs es ds
  unfolding packed
  span_in ss ss' cs es ds a b d e f = span_of rows i (get_or ss i 0) (get_or ss' (i + 1) 0) cs es ds w.row_in
      (ap (λ (x : List ℕ). get_or x i 0) (a ∙ ap (λ (q : Packed). q.starts) w.is)) (ap (λ (x : List ℕ). get_or x (i + 1) 0) (b ∙ ap (λ (q : Packed). q.starts) w.is))
      (d ∙ ap (λ (q : Packed). q.columns) w.is) (e ∙ ap (λ (q : Packed). q.entries) w.is) (f ∙ ap (λ (q : Packed). q.defaults) w.is)

  pub narrow : c < 2 ^ 32
  narrow =
      let l : length (get_or rows i []) ≡ w.are_rows.width = All-get_or (λ (row : List ℕ). length row ≡ w.are_rows.width) rows i [] w.row_in w.are_rows.each in
      let n = w.are_rows.narrow in
      let lt = w.column_in in
      omega (arith, l, n, lt)

-- what halving finds in a part of a list
module _ (xs : List ℕ) (from to x : ℕ) (o : from ≤ to) (w : to ≤ length xs) (r : IsRising xs from to) where
  abbrev part : List ℕ
  part = take (to - from) (drop from xs)

  part_length : length part ≡ to - from
  part_length = length-take-le (to - from) (drop from xs) (let l = length-drop from xs in omega (arith, l, w))

  part_at : (k : ℕ) → k < to - from → get_or part k 0 ≡ get_or xs (from + k) 0
  part_at k lt = get_or-take (to - from) (drop from xs) k 0 lt ∙ get_or-drop from xs k 0

  part_rises : (i j : ℕ) → i ≤ j → j < length part → get_or part i 0 ≤ get_or part j 0
  part_rises i j le lt =
      let l = part_length in
      let a = part_at i (omega (arith, l, le, lt)) in
      let b = part_at j (omega (arith, l, lt)) in
      let c = r.each (from + i) (from + j) (omega arith) (omega (arith, le)) (omega (arith, l, lt)) in
      omega (arith, a, b, c)

  pub found_at : (k : ℕ) → IsBinarySearchResult (λ (y : ℕ). nat_cmp y x) part (Ok k) → IsPlaceOf xs from to x (Some (from + k))
  found_at k h =
      let f = searched part x (Ok k) h part_rises in
      let l = part_length in
      let lt : k < to - from = (let a = f.0 in omega (arith, l, a)) in
      (omega arith, omega (arith, lt, o), sym (part_at k lt) ∙ f.1)

  pub found_not : (k : ℕ) → IsBinarySearchResult (λ (y : ℕ). nat_cmp y x) part (Err k) → IsPlaceOf xs from to x None
  found_not k h = λ m ge lt e.
      let f = searched part x (Err k) h part_rises in
      let l = part_length in
      let a = part_at (m - from) (omega (arith, ge, lt)) in
      let s : get_or xs (from + (m - from)) 0 ≡ x = ap (λ (n : ℕ). get_or xs n 0) (omega (arith, ge)) ∙ e in
      ⊎_elim
      (λ b. (let g = f.1 (m - from) b in omega (arith, a, s, g)))
      (λ b. (let g = f.2 (m - from) b (omega (arith, l, ge, lt)) in omega (arith, a, s, g)))
      (cases_lt (m - from) k)
