-- One turn of each loop that packs rows.
use Rattle.std.proofs.Common.{◌≡◌, ℕ, ◌+◌, ◌<◌, ◌≤◌, List, [], ◌∷◌, ◌++◌, Bool, true, false, cond, length, get_or}
use Rattle.std.proofs.Common.{map, take, refl, sym, ap, ap₂, ◌∙◌, arith, append_assoc, append-nil, length-append, eq-eqb}
use Rattle.std.specs.Prelude.{Vec, ◌==◌, not}
use Rattle.std.specs.List.{All, flat_map}
use Rattle.std.specs.declared.alloc.Global.{Global}
use Rattle.std.proofs.lemmas.List.{take_more, take_all, map_push, get_or-map, length-map, length-take-le}
use Rattle.std.proofs.lemmas.Bool.{ne_eqb}
use Rattle.std.proofs.lemmas.List.Elements.{All-get_or}
use Rattle.std.proofs.lemmas.List.Concat.{flat_map-append}
use Rattle.pack_rows.specs.Rows.{default_of, columns_from, other_than, exceptions, columns}
use Rattle.pack_rows.specs.Packed.{rows_in, starts_from, packed}

-- one more entry of a row
columns_push : (d n : ℕ) (xs : List ℕ) (x : ℕ) → columns_from d n (xs ++ x ∷ []) ≡ columns_from d n xs ++ cond (x == d) [] ((n + length xs) ∷ [])
columns_push d n [] x = by (x == d)
  where
    by : (b : Bool) → cond b [] (n ∷ []) ≡ [] ++ cond b [] ((n + 0) ∷ [])
    by true = refl
    by false = ap (λ (m : ℕ). m ∷ []) (omega arith)
columns_push d n (y ∷ xs) x = by (y == d) (columns_push d (n + 1) xs x ∙ ap (λ (m : ℕ). columns_from d (n + 1) xs ++ cond (x == d) [] (m ∷ [])) (omega arith))
  where
    by : (b : Bool) → columns_from d (n + 1) (xs ++ x ∷ []) ≡ columns_from d (n + 1) xs ++ cond (x == d) [] ((n + length (y ∷ xs)) ∷ [])
        → cond b (columns_from d (n + 1) (xs ++ x ∷ [])) (n ∷ columns_from d (n + 1) (xs ++ x ∷ []))
        ≡ cond b (columns_from d (n + 1) xs) (n ∷ columns_from d (n + 1) xs) ++ cond (x == d) [] ((n + length (y ∷ xs)) ∷ [])
    by true e = e
    by false e = ap (λ (l : List ℕ). n ∷ l) e

others_push : (d : ℕ) (xs : List ℕ) (x : ℕ) → other_than d (xs ++ x ∷ []) ≡ other_than d xs ++ cond (x == d) [] (x ∷ [])
others_push d [] x = by (x == d)
  where
    by : (b : Bool) → cond (not b) (x ∷ []) [] ≡ [] ++ cond b [] (x ∷ [])
    by true = refl
    by false = refl
others_push d (y ∷ xs) x = by (y == d) (others_push d xs x)
  where
    by : (b : Bool) → other_than d (xs ++ x ∷ []) ≡ other_than d xs ++ cond (x == d) [] (x ∷ [])
        → cond (not b) (y ∷ other_than d (xs ++ x ∷ [])) (other_than d (xs ++ x ∷ []))
        ≡ cond (not b) (y ∷ other_than d xs) (other_than d xs) ++ cond (x == d) [] (x ∷ [])
    by true e = e
    by false e = ap (λ (l : List ℕ). y ∷ l) e

-- one turn: the entry at a column, which is an exception or the default
pub columns_kept : (d n : ℕ) (row was now : List ℕ) → n < length row → (get_or row n 0 ≡ d → ⊥) → now ≡ was ++ columns_from d 0 (take n row)
    → now ++ n ∷ [] ≡ was ++ columns_from d 0 (take (n + 1) row)
columns_kept d n row was now lt ne h =
    let x = get_or row n 0 in
    let t : take (n + 1) row ≡ take n row ++ x ∷ [] = take_more row n 0 lt in
    let f : (x == d) ≡ false = ne_eqb x d ne in
    let l : 0 + length (take n row) ≡ n = (let k = length-take-le n row (omega (arith, lt)) in omega (arith, k)) in
    ap (λ (y : List ℕ). y ++ n ∷ []) h ∙ (append_assoc was (columns_from d 0 (take n row)) (n ∷ [])
    ∙ ap (λ (y : List ℕ). was ++ y) (sym (ap (columns_from d 0) t ∙ (columns_push d 0 (take n row) x
    ∙ ap₂ (λ (b : Bool) (k : ℕ). columns_from d 0 (take n row) ++ cond b [] (k ∷ [])) f l))))

pub columns_same : (d n : ℕ) (row was now : List ℕ) → n < length row → get_or row n 0 ≡ d → now ≡ was ++ columns_from d 0 (take n row)
    → now ≡ was ++ columns_from d 0 (take (n + 1) row)
columns_same d n row was now lt same h =
    let x = get_or row n 0 in
    let t : take (n + 1) row ≡ take n row ++ x ∷ [] = take_more row n 0 lt in
    let f : (x == d) ≡ true = eq-eqb x d same in
    h ∙ ap (λ (y : List ℕ). was ++ y) (sym (ap (columns_from d 0) t ∙ (columns_push d 0 (take n row) x
    ∙ (ap (λ (b : Bool). columns_from d 0 (take n row) ++ cond b [] ((0 + length (take n row)) ∷ [])) f ∙ append-nil (columns_from d 0 (take n row))))))

pub others_kept : (d n : ℕ) (row was now : List ℕ) → n < length row → (get_or row n 0 ≡ d → ⊥) → now ≡ was ++ other_than d (take n row)
    → now ++ get_or row n 0 ∷ [] ≡ was ++ other_than d (take (n + 1) row)
others_kept d n row was now lt ne h =
    let x = get_or row n 0 in
    let t : take (n + 1) row ≡ take n row ++ x ∷ [] = take_more row n 0 lt in
    let f : (x == d) ≡ false = ne_eqb x d ne in
    ap (λ (y : List ℕ). y ++ x ∷ []) h ∙ (append_assoc was (other_than d (take n row)) (x ∷ [])
    ∙ ap (λ (y : List ℕ). was ++ y) (sym (ap (other_than d) t ∙ (others_push d (take n row) x
    ∙ ap (λ (b : Bool). other_than d (take n row) ++ cond b [] (x ∷ [])) f))))

pub others_same : (d n : ℕ) (row was now : List ℕ) → n < length row → get_or row n 0 ≡ d → now ≡ was ++ other_than d (take n row)
    → now ≡ was ++ other_than d (take (n + 1) row)
others_same d n row was now lt same h =
    let x = get_or row n 0 in
    let t : take (n + 1) row ≡ take n row ++ x ∷ [] = take_more row n 0 lt in
    let f : (x == d) ≡ true = eq-eqb x d same in
    h ∙ ap (λ (y : List ℕ). was ++ y) (sym (ap (other_than d) t ∙ (others_push d (take n row) x
    ∙ (ap (λ (b : Bool). other_than d (take n row) ++ cond b [] (x ∷ [])) f ∙ append-nil (other_than d (take n row))))))

-- the places of the rows' first exceptions
pub fronts_from : ℕ → List (List ℕ) → List ℕ
fronts_from n [] = []
fronts_from n (row ∷ rows) = n ∷ fronts_from (n + length (exceptions row)) rows

pub fronts_push : (n : ℕ) (rows : List (List ℕ)) (row : List ℕ)
    → fronts_from n (rows ++ row ∷ []) ≡ fronts_from n rows ++ (n + length (flat_map exceptions rows)) ∷ []
unfolding fronts_from
fronts_push n [] row = ap (λ (m : ℕ). m ∷ []) (omega arith)
fronts_push n (r ∷ rows) row =
    ap (λ (l : List ℕ). n ∷ l) (fronts_push (n + length (exceptions r)) rows row
    ∙ ap (λ (m : ℕ). fronts_from (n + length (exceptions r)) rows ++ m ∷ []) (omega (arith, length-append (exceptions r) (flat_map exceptions rows))))

-- the places are those fronts, and the place behind all
pub starts_are : (n : ℕ) (rows : List (List ℕ)) → starts_from n rows ≡ fronts_from n rows ++ (n + length (flat_map exceptions rows)) ∷ []
unfolding fronts_from
starts_are n [] = ap (λ (m : ℕ). m ∷ []) (omega arith)
starts_are n (r ∷ rows) =
    ap (λ (l : List ℕ). n ∷ l) (starts_are (n + length (exceptions r)) rows
    ∙ ap (λ (m : ℕ). fronts_from (n + length (exceptions r)) rows ++ m ∷ []) (omega (arith, length-append (exceptions r) (flat_map exceptions rows))))

-- what the first so many rows are packed as, but for the place behind all
pub record IsPackedTo (rows : List (List ℕ)) (ds ss cs es : List ℕ) : Type 0 where
  pub defaults : ds ≡ map default_of rows
  pub starts : ss ≡ fronts_from 0 rows
  pub columns_of : cs ≡ flat_map columns rows
  pub entries : es ≡ flat_map exceptions rows

pub none_packed : (ds ss cs es : List ℕ) → ds ≡ [] → ss ≡ [] → cs ≡ [] → es ≡ [] → IsPackedTo [] ds ss cs es
unfolding fronts_from
none_packed ds ss cs es a b d e = record { defaults = a; starts = b; columns_of = d; entries = e }

-- one row more
pub row_packed : (rows : List (List ℕ)) (row ds ss cs es ds' ss' cs' es' : List ℕ) → IsPackedTo rows ds ss cs es
    → ds' ≡ ds ++ default_of row ∷ [] → ss' ≡ ss ++ length es ∷ [] → cs' ≡ cs ++ columns_from (default_of row) 0 row → es' ≡ es ++ other_than (default_of row) row
    → IsPackedTo (rows ++ row ∷ []) ds' ss' cs' es'
unfolding exceptions columns
row_packed rows row ds ss cs es ds' ss' cs' es' h d s c e = record {
  defaults = d ∙ (ap (λ (x : List ℕ). x ++ default_of row ∷ []) h.defaults ∙ sym (map_push default_of rows row));
  starts = s ∙ (ap₂ (λ (x y : List ℕ). x ++ length y ∷ []) h.starts h.entries ∙ sym (fronts_push 0 rows row ∙ ap (λ (m : ℕ). fronts_from 0 rows ++ m ∷ []) (omega arith)));
  columns_of = c ∙ (ap (λ (x : List ℕ). x ++ columns row) h.columns_of
      ∙ sym (flat_map-append columns rows (row ∷ []) ∙ ap (λ (x : List ℕ). flat_map columns rows ++ x) (append-nil (columns row))));
  entries = e ∙ (ap (λ (x : List ℕ). x ++ exceptions row) h.entries
      ∙ sym (flat_map-append exceptions rows (row ∷ []) ∙ ap (λ (x : List ℕ). flat_map exceptions rows ++ x) (append-nil (exceptions row))));
}

-- the rows of the first so many vectors
pub rows_more : (vs : List (Vec ℕ Global)) (n : ℕ) (v : Vec ℕ Global) → n < length vs → v ≡ get_or vs n v → rows_in (take (n + 1) vs) ≡ rows_in (take n vs) ++ v.items ∷ []
rows_more vs n v lt e =
    ap rows_in (take_more vs n v lt) ∙ (map_push (λ (w : Vec ℕ Global). w.items) (take n vs) (get_or vs n v)
    ∙ ap (λ (w : Vec ℕ Global). rows_in (take n vs) ++ w.items ∷ []) (sym e))

-- all rows, with the place behind all
pub all_packed : (rows : List (List ℕ)) (ds ss cs es ds' ss' cs' es' : List ℕ) → IsPackedTo rows ds ss cs es
    → ds' ≡ ds → ss' ≡ ss ++ length es ∷ [] → cs' ≡ cs → es' ≡ es → record { defaults = ds'; starts = ss'; columns = cs'; entries = es' } ≡ packed rows
unfolding packed
all_packed rows ds ss cs es ds' ss' cs' es' h d s c e =
    let t : ss' ≡ starts_from 0 rows = s ∙ (ap₂ (λ (x y : List ℕ). x ++ length y ∷ []) h.starts h.entries
    ∙ sym (starts_are 0 rows ∙ ap (λ (m : ℕ). fronts_from 0 rows ++ m ∷ []) (omega arith))) in
    let d' = d ∙ h.defaults in
    let c' = c ∙ h.columns_of in
    let e' = e ∙ h.entries in
    λ i. record { defaults = d' i; starts = t i; columns = c' i; entries = e' i }

pub row_length : (vs : List (Vec ℕ Global)) (n : ℕ) (v : Vec ℕ Global) (width : ℕ) → All (λ (row : List ℕ). length row ≡ width) (rows_in vs)
    → n < length vs → v ≡ get_or vs n v → length v.items ≡ width
row_length vs n v width h lt e =
    let l = length-map vs (λ (w : Vec ℕ Global). w.items) in
    ap (λ (w : Vec ℕ Global). length w.items) e ∙ (ap (λ (x : List ℕ). length x) (sym (get_or-map (λ (w : Vec ℕ Global). w.items) vs n v [] lt))
    ∙ All-get_or (λ (row : List ℕ). length row ≡ width) (rows_in vs) n [] (omega (arith, l, lt)) h)

pub rows_all : (vs : List (Vec ℕ Global)) (n : ℕ) → length vs ≤ n → rows_in (take n vs) ≡ rows_in vs
rows_all vs n le = ap rows_in (take_all n vs le)
