-- The sums that a store holds, as tuples.
use Rattle.std.proofs.Common.{◌≡◌, ℕ, zero, suc, ◌≤◌, ◌<◌, List, [], ◌∷◌, ◌++◌, Some, Contains, Bool, true, false, cond, length, get_or, slice_get, refl, sym, ap, ◌∙◌, subst}
use Rattle.std.proofs.Common.{inl, inr, ⊎_elim, arith, eq-eqb}
use Rattle.std.specs.Prelude.{AllPairs, slice_index_or, sum_by, flat_map}
use Rattle.std.specs.Int.{bit_at}
use Rattle.std.proofs.lemmas.Bool.{eqb-true}
use Rattle.std.proofs.lemmas.List.Sums.{sum_by-cons}
use Rattle.std.proofs.lemmas.List.Concat.{length-flat_map}
use Rattle.std.proofs.lemmas.List.{get_or_default}
use Rattle.std.proofs.lemmas.Option.{slice_get_within}
use Rattle.tree_core.specs.declared.token.Tok.{Tok}
use Rattle.md_reader.specs.declared.types.Sym.{Sym}
use Rattle.gg_base.proofs.Facts.{index_of}
use Rattle.lr_tables.specs.Symbols.{number}
use Rattle.lr_tables.proofs.Members.{In, In-left, In-right, In-cases, In-Contains, Contains-In, In-slice_get}
use Rattle.lr_check_found.specs.lr_check_sets.specs.Automaton.{Automaton}
use Rattle.lr_check_found.specs.lr_check_sets.specs.Sums as sets
use Rattle.lr_check_found.specs.Lists.{ListsView, IsList}
use Rattle.lr_check_found.specs.Count.{Tuple, HasMore}
use Rattle.lr_check_found.proofs.Pushing.{one_number}
use Rattle.lr_check_rows.specs.declared.rows.Line.{Line}
use Rattle.lr_check_rows.specs.declared.rows.Row.{Row}
use Rattle.lr_check_rows.specs.Rows.{IsLine}
use Rattle.lr_check_store.specs.Store.{StoreView, slot, IsSound, IsSumIn}
use Rattle.lr_check_store.specs.Counted.{is_in, size_of_line, size_of_row, tuple_of, IsCounted}
use Rattle.lr_check_store.proofs.Holding.{sum_is}

-- ---- lists without repetition

abbrev Apart : {X : Type 0} → List X → Type 0
Apart [] = Unit {0}
Apart {X} (x ∷ xs) = ((z : X) → In z xs → x ≡ z → ⊥) × Apart xs

pairs : {X : Type 0} (xs : List X) → Apart xs → AllPairs (λ (x y : X). x ≡ y → ⊥) xs
pairs [] h i j d lt le = absurd (omega (arith, le))
pairs (x ∷ xs) h zero zero d lt le = absurd (omega (arith, lt))
pairs (x ∷ xs) h zero (suc j) d lt le = h.0 (get_or xs j d) (Contains-In (get_or xs j d) xs (j, omega (arith, le), get_or_default xs j (get_or xs j d) d (omega (arith, le))))
pairs (x ∷ xs) h (suc i) zero d lt le = absurd (omega (arith, lt))
pairs (x ∷ xs) h (suc i) (suc j) d lt le = pairs xs h.1 i j d (omega (arith, lt)) (omega (arith, le))

are_apart : {X : Type 0} (xs : List X) → AllPairs (λ (x y : X). x ≡ y → ⊥) xs → Apart xs
are_apart [] h = tt
are_apart {X} (x ∷ xs) h = (λ z m e. by z (In-Contains z xs m) e, are_apart xs (λ i j d lt le. h (suc i) (suc j) d (omega (arith, lt)) (omega (arith, le))))
  where
    by : (z : X) → Contains xs z → x ≡ z → ⊥
    by z c e = let lt = c.1 in h zero (suc c.0) z (omega arith) (omega (arith, lt)) (e ∙ sym c.2)

append_apart : {X : Type 0} (xs ys : List X) → Apart xs → Apart ys → ((z : X) → In z xs → In z ys → ⊥) → Apart (xs ++ ys)
append_apart [] ys h g apart = g
append_apart (x ∷ xs) ys h g apart = (
  λ z m e. ⊎_elim (λ i. h.0 z i e) (λ i. apart z (inl e) i) (In-cases z xs ys m),
  append_apart xs ys h.1 g (λ z i j. apart z (inr i) j),
)

in_flat : {X Y : Type 0} (f : X → List Y) (y : Y) (xs : List X) → In y (flat_map f xs) → (x : X) × (In x xs × In y (f x))
in_flat f y [] h = absurd h
in_flat {X} f y (x ∷ xs) h = ⊎_elim (λ i. (x, (inl refl, i))) (λ i. let c : (x : X) × (In x xs × In y (f x)) = in_flat f y xs i in (c.0, (inr c.1.0, c.1.1))) (In-cases y (f x) (flat_map f xs) h)

flat_in : {X Y : Type 0} (f : X → List Y) (x : X) (y : Y) (xs : List X) → In x xs → In y (f x) → In y (flat_map f xs)
flat_in f x y [] h i = absurd h
flat_in f x y (z ∷ xs) h i = ⊎_elim (λ e. In-left y (f z) (flat_map f xs) (subst (λ w. In y (f w)) (sym e) i)) (λ g. In-right y (f z) (flat_map f xs) (flat_in f x y xs g i)) h

-- elements of one key stand at one place
abbrev Keyed : {X : Type 0} → (X → ℕ) → List X → Type 0
Keyed {X} key xs = (i j : ℕ) (x y : X) → slice_get xs i ≡ Some x → slice_get xs j ≡ Some y → key x ≡ key y → i ≡ j

rest_keyed : {X : Type 0} (key : X → ℕ) (x : X) (xs : List X) → Keyed key (x ∷ xs) → Keyed key xs
rest_keyed key x xs keyed i j y z at at' same = let e = keyed (suc i) (suc j) y z at at' same in omega (arith, e)

flat_apart : {X Y : Type 0} (key : X → ℕ) (f : X → List Y) (xs : List X) → Keyed key xs → ((x : X) → In x xs → Apart (f x))
    → ((x y : X) (z : Y) → In x xs → In y xs → In z (f x) → In z (f y) → key x ≡ key y) → Apart (flat_map f xs)
flat_apart key f [] keyed each one = tt
flat_apart {X} {Y} key f (x ∷ xs) keyed each one =
    append_apart (f x) (flat_map f xs) (each x (inl refl)) (flat_apart key f xs (rest_keyed key x xs keyed) (λ y i. each y (inr i)) (λ y w z i j. one y w z (inr i) (inr j))) other
  where
    other : (z : Y) → In z (f x) → In z (flat_map f xs) → ⊥
    other z i j =
        let c : (y : X) × (In y xs × In z (f y)) = in_flat f z xs j in
        let at : (k : ℕ) × (slice_get xs k ≡ Some c.0) = In-slice_get c.0 xs c.1.0 in
        let e : zero ≡ suc at.0 = keyed zero (suc at.0) x c.0 refl at.1 (one x c.0 z (inl refl) (inr c.1.0) i c.1.1) in
        omega (arith, e)

sum_same : {X : Type 0} (f g : X → ℕ) → ((x : X) → f x ≡ g x) → (xs : List X) → sum_by f xs ≡ sum_by g xs
sum_same f g same [] = refl
sum_same f g same (x ∷ xs) =
    let e = same x in
    let h = sum_same f g same xs in
    let a = sum_by-cons f x xs in
    let b = sum_by-cons g x xs in
    omega (arith, e, h, a, b)

-- ---- tuples

tuple_at : ListsView → Row → Line → Tok → Tuple
tuple_at v r l b = tuple_of r.state r.token b (slice_index_or v.all l.list [])

bit_tuples : ListsView → Row → Line → Tok → List Tuple
bit_tuples v r l b = cond (is_in l.sums b) (tuple_at v r l b ∷ []) []

line_tuples : ListsView → List Tok → Row → Line → List Tuple
line_tuples v ks r l = flat_map (bit_tuples v r l) ks

row_tuples : ListsView → List Tok → Row → List Tuple
row_tuples v ks r = flat_map (line_tuples v ks r) r.lines.items

tuples_of : ListsView → List Tok → List Row → List Tuple
tuples_of v ks rows = flat_map (row_tuples v ks) rows

in_bit : (v : ListsView) (r : Row) (l : Line) (b : Tok) (z : Tuple) → In z (bit_tuples v r l b) → (is_in l.sums b ≡ true) × (tuple_at v r l b ≡ z)
unfolding bit_tuples
in_bit v r l b z h = by (is_in l.sums b) refl h
  where
    by : (t : Bool) → is_in l.sums b ≡ t → In z (cond t (tuple_at v r l b ∷ []) []) → (is_in l.sums b ≡ true) × (tuple_at v r l b ≡ z)
    by true e (inl same) = (e, same)
    by true e (inr m) = absurd m
    by false e m = absurd m

bit_in : (v : ListsView) (r : Row) (l : Line) (b : Tok) → is_in l.sums b ≡ true → In (tuple_at v r l b) (bit_tuples v r l b)
unfolding bit_tuples
bit_in v r l b e = subst (λ t. In (tuple_at v r l b) (cond t (tuple_at v r l b ∷ []) [])) (sym e) (inl refl)

bit_length : (v : ListsView) (r : Row) (l : Line) (b : Tok) → length (bit_tuples v r l b) ≡ cond (is_in l.sums b) 1 0
unfolding bit_tuples
bit_length v r l b = by (is_in l.sums b)
  where
    by : (t : Bool) → length (cond t (tuple_at v r l b ∷ []) []) ≡ cond t 1 0
    by true = refl
    by false = refl

bit_apart : (v : ListsView) (r : Row) (l : Line) (b : Tok) → Apart (bit_tuples v r l b)
unfolding bit_tuples
bit_apart v r l b = by (is_in l.sums b)
  where
    by : (t : Bool) → Apart (cond t (tuple_at v r l b ∷ []) [])
    by true = (λ z m e. m, tt)
    by false = tt

line_length : (v : ListsView) (ks : List Tok) (r : Row) (l : Line) → length (line_tuples v ks r l) ≡ size_of_line ks l
unfolding line_tuples
line_length v ks r l = length-flat_map (bit_tuples v r l) ks ∙ sum_same (λ b. length (bit_tuples v r l b)) (λ b. cond (is_in l.sums b) 1 0) (bit_length v r l) ks

row_length : (v : ListsView) (ks : List Tok) (r : Row) → length (row_tuples v ks r) ≡ size_of_row ks r
unfolding row_tuples
row_length v ks r = length-flat_map (line_tuples v ks r) r.lines.items ∙ sum_same (λ l. length (line_tuples v ks r l)) (size_of_line ks) (line_length v ks r) r.lines.items

all_length : (v : ListsView) (ks : List Tok) (rows : List Row) → length (tuples_of v ks rows) ≡ sum_by (size_of_row ks) rows
unfolding tuples_of
all_length v ks rows = length-flat_map (row_tuples v ks) rows ∙ sum_same (λ r. length (row_tuples v ks r)) (size_of_row ks) (row_length v ks) rows

in_set : (set : ℕ) (b : Tok) → is_in set b ≡ true → bit_at set (number b) ≡ 1
in_set set b e = eqb-true (bit_at set (number b)) 1 e

is_set : (set : ℕ) (b : Tok) → bit_at set (number b) ≡ 1 → is_in set b ≡ true
is_set set b e = eq-eqb (bit_at set (number b)) 1 e

-- a tuple is that of a bit of a line
record IsBit (v : ListsView) (r : Row) (l : Line) (z : Tuple) : Type 0 where
  token : Tok
  has : is_in l.sums token ≡ true
  is : tuple_at v r l token ≡ z

in_line : (v : ListsView) (ks : List Tok) (r : Row) (l : Line) (z : Tuple) → In z (line_tuples v ks r l) → IsBit v r l z
unfolding line_tuples
in_line v ks r l z h =
    let c : (b : Tok) × (In b ks × In z (bit_tuples v r l b)) = in_flat (bit_tuples v r l) z ks h in
    let g = in_bit v r l c.0 z c.1.1 in
    record { token = c.0; has = g.0; is = g.1 }

in_row : (v : ListsView) (ks : List Tok) (r : Row) (z : Tuple) → In z (row_tuples v ks r) → (l : Line) × (In l r.lines.items × IsBit v r l z)
unfolding row_tuples
in_row v ks r z h =
    let c : (l : Line) × (In l r.lines.items × In z (line_tuples v ks r l)) = in_flat (line_tuples v ks r) z r.lines.items h in
    (c.0, (c.1.0, in_line v ks r c.0 z c.1.1))

bit_state : (v : ListsView) (r : Row) (l : Line) (z : Tuple) → IsBit v r l z → z.place.state ≡ r.state
unfolding tuple_at
bit_state v r l z h = sym (ap (λ (t : Tuple). t.place.state) h.is)

bit_token : (v : ListsView) (r : Row) (l : Line) (z : Tuple) → IsBit v r l z → z.place.token ≡ r.token
unfolding tuple_at
bit_token v r l z h = sym (ap (λ (t : Tuple). t.place.token) h.is)

bit_list : (v : ListsView) (r : Row) (l : Line) (z : Tuple) → IsBit v r l z → z.list ≡ slice_index_or v.all l.list []
unfolding tuple_at
bit_list v r l z h = sym (ap (λ (t : Tuple). t.list) h.is)

bit_behind : (v : ListsView) (r : Row) (l : Line) (z : Tuple) (h : IsBit v r l z) → z.place.behind ≡ h.token
unfolding tuple_at
bit_behind v r l z h = sym (ap (λ (t : Tuple). t.place.behind) h.is)

module _ (A : Automaton) (s : StoreView) (sound : IsSound A s) (ks : List Tok) (order : (i : ℕ) (d : Tok) → i < length ks → number (slice_index_or ks i d) ≡ i) where
  tokens_keyed : Keyed number ks
  tokens_keyed i j x y at at' same = sym (placed i x at) ∙ (same ∙ placed j y at')
    where
      placed : (k : ℕ) (z : Tok) → slice_get ks k ≡ Some z → number z ≡ k
      placed k z e = ap number (sym (index_of ks k z z e)) ∙ order k z (slice_get_within ks k z e)

  -- the list of a line
  line_list : (r : Row) (l : Line) → In r s.rows → In l r.lines.items → IsList s.lists l.list (slice_index_or s.lists.all l.list [])
  line_list r l i j =
      let h : IsLine A s.lists r.state r.token l = (sound.rows r (In-Contains r s.rows i)).lines l (In-Contains l r.lines.items j) in
      subst (IsList s.lists l.list) (sym (index_of s.lists.all l.list h.list [] h.is)) h.is

  line_apart : (r : Row) (l : Line) → Apart (line_tuples s.lists ks r l)
  unfolding line_tuples
  line_apart r l = flat_apart number (bit_tuples s.lists r l) ks tokens_keyed (λ b i. bit_apart s.lists r l b) one
    where
      one : (a b : Tok) (z : Tuple) → In a ks → In b ks → In z (bit_tuples s.lists r l a) → In z (bit_tuples s.lists r l b) → number a ≡ number b
      one a b z i j h g =
          let e = in_bit s.lists r l a z h in
          let f = in_bit s.lists r l b z g in
          ap number (sym (bit_behind s.lists r l z (record { token = a; has = e.0; is = e.1 })) ∙ bit_behind s.lists r l z (record { token = b; has = f.0; is = f.1 }))

  row_apart : (r : Row) → In r s.rows → Apart (row_tuples s.lists ks r)
  unfolding row_tuples
  row_apart r there = flat_apart (λ (l : Line). l.list) (line_tuples s.lists ks r) r.lines.items (sound.apart r (In-Contains r s.rows there)) (λ l i. line_apart r l) one
    where
      one : (l m : Line) (z : Tuple) → In l r.lines.items → In m r.lines.items → In z (line_tuples s.lists ks r l) → In z (line_tuples s.lists ks r m) → l.list ≡ m.list
      one l m z i j h g =
          let e : slice_index_or s.lists.all l.list [] ≡ slice_index_or s.lists.all m.list [] =
          sym (bit_list s.lists r l z (in_line s.lists ks r l z h)) ∙ bit_list s.lists r m z (in_line s.lists ks r m z g) in
          one_number s.lists sound.lists (slice_index_or s.lists.all m.list []) l.list m.list (subst (IsList s.lists l.list) e (line_list r l there i)) (line_list r m there j)

  rows_keyed : Keyed (λ (r : Row). slot r.state r.token) s.rows
  rows_keyed i j r t at at' same = sound.placed i r at ∙ (same ∙ sym (sound.placed j t at'))

  all_apart : Apart (tuples_of s.lists ks s.rows)
  unfolding tuples_of
  all_apart = flat_apart (λ (r : Row). slot r.state r.token) (row_tuples s.lists ks) s.rows rows_keyed row_apart one
    where
      one : (r t : Row) (z : Tuple) → In r s.rows → In t s.rows → In z (row_tuples s.lists ks r) → In z (row_tuples s.lists ks t) → slot r.state r.token ≡ slot t.state t.token
      one r t z i j h g =
          let e = in_row s.lists ks r z h in
          let f = in_row s.lists ks t z g in
          let state : r.state ≡ t.state = sym (bit_state s.lists r e.0 z e.1.1) ∙ bit_state s.lists t f.0 z f.1.1 in
          let token : r.token ≡ t.token = sym (bit_token s.lists r e.0 z e.1.1) ∙ bit_token s.lists t f.0 z f.1.1 in
          ap (λ q. slot q r.token) state ∙ ap (slot t.state) token

  each : (z : Tuple) → Contains (tuples_of s.lists ks s.rows) z → IsSumIn s z.place.state z.place.token z.place.behind z.list
  unfolding tuples_of
  each z c =
      let d : (r : Row) × (In r s.rows × In z (row_tuples s.lists ks r)) = in_flat (row_tuples s.lists ks) z s.rows (Contains-In z (tuples_of s.lists ks s.rows) c) in
      let e = in_row s.lists ks d.0 z d.1.1 in
      let bit : IsBit s.lists d.0 e.0 z = e.1.1 in
      record {
        row = d.0;
        at = record { there = In-Contains d.0 s.rows d.1.0; state = sym (bit_state s.lists d.0 e.0 z bit); token = sym (bit_token s.lists d.0 e.0 z bit) };
        line = e.0;
        of = record {
          there = In-Contains e.0 d.0.lines.items e.1.0;
          list = subst (IsList s.lists e.0.list) (sym (bit_list s.lists d.0 e.0 z bit)) (line_list d.0 e.0 d.1.0 e.1.0);
        };
        has = in_set e.0.sums z.place.behind (subst (λ b. is_in e.0.sums b ≡ true) (sym (bit_behind s.lists d.0 e.0 z bit)) bit.has);
      }

  module _ (whole : (k : Tok) → Contains ks k) where
    all : (q : ℕ) (k b : Tok) (xs : List Sym) → IsSumIn s q k b xs → Contains (tuples_of s.lists ks s.rows) (tuple_of q k b xs)
    unfolding tuples_of row_tuples line_tuples tuple_at
    all q k b xs h =
        let in_rows : In h.row s.rows = Contains-In h.row s.rows h.at.there in
        let in_lines : In h.line h.row.lines.items = Contains-In h.line h.row.lines.items h.of.there in
        let there : In (tuple_at s.lists h.row h.line b) (tuples_of s.lists ks s.rows) =
        flat_in (row_tuples s.lists ks) h.row (tuple_at s.lists h.row h.line b) s.rows in_rows
        (flat_in (line_tuples s.lists ks h.row) h.line (tuple_at s.lists h.row h.line b) h.row.lines.items in_lines
        (flat_in (bit_tuples s.lists h.row h.line) b (tuple_at s.lists h.row h.line b) ks (Contains-In b ks (whole b)) (bit_in s.lists h.row h.line b (is_set h.line.sums b h.has)))) in
        let same : tuple_at s.lists h.row h.line b ≡ tuple_of q k b xs =
        ap (λ n. tuple_of n h.row.token b (slice_index_or s.lists.all h.line.list [])) h.at.state
        ∙ (ap (λ t. tuple_of q t b (slice_index_or s.lists.all h.line.list [])) h.at.token ∙ ap (tuple_of q k b) (index_of s.lists.all h.line.list xs [] h.of.list)) in
        In-Contains (tuple_of q k b xs) (tuples_of s.lists ks s.rows) (subst (λ z. In z (tuples_of s.lists ks s.rows)) same there)

    pub counted : (n : ℕ) → n ≡ sum_by (size_of_row ks) s.rows → IsCounted s n
    counted n is = record {
      tuples = tuples_of s.lists ks s.rows;
      many = all_length s.lists ks s.rows ∙ sym is;
      apart = pairs (tuples_of s.lists ks s.rows) all_apart;
      each = each;
      all = all;
    }

-- ---- exactly so many tuples, where each sum is held

without : {X : Type 0} (x : X) (ys : List X) → In x ys → List X
without x [] h = absurd h
without x (y ∷ ys) (inl e) = ys
without x (y ∷ ys) (inr m) = y ∷ without x ys m

one_less : {X : Type 0} (x : X) (ys : List X) (h : In x ys) → length ys ≡ suc (length (without x ys h))
unfolding without
one_less x [] h = absurd h
one_less x (y ∷ ys) (inl e) = refl
one_less x (y ∷ ys) (inr m) = ap suc (one_less x ys m)

still_in : {X : Type 0} (x z : X) (ys : List X) (h : In x ys) → (x ≡ z → ⊥) → In z ys → In z (without x ys h)
unfolding without
still_in x z [] h apart k = absurd h
still_in x z (y ∷ ys) (inl e) apart (inl f) = absurd (apart (sym e ∙ f))
still_in x z (y ∷ ys) (inl e) apart (inr k) = k
still_in x z (y ∷ ys) (inr m) apart (inl f) = inl f
still_in x z (y ∷ ys) (inr m) apart (inr k) = inr (still_in x z ys m apart k)

-- a list without repetition whose elements are in another is no longer
no_longer : {X : Type 0} (xs ys : List X) → Apart xs → ((z : X) → In z xs → In z ys) → length xs ≤ length ys
no_longer [] ys apart all = omega arith
no_longer (x ∷ xs) ys apart all =
    let h : In x ys = all x (inl refl) in
    let rest : length xs ≤ length (without x ys h) = no_longer xs (without x ys h) apart.1 (λ z m. still_in x z ys h (apart.0 z m) (all z (inr m))) in
    let less = one_less x ys h in
    omega (arith, rest, less)

pub few : (A : Automaton) (s : StoreView) (n : ℕ) → IsCounted s n → ((q : ℕ) (k b : Tok) (xs : List Sym) → sets.Sum A q k b xs → IsSumIn s q k b xs) → HasMore A n → ⊥
few A s n counted all h =
    let within : length h.tuples ≤ length counted.tuples =
    no_longer h.tuples counted.tuples (are_apart h.tuples h.apart)
    (λ z m. Contains-In z counted.tuples (counted.all z.place.state z.place.token z.place.behind z.list
    (all z.place.state z.place.token z.place.behind z.list (h.each z (In-Contains z h.tuples m))))) in
    let size = counted.many in
    let more = h.many in
    omega (arith, within, size, more)

pub many : (A : Automaton) (s : StoreView) (n m : ℕ) → IsSound A s → IsCounted s n → m < n → HasMore A m
many A s n m sound counted lt = record {
  tuples = counted.tuples;
  many = let size = counted.many in omega (arith, size, lt);
  apart = counted.apart;
  each = λ z c. sum_is A s z.place.state z.place.token z.place.behind z.list sound (counted.each z c);
}
