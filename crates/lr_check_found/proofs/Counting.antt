-- As many sums are found as the set of sums has tuples at least.
use Rattle.std.proofs.Common.{◌≡◌, ℕ, zero, suc, ◌+◌, ◌≤◌, ◌<◌, List, [], ◌∷◌, Some, None, Contains, Bool, true, false, cond, length, get_or, slice_get, refl, sym, ap, ◌∙◌, subst}
use Rattle.std.proofs.Common.{inl, inr, arith, true≢false}
use Rattle.std.specs.Prelude.{AllPairs, slice_index_or, count_by, if◌then◌else◌}
use Rattle.std.proofs.lemmas.List.Sums.{sum_by-cons}
use Rattle.std.proofs.lemmas.Option.{get_or_from_slice_get, same_Some, none-some}
use Rattle.std.proofs.lemmas.List.{get_or_default}
use Rattle.tree_core.specs.declared.token.Tok.TheVariants as tok
use Rattle.md_reader.specs.declared.types.Sym.{Sym}
use Rattle.lr_tables.proofs.Members.{In, In-Contains, Contains-In}
use Rattle.lr_check_sets.specs.Automaton.{Automaton}
use Rattle.lr_check_sets.specs.Sums as sets
use Rattle.lr_check_found.specs.declared.places.Place.{Place}
use Rattle.lr_check_found.specs.declared.settlings.Settling.{Settling}
use Rattle.lr_check_found.specs.Lists.{IsList}
use Rattle.lr_check_found.specs.Found.{FoundView, slot, place_of, IsSettlingAt, SumAt}
use Rattle.lr_check_found.specs.Sound.{IsSoundSettling, IsFound}
use Rattle.lr_check_found.specs.Count.{Tuple, HasMore}
use Rattle.lr_check_found.proofs.Pushing.{one_number}

-- the settling's place and list
tuple_of : FoundView → Settling → Tuple
tuple_of f e = record { place = slice_index_or f.places e.place (place_of 0 tok.Zero tok.Zero); list = slice_index_or f.lists.all e.list [] }

tuples_of : FoundView → List Settling → List Tuple
tuples_of f [] = []
tuples_of f (e ∷ es) = if e.is_sum then tuple_of f e ∷ tuples_of f es else tuples_of f es

count_if : (b : Bool) (t : Tuple) (ts : List Tuple) → length (if b then t ∷ ts else ts) ≡ cond b 1 0 + length ts
count_if true t ts = omega arith
count_if false t ts = omega arith

counted : (f : FoundView) (es : List Settling) → length (tuples_of f es) ≡ count_by (λ (e : Settling). e.is_sum) es
unfolding tuples_of
counted f [] = refl
counted f (e ∷ es) =
    count_if e.is_sum (tuple_of f e) (tuples_of f es) ∙
    (ap (λ n. cond e.is_sum 1 0 + n) (counted f es) ∙ sym (sum_by-cons (λ (d : Settling). cond d.is_sum 1 0) e es))

-- a tuple is that of a settling
record Comes (f : FoundView) (es : List Settling) (z : Tuple) : Type 0 where
  at : ℕ
  entry : Settling
  there : slice_get es at ≡ Some entry
  is_sum : entry.is_sum ≡ true
  is : tuple_of f entry ≡ z

comes : (f : FoundView) (es : List Settling) (z : Tuple) → In z (tuples_of f es) → Comes f es z
unfolding tuples_of
comes f [] z h = absurd h
comes f (e ∷ es) z h = by e.is_sum refl h (comes f es z)
  where
    later : Comes f es z → Comes f (e ∷ es) z
    later c = record { at = suc c.at; entry = c.entry; there = c.there; is_sum = c.is_sum; is = c.is }

    by : (b : Bool) → e.is_sum ≡ b → In z (if b then tuple_of f e ∷ tuples_of f es else tuples_of f es) → (In z (tuples_of f es) → Comes f es z) → Comes f (e ∷ es) z
    by true is (inl same) ih = record { at = 0; entry = e; there = refl; is_sum = is; is = same }
    by true is (inr m) ih = later (ih m)
    by false not m ih = later (ih m)

abbrev Apart : List Tuple → Type 0
Apart [] = Unit {0}
Apart (x ∷ xs) = ((z : Tuple) → In z xs → x ≡ z → ⊥) × Apart xs

pairs : (xs : List Tuple) → Apart xs → AllPairs (λ (x y : Tuple). x ≡ y → ⊥) xs
pairs [] h i j d lt le = absurd (omega (arith, le))
pairs (x ∷ xs) h zero zero d lt le = absurd (omega (arith, lt))
pairs (x ∷ xs) h zero (suc j) d lt le = h.0 (get_or xs j d) (Contains-In (get_or xs j d) xs (j, omega (arith, le), get_or_default xs j (get_or xs j d) d (omega (arith, le))))
pairs (x ∷ xs) h (suc i) zero d lt le = absurd (omega (arith, lt))
pairs (x ∷ xs) h (suc i) (suc j) d lt le = pairs xs h.1 i j d (omega (arith, lt)) (omega (arith, le))

module _ (A : Automaton) (f : FoundView) (found : IsFound A f) where
  the_tuple : (i : ℕ) (e : Settling) → (h : IsSoundSettling A f i e) → tuple_of f e ≡ record { place = h.place; list = h.list }
  unfolding tuple_of
  the_tuple i e h =
      ap (λ (x : Place). let t : Tuple = record { place = x; list = slice_index_or f.lists.all e.list [] } in t) (get_or_from_slice_get f.places e.place h.place (place_of 0 tok.Zero tok.Zero) h.there)
      ∙ ap (λ (s : List Sym). let t : Tuple = record { place = h.place; list = s } in t) (get_or_from_slice_get f.lists.all e.list h.list [] h.symbols)

  -- two settlings with one tuple are the same
  one_settling : (i j : ℕ) (e d : Settling) → IsSettlingAt f i e → IsSettlingAt f j d → tuple_of f e ≡ tuple_of f d → i ≡ j
  one_settling i j e d at at' same =
      let h : IsSoundSettling A f i e = found.settlings i e at in
      let k : IsSoundSettling A f j d = found.settlings j d at' in
      let both = sym (the_tuple i e h) ∙ (same ∙ the_tuple j d k) in
      let place : h.place ≡ k.place = ap (λ (t : Tuple). t.place) both in
      let list : h.list ≡ k.list = ap (λ (t : Tuple). t.list) both in
      let number : e.place ≡ d.place =
      same_Some e.place d.place (sym (found.numbered e.place h.place h.there) ∙ (ap (λ (x : Place). slice_index_or f.numbers (slot x) None) place ∙ found.numbered d.place k.place k.there)) in
      found.apart i j e d at at' number (one_number f.lists found.lists k.list e.list d.list (subst (IsList f.lists e.list) list h.symbols) k.symbols)

  apart_from : (n : ℕ) (es : List Settling) → ((i : ℕ) (e : Settling) → slice_get es i ≡ Some e → IsSettlingAt f (n + i) e) → Apart (tuples_of f es)
  unfolding tuples_of
  apart_from n [] all = tt
  apart_from n (e ∷ es) all = by e.is_sum (apart_from (suc n) es (λ i d h. subst (λ k. IsSettlingAt f k d) (let s : n + suc i ≡ suc n + i = omega arith in s) (all (suc i) d h)))
    where
      other : (z : Tuple) → In z (tuples_of f es) → tuple_of f e ≡ z → ⊥
      other z m same =
          let c : Comes f es z = comes f es z m in
          let number : n + 0 ≡ n + suc c.at = one_settling (n + 0) (n + suc c.at) e c.entry (all 0 e refl) (all (suc c.at) c.entry c.there) (same ∙ sym c.is) in
          omega (arith, number)

      by : (b : Bool) → Apart (tuples_of f es) → Apart (if b then tuple_of f e ∷ tuples_of f es else tuples_of f es)
      by true rest = (other, rest)
      by false rest = rest

  each : (z : Tuple) → Contains (tuples_of f f.settlings) z → sets.Sum A z.place.state z.place.token z.place.behind z.list
  each z c =
      let k : Comes f f.settlings z = comes f f.settlings z (Contains-In z (tuples_of f f.settlings) c) in
      let h : IsSoundSettling A f k.at k.entry = found.settlings k.at k.entry k.there in
      let same : record { place = h.place; list = h.list } ≡ z = sym (the_tuple k.at k.entry h) ∙ k.is in
      subst (λ (t : Tuple). sets.Sum A t.place.state t.place.token t.place.behind t.list) same (h.sum k.is_sum)

  pub has_more : (most : ℕ) → most < f.tuples → HasMore A most
  has_more most lt = record {
    tuples = tuples_of f f.settlings;
    many = let size = counted f f.settlings in let is = found.tuples in omega (arith, lt, size, is);
    apart = pairs (tuples_of f f.settlings) (apart_from 0 f.settlings (λ i e h. subst (λ k. IsSettlingAt f k e) (let s : i ≡ 0 + i = omega arith in s) h));
    each = each;
  }

-- ---- no more sums than are found, where each sum is

without : (x : Tuple) (ys : List Tuple) → In x ys → List Tuple
without x [] h = absurd h
without x (y ∷ ys) (inl e) = ys
without x (y ∷ ys) (inr m) = y ∷ without x ys m

one_less : (x : Tuple) (ys : List Tuple) (h : In x ys) → length ys ≡ suc (length (without x ys h))
unfolding without
one_less x [] h = absurd h
one_less x (y ∷ ys) (inl e) = refl
one_less x (y ∷ ys) (inr m) = ap suc (one_less x ys m)

still_in : (x z : Tuple) (ys : List Tuple) (h : In x ys) → (x ≡ z → ⊥) → In z ys → In z (without x ys h)
unfolding without
still_in x z [] h apart k = absurd h
still_in x z (y ∷ ys) (inl e) apart (inl f) = absurd (apart (sym e ∙ f))
still_in x z (y ∷ ys) (inl e) apart (inr k) = k
still_in x z (y ∷ ys) (inr m) apart (inl f) = inl f
still_in x z (y ∷ ys) (inr m) apart (inr k) = inr (still_in x z ys m apart k)

-- a list without repetition whose elements are in another is no longer
no_longer : (xs ys : List Tuple) → Apart xs → ((z : Tuple) → In z xs → In z ys) → length xs ≤ length ys
no_longer [] ys apart all = omega arith
no_longer (x ∷ xs) ys apart all =
    let h : In x ys = all x (inl refl) in
    let rest : length xs ≤ length (without x ys h) = no_longer xs (without x ys h) apart.1 (λ z m. still_in x z ys h (apart.0 z m) (all z (inr m))) in
    let less = one_less x ys h in
    omega (arith, rest, less)

are_apart : (xs : List Tuple) → AllPairs (λ (x y : Tuple). x ≡ y → ⊥) xs → Apart xs
are_apart [] h = tt
are_apart (x ∷ xs) h = (λ z m e. by z (In-Contains z xs m) e, are_apart xs (λ i j d lt le. h (suc i) (suc j) d (omega (arith, lt)) (omega (arith, le))))
  where
    by : (z : Tuple) → Contains xs z → x ≡ z → ⊥
    by z c e = let lt = c.1 in h zero (suc c.0) z (omega arith) (omega (arith, lt)) (e ∙ sym c.2)

in_if : (b : Bool) (t : Tuple) (ts : List Tuple) (u : Tuple) → b ≡ true → t ≡ u → In u (if b then t ∷ ts else ts)
in_if true t ts u e f = inl f
in_if false t ts u e f = absurd (true≢false (sym e))

in_later : (b : Bool) (t : Tuple) (ts : List Tuple) (u : Tuple) → In u ts → In u (if b then t ∷ ts else ts)
in_later true t ts u h = inr h
in_later false t ts u h = h

listed : (f : FoundView) (es : List Settling) (i : ℕ) (e : Settling) (u : Tuple) → slice_get es i ≡ Some e → e.is_sum ≡ true → tuple_of f e ≡ u → In u (tuples_of f es)
unfolding tuples_of
listed f [] i e u at is same = absurd (none-some e at)
listed f (d ∷ es) zero e u at is same =
    in_if d.is_sum (tuple_of f d) (tuples_of f es) u (ap (λ (z : Settling). z.is_sum) (same_Some d e at) ∙ is) (ap (tuple_of f) (same_Some d e at) ∙ same)
listed f (d ∷ es) (suc i) e u at is same = in_later d.is_sum (tuple_of f d) (tuples_of f es) u (listed f es i e u at is same)

-- a sum that is found
pub record IsSumOf (f : FoundView) (u : Tuple) : Type 0 where
  pub number : ℕ
  pub behind : ℕ
  pub sum : SumAt f number u.place u.list behind

tuple_is : (f : FoundView) (u : Tuple) (h : IsSumOf f u) → tuple_of f h.sum.entry ≡ u
unfolding tuple_of
tuple_is f u h =
    ap (λ (x : Place). let t : Tuple = record { place = x; list = slice_index_or f.lists.all h.sum.entry.list [] } in t)
    (get_or_from_slice_get f.places h.sum.entry.place u.place (place_of 0 tok.Zero tok.Zero) h.sum.place)
    ∙ ap (λ (s : List Sym). let t : Tuple = record { place = u.place; list = s } in t) (get_or_from_slice_get f.lists.all h.sum.entry.list u.list [] h.sum.list)

pub no_more : (A : Automaton) (f : FoundView) → IsFound A f → ((u : Tuple) → sets.Sum A u.place.state u.place.token u.place.behind u.list → IsSumOf f u) → HasMore A f.tuples → ⊥
no_more A f found all h =
    let within : length h.tuples ≤ length (tuples_of f f.settlings) =
    no_longer h.tuples (tuples_of f f.settlings) (are_apart h.tuples h.apart)
    (λ u m. let s = all u (h.each u (In-Contains u h.tuples m)) in listed f f.settlings s.number s.sum.entry u s.sum.there s.sum.is_sum (tuple_is f u s)) in
    let size = counted f f.settlings in
    let is = found.tuples in
    let many = h.many in
    omega (arith, within, size, is, many)
