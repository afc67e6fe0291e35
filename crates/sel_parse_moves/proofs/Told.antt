-- Where restrictions hold of attributes, the numbers are as the rule's facts say.
use Rattle.std.proofs.Common.{◌≡◌, ◌⊎◌, inl, inr, ℕ, zero, suc, ◌+◌, ◌<◌, ◌≤◌, ◌^◌, ◌==◌, List, [], ◌∷◌, ◌++◌, length, Option, Some, None, Bool, true, false, cond, refl, sym, ap, ◌∙◌, subst}
use Rattle.std.proofs.Common.{arith}
use Rattle.std.specs.Prelude.{min, max, nat_lt, ℤ, pos, negsuc, int_le, ◌&&◌, slice_index_or}
use Rattle.std.proofs.lemmas.Bool.Decides.{nat_tests}
use Rattle.std.proofs.lemmas.Bool.{and_parts, or_cases, eqb-true}
use Rattle.gg_base.specs.Arithmetic.{com32}
use Rattle.gg_base.specs.Sizes.{bytes_of}
use Rattle.gg_base.specs.declared.size.Size.{Size}
use Rattle.gg_base.specs.declared.size.Size.TheVariants.{Byte, Word, Long}
use Rattle.md_reader.specs.declared.types.Class.{Class}
use Rattle.md_reader.specs.declared.types.Restriction.{Restriction}
use Rattle.md_reader.specs.declared.types.Restriction.TheVariants as restriction
use Rattle.md_reader.specs.declared.types.Rule.{Rule}
use Rattle.term_core.specs.declared.facts.Fact.{Fact}
use Rattle.term_core.specs.Value.{State, Respects}
use Rattle.term_core.proofs.Ordered.{size_same}
use Rattle.sel_terms_trees.specs.sel_terms.specs.RuleFacts.{size_at, is_small_range, is_ranged, alike_once, repeated, fact_of, facts_below, facts_of}
use Rattle.sel_terms_trees.specs.sel_terms.proofs.Settled.{facts_count}
use Rattle.lr_check_parse.specs.Attributes.{Selecting, attribute_at, signed, in_range, same_spelling, constant_at, holds, all_hold}
use Rattle.term_core.specs.Facts.{same_as}
use Rattle.sel_parse_moves.specs.Told.{SameForAlike, FactsJoin, Tells, RestrictionsTell}

leb_le : (a b : ℕ) → int_le (pos a) (pos b) ≡ true → a ≤ b
leb_le a b e = grind (arith, nat_tests)

-- a number between 0 and 31
small : (low high z : ℤ) → is_small_range low high ≡ true → (int_le low z && int_le z high) ≡ true → (k : ℕ) × (z ≡ pos k) × (k < 32)
small (negsuc a) high z e f = absurd (let h = and_parts (int_le (pos 0) (negsuc a)) (int_le high (pos 31)) e in let g = h.0 in cc)
small (pos a) high (negsuc b) e f = absurd (let h = and_parts (int_le (pos a) (negsuc b)) (int_le (negsuc b) high) f in let g = h.0 in cc)
small (pos a) (negsuc c) (pos b) e f = absurd (let h = and_parts (int_le (pos a) (pos b)) (int_le (pos b) (negsuc c)) f in let g = h.1 in cc)
small (pos a) (pos c) (pos b) e f =
    let h = and_parts (int_le (pos a) (pos b)) (int_le (pos b) (pos c)) f in
    let k = and_parts (int_le (pos 0) (pos a)) (int_le (pos c) (pos 31)) e in
    let p = leb_le b c h.1 in
    let q = leb_le c 31 k.1 in
    (b, refl, omega (arith, p, q))

signed_small : (n k : ℕ) → signed n ≡ pos k → n ≡ k
signed_small n k = by (nat_lt n (2 ^ 31))
  where
    by : (b : Bool) → cond b (pos n) (negsuc (com32 n)) ≡ pos k → n ≡ k
    by true e = cc
    by false e = absurd (cc)

range_small : (low high : ℤ) (n : ℕ) → is_small_range low high ≡ true → in_range low high (Some n) ≡ true → n < 32
range_small low high n e f =
    let h = small low high (signed n) e f in
    let same = signed_small n h.0 h.1 in
    let lt = h.2 in
    omega (arith, same, lt)

least_most : {Y : Type 0} (f : ℕ → Y) (a b : ℕ) → f a ≡ f b → f (min a b) ≡ f (max a b)
least_most f a b e = by (le_or a b)
  where
    le_or : (a b : ℕ) → (a ≤ b) ⊎ (b ≤ a)
    le_or a b = grind arith

    min_left : (a b : ℕ) → a ≤ b → (min a b ≡ a) × (max a b ≡ b)
    min_left a b le = (grind arith, grind arith)

    min_right : (a b : ℕ) → b ≤ a → (min a b ≡ b) × (max a b ≡ a)
    min_right a b le = (grind arith, grind arith)

    by : (a ≤ b) ⊎ (b ≤ a) → f (min a b) ≡ f (max a b)
    by (inl le) = (let h = min_left a b le in ap f h.0 ∙ e ∙ ap f (sym h.1))
    by (inr le) = (let h = min_right a b le in ap f h.0 ∙ sym e ∙ ap f (sym h.1))

module _ {X A : Type 0} (of : Selecting X A) {Y : Type 0} (hs : List A) (f : ℕ → Y) (same : SameForAlike of hs f) where
  spelled_alike : (i j : ℕ) → same_spelling of (attribute_at hs i) (attribute_at hs j) ≡ true → f i ≡ f j
  spelled_alike i j = by (attribute_at hs i) (attribute_at hs j) refl refl
    where
      by : (o p : Option A) → attribute_at hs i ≡ o → attribute_at hs j ≡ p → same_spelling of o p ≡ true → f i ≡ f j
      by None p e g h = absurd (cc)
      by (Some a) None e g h = absurd (cc)
      by (Some a) (Some b) e g h = same i j a b e g h

  once : (rs : List Restriction) → all_hold of hs rs ≡ true → (i : ℕ) → f (alike_once rs i) ≡ f i
  once [] h i = refl
  once (restriction.Same a b ∷ rs) h i =
      let k = and_parts (holds of hs (restriction.Same a b)) (all_hold of hs rs) h in
      once rs k.1 (cond (i == max a b) (min a b) i) ∙ by (i == max a b) refl (spelled_alike a b k.0)
    where
      by : (c : Bool) → (i == max a b) ≡ c → f a ≡ f b → f (cond c (min a b) i) ≡ f i
      by true e s = least_most f a b s ∙ ap f (sym (eqb-true i (max a b) e))
      by false e s = refl
  once (restriction.Range j low high ∷ rs) h i = once rs (and_parts (holds of hs (restriction.Range j low high)) (all_hold of hs rs) h).1 i
  once (restriction.Signed j ∷ rs) h i = once rs (and_parts (holds of hs (restriction.Signed j)) (all_hold of hs rs) h).1 i

  often : (rs : List Restriction) → all_hold of hs rs ≡ true → (k i : ℕ) → f (repeated k (alike_once rs) i) ≡ f i
  often rs h zero i = refl
  often rs h (suc k) i = once rs h (repeated k (alike_once rs) i) ∙ often rs h k i

module _ (classes : List Class) (r : Rule) where
  -- a fact of a symbol, or nothing is known
  none_more : (i : ℕ) (d : Fact) → slice_index_or [] i d ≡ d
  none_more zero d = refl
  none_more (suc i) d = refl

  last_or : (xs : List Fact) (y : Fact) (i : ℕ) (d : Fact) → (slice_index_or (xs ++ y ∷ []) i d ≡ slice_index_or xs i d) ⊎ ((i ≡ length xs) × (slice_index_or (xs ++ y ∷ []) i d ≡ y))
  last_or [] y zero d = inr (refl, refl)
  last_or [] y (suc i) d = inl (none_more i d)
  last_or (x ∷ xs) y zero d = inl refl
  last_or (x ∷ xs) y (suc i) d = by (last_or xs y i d)
    where
      by : (slice_index_or (xs ++ y ∷ []) i d ≡ slice_index_or xs i d) ⊎ ((i ≡ length xs) × (slice_index_or (xs ++ y ∷ []) i d ≡ y))
          → (slice_index_or ((x ∷ xs) ++ y ∷ []) (suc i) d ≡ slice_index_or (x ∷ xs) (suc i) d) ⊎ ((suc i ≡ length (x ∷ xs)) × (slice_index_or ((x ∷ xs) ++ y ∷ []) (suc i) d ≡ y))
      by (inl e) = inl e
      by (inr e) = inr (ap (λ (n : ℕ). suc n) e.0, e.1)

  fact_or : (n i : ℕ) (d : Fact) → (slice_index_or (facts_below classes r n) i d ≡ fact_of classes r i) ⊎ (slice_index_or (facts_below classes r n) i d ≡ d)
  fact_or zero i d = inr (none_more i d)
  fact_or (suc n) i d = by (last_or (facts_below classes r n) (fact_of classes r n) i d) (fact_or n i d)
    where
      by : (slice_index_or (facts_below classes r n ++ fact_of classes r n ∷ []) i d ≡ slice_index_or (facts_below classes r n) i d)
          ⊎ ((i ≡ length (facts_below classes r n)) × (slice_index_or (facts_below classes r n ++ fact_of classes r n ∷ []) i d ≡ fact_of classes r n)) →
          (slice_index_or (facts_below classes r n) i d ≡ fact_of classes r i) ⊎ (slice_index_or (facts_below classes r n) i d ≡ d) →
          (slice_index_or (facts_below classes r n ++ fact_of classes r n ∷ []) i d ≡ fact_of classes r i) ⊎ (slice_index_or (facts_below classes r n ++ fact_of classes r n ∷ []) i d ≡ d)
      by (inl e) (inl f) = inl (e ∙ f)
      by (inl e) (inr f) = inr (e ∙ f)
      by (inr e) h = inl (e.1 ∙ ap (fact_of classes r) (sym (e.0 ∙ facts_count classes r n)))

  known : (i : ℕ)
      → (slice_index_or (facts_of classes r) i (record { size = Long; is_count = false; same_as = i }) ≡ fact_of classes r i)
      ⊎ (slice_index_or (facts_of classes r) i (record { size = Long; is_count = false; same_as = i }) ≡ record { size = Long; is_count = false; same_as = i })
  known i = fact_or (length r.right + 1) i (record { size = Long; is_count = false; same_as = i })

  -- what the facts call the same is the same
  joined : {X A : Type 0} (of : Selecting X A) {Y : Type 0} (hs : List A) (f : ℕ → Y) → SameForAlike of hs f → all_hold of hs r.restrictions ≡ true
      → (i : ℕ) → f (same_as (facts_of classes r) i) ≡ f i
  joined of hs f same h i = by (known i)
    where
      by : (slice_index_or (facts_of classes r) i (record { size = Long; is_count = false; same_as = i }) ≡ fact_of classes r i)
          ⊎ (slice_index_or (facts_of classes r) i (record { size = Long; is_count = false; same_as = i }) ≡ record { size = Long; is_count = false; same_as = i })
          → f (same_as (facts_of classes r) i) ≡ f i
      by (inl e) = ap (λ (x : Fact). f x.same_as) e ∙ often of hs f same r.restrictions h i i
      by (inr e) = ap (λ (x : Fact). f x.same_as) e

module _ {X A : Type 0} (of : Selecting X A) (classes : List Class) (r : Rule) (hs : List A) (m : State) (tells : Tells of classes r hs m) where
  in_small_range : (i : ℕ) (low high : ℤ) → is_small_range low high ≡ true → in_range low high (constant_at of (attribute_at hs i)) ≡ true → m.symbol i < 32
  in_small_range i low high s = by (attribute_at hs i) refl
    where
      value : (a : A) (o : Option ℕ) → attribute_at hs i ≡ Some a → of.constant a ≡ o → in_range low high o ≡ true → m.symbol i < 32
      value a None e f h = absurd (cc)
      value a (Some n) e f h = subst (λ k. k < 32) (sym (tells.constants i n a e f)) (range_small low high n s h)

      by : (o : Option A) → attribute_at hs i ≡ o → in_range low high (constant_at of o) ≡ true → m.symbol i < 32
      by None e h = absurd (cc)
      by (Some a) e h = value a (of.constant a) e refl h

  ranged : (rs : List Restriction) → all_hold of hs rs ≡ true → (i : ℕ) → is_ranged rs i ≡ true → m.symbol i < 32
  ranged [] h i e = absurd (cc)
  ranged (restriction.Same a b ∷ rs) h i e = ranged rs (and_parts (holds of hs (restriction.Same a b)) (all_hold of hs rs) h).1 i e
  ranged (restriction.Signed j ∷ rs) h i e = ranged rs (and_parts (holds of hs (restriction.Signed j)) (all_hold of hs rs) h).1 i e
  ranged (restriction.Range j low high ∷ rs) h i e =
      by (or_cases ((j == i) && is_small_range low high) (is_ranged rs i) e) (λ f. ranged rs k.1 i f)
    where
      k : (holds of hs (restriction.Range j low high) ≡ true) × (all_hold of hs rs ≡ true)
      k = and_parts (holds of hs (restriction.Range j low high)) (all_hold of hs rs) h

      by : (((j == i) && is_small_range low high) ≡ true) ⊎ (is_ranged rs i ≡ true) → (is_ranged rs i ≡ true → m.symbol i < 32) → m.symbol i < 32
      by (inl f) go = (let p = and_parts (j == i) (is_small_range low high) f in subst (λ n. m.symbol n < 32) (eqb-true j i p.0) (in_small_range j low high p.1 k.0))
      by (inr f) go = go f

  sized : (i : ℕ) (z : Size) → (bytes_of (slice_index_or (facts_of classes r) i (record { size = Long; is_count = false; same_as = i })).size == bytes_of z) ≡ true → (z ≡ Long → ⊥)
      → size_at classes r.right i ≡ z
  sized i z e long = by (known classes r i)
    where
      by : (slice_index_or (facts_of classes r) i (record { size = Long; is_count = false; same_as = i }) ≡ fact_of classes r i)
          ⊎ (slice_index_or (facts_of classes r) i (record { size = Long; is_count = false; same_as = i }) ≡ record { size = Long; is_count = false; same_as = i }) → size_at classes r.right i ≡ z
      by (inl f) = size_same (size_at classes r.right i) z (eqb-true (bytes_of (size_at classes r.right i)) (bytes_of z) (ap (λ (x : Fact). bytes_of x.size == bytes_of z) (sym f) ∙ e))
      by (inr f) = absurd (long (sym (size_same Long z (eqb-true (bytes_of Long) (bytes_of z) (ap (λ (x : Fact). bytes_of x.size == bytes_of z) (sym f) ∙ e)))))

  respects : all_hold of hs r.restrictions ≡ true → Respects (facts_of classes r) m
  respects h = record {
    bytes = λ i e. tells.bytes i (sized i Byte e (λ f. cc));
    words = λ i e. tells.words i (sized i Word e (λ f. cc));
    counts = λ i e. count i e (known classes r i);
    alike = λ i. joined classes r of hs m.symbol tells.alike h i;
  }
    where
      count : (i : ℕ) → (slice_index_or (facts_of classes r) i (record { size = Long; is_count = false; same_as = i })).is_count ≡ true →
          (slice_index_or (facts_of classes r) i (record { size = Long; is_count = false; same_as = i }) ≡ fact_of classes r i)
          ⊎ (slice_index_or (facts_of classes r) i (record { size = Long; is_count = false; same_as = i }) ≡ record { size = Long; is_count = false; same_as = i }) → m.symbol i < 32
      count i e (inl f) = ranged r.restrictions h i (ap (λ (x : Fact). x.is_count) (sym f) ∙ e)
      count i e (inr f) = absurd (let g = ap (λ (x : Fact). x.is_count) (sym f) ∙ e in cc)

pub restrictions_tell : {X A : Type 0} (of : Selecting X A) → RestrictionsTell of
restrictions_tell of classes r hs m h tells = respects of classes r hs m tells h

pub facts_join : {X A : Type 0} (of : Selecting X A) (Y : Type 0) → FactsJoin of Y
facts_join of Y classes r hs f h same i = joined classes r of hs f same h i
