-- Hops from place to place: where they end, they have ended after as many steps as there are places.
use Rattle.std.proofs.Common.{◌≡◌, ℕ, zero, suc, ◌+◌, ◌*◌, ◌<◌, ◌≤◌, Bool, true, false, eqb-true, List, [], ◌∷◌, length, Option, Some, None, refl, sym, ap, subst, ◌∙◌, arith}
use Rattle.std.specs.Prelude.{◌||◌, slice_index_or}
use Rattle.std.specs.Option.{unwrap_or}
use Rattle.std.specs.List.{IsDistinct, list_any, AllByRecursion}
use Rattle.std.proofs.lemmas.Map.Steps.{length-le_from_distinct_below}
use lib.Dec.{eqb}
use Rattle.gg_base.proofs.Facts.{none_or_some}
use Rattle.vax_codes.specs.Hops.{step, times, AreInside, AreStepsOn, AreFar}

module _ (hops : List (Option ℕ)) where
  abbrev hop : ℕ → Option ℕ
  hop p = slice_index_or hops p None

  -- so many hops lead from a place to one from which none leads on
  pub data Hops : ℕ → ℕ → ℕ → Type 0 where
    there : {p : ℕ} → hop p ≡ None → Hops zero p p
    one : {m p e : ℕ} (q : ℕ) → hop p ≡ Some q → Hops m q e → Hops (suc m) p e

  same_hop : (p q r : ℕ) → hop p ≡ Some q → hop p ≡ Some r → r ≡ q
  same_hop p q r x y = cc

  pub end_none : {m p e : ℕ} → Hops m p e → hop e ≡ None
  end_none (there x) = x
  end_none (one q x h) = end_none h

  same_number : {a b p e f : ℕ} → Hops a p e → Hops b p f → a ≡ b
  same_number (there x) (there y) = refl
  same_number (there x) (one q y h) = absurd (none_or_some _ q x y)
  same_number (one q x h) (there y) = absurd (none_or_some _ q y x)
  same_number {p = p} (one q x h) (one {m = m} {e = f} r y g) = ap suc (same_number h (subst (λ (z : ℕ). Hops m z f) (same_hop p q r x y) g))

  -- ---- no place comes twice on the way to an end

  visited : {m p e : ℕ} → Hops m p e → List ℕ
  visited (there {p = p} x) = p ∷ []
  visited (one {p = p} q x h) = p ∷ visited h

  visited_length : {m p e : ℕ} (h : Hops m p e) → length (visited h) ≡ suc m
  unfolding visited
  visited_length (there x) = refl
  visited_length (one q x h) = ap suc (visited_length h)

  differ : {a m p x e f : ℕ} → Hops a p e → Hops m x f → m < a → (b : Bool) → eqb p x ≡ b → b ≡ false
  differ {m = m} {x = x} {f = f} h g lt true is = absurd (let same = same_number h (subst (λ (z : ℕ). Hops m z f) (sym (eqb-true _ x is)) g) in omega (arith, same, lt))
  differ h g lt false is = refl

  apart : {a m p x e f : ℕ} → Hops a p e → (g : Hops m x f) → m < a → AllByRecursion (λ y. eqb p y ≡ false) (visited g)
  unfolding visited
  apart {p = p} h (there {p = x} y) lt = (differ h (there y) lt (eqb p x) refl, tt)
  apart {p = p} h (one {p = x} q y g) lt = (differ h (one q y g) lt (eqb p x) refl, apart h g (omega (arith, lt)))

  distinct : {m p e : ℕ} (h : Hops m p e) → IsDistinct eqb (visited h)
  unfolding IsDistinct visited
  distinct (there x) = (tt, tt)
  distinct (one {m = m} q x h) = (apart (one q x h) h (omega arith), distinct h)

  module _ (inside : AreInside hops) where
    below : {m p e : ℕ} (h : Hops m p e) → p < length hops → (q : ℕ) → list_any (eqb q) (visited h) ≡ true → q < length hops
    unfolding visited
    below (there {p = p} x) lt q e = by (eqb q p) refl e
      where
        by : (b : Bool) → eqb q p ≡ b → (b || false) ≡ true → q < length hops
        by true is k = subst (λ (z : ℕ). z < length hops) (sym (eqb-true q p is)) lt
        by false is k = absurd cc
    below (one {p = p} r x h) lt q e = by (below h (inside.inside p r x) q) (eqb q p) refl e
      where
        by : (list_any (eqb q) (visited h) ≡ true → q < length hops) → (b : Bool) → eqb q p ≡ b → (b || list_any (eqb q) (visited h)) ≡ true → q < length hops
        by on true is k = subst (λ (z : ℕ). z < length hops) (sym (eqb-true q p is)) lt
        by on false is k = on k

    -- fewer hops than there are places
    pub few : {m p e : ℕ} → Hops m p e → p < length hops → m < length hops
    few h lt =
        let le = length-le_from_distinct_below (visited h) (length hops) (distinct h) (below h lt) in
        let long = visited_length h in
        omega (arith, le, long)

  -- ---- steps

  pub step_none : (p : ℕ) → hop p ≡ None → step hops p ≡ p
  step_none p x = ap (λ (o : Option ℕ). unwrap_or o p) x

  pub step_some : (p q : ℕ) → hop p ≡ Some q → step hops p ≡ q
  step_some p q x = ap (λ (o : Option ℕ). unwrap_or o p) x

  stays : (r p : ℕ) → hop p ≡ None → times r (step hops) p ≡ p
  stays zero p x = refl
  stays (suc r) p x = ap (λ (z : ℕ). times r (step hops) z) (step_none p x) ∙ stays r p x

  -- where hops end, enough steps lead
  pub ended : {m p e : ℕ} → Hops m p e → (r : ℕ) → m ≤ r → times r (step hops) p ≡ e
  ended (there {p = p} x) r le = stays r p x
  ended (one q x h) zero le = absurd (omega (arith, le))
  ended (one {p = p} q x h) (suc r) le = ap (λ (z : ℕ). times r (step hops) z) (step_some p q x) ∙ ended h r (omega (arith, le))

  -- where steps lead to a place from which no hop leads on, hops end there
  pub reached : (r p : ℕ) → hop (times r (step hops) p) ≡ None → (m : ℕ) × Hops m p (times r (step hops) p)
  reached zero p e = (zero, there e)
  reached (suc r) p e = by (reached r (step hops p) e) (hop p) refl
    where
      by : (m : ℕ) × Hops m (step hops p) (times r (step hops) (step hops p)) → (o : Option ℕ) → hop p ≡ o → (m : ℕ) × Hops m p (times r (step hops) (step hops p))
      by h None x = (h.0, subst (λ (z : ℕ). Hops h.0 z (times r (step hops) (step hops p))) (step_none p x) h.1)
      by h (Some q) x = (suc h.0, one (step hops p) (x ∙ ap (λ (z : ℕ). Some z) (sym (step_some p q x))) h.1)

  -- ---- twice as many steps

  times_more : (a b p : ℕ) → times (a + b) (step hops) p ≡ times b (step hops) (times a (step hops) p)
  times_more zero b p = let e : 0 + b ≡ b = omega arith in ap (λ (n : ℕ). times n (step hops) p) e
  times_more (suc a) b p = let e : suc a + b ≡ suc (a + b) = omega arith in ap (λ (n : ℕ). times n (step hops) p) e ∙ times_more a b (step hops p)

  step_inside : AreInside hops → (p : ℕ) → p < length hops → step hops p < length hops
  step_inside inside p lt = by (hop p) refl
    where
      by : (o : Option ℕ) → hop p ≡ o → unwrap_or o p < length hops
      by None x = lt
      by (Some q) x = inside.inside p q x

  pub times_inside : AreInside hops → (r p : ℕ) → p < length hops → times r (step hops) p < length hops
  times_inside inside zero p lt = lt
  times_inside inside (suc r) p lt = times_inside inside r (step hops p) (step_inside inside p lt)

  pub places_inside : AreInside hops → (n : ℕ) (places : List ℕ) → AreStepsOn hops n places → (p : ℕ) → p < length places → slice_index_or places p 0 < length places
  places_inside inside n places h p lt =
      let long = h.each in
      let at : p < length hops = omega (arith, long, lt) in
      let here = h.place p at in
      let bound = times_inside inside n p at in
      omega (arith, long, here, bound)

  pub far_inside : AreInside hops → (places : List ℕ) → AreFar hops places → (p : ℕ) → p < length hops → slice_index_or places p 0 < length hops
  far_inside inside places far p lt =
      let long = far.steps.each in
      let h = places_inside inside far.number places far.steps p (omega (arith, long, lt)) in
      omega (arith, long, h)

  pub twice_on : AreInside hops → (n : ℕ) (places more : List ℕ) → AreStepsOn hops n places → length more ≡ length places
      → ((p : ℕ) → p < length places → slice_index_or more p 0 ≡ slice_index_or places (slice_index_or places p 0) 0) → AreStepsOn hops (n * 2) more
  twice_on inside n places more h long each = record {
    each = long ∙ h.each;
    place = λ p lt. (
        let len = h.each in
        let at : p < length places = omega (arith, len, lt) in
        let double : n + n ≡ n * 2 = omega arith in
        each p at
        ∙ ap (λ (z : ℕ). slice_index_or places z 0) (h.place p lt)
        ∙ h.place (times n (step hops) p) (times_inside inside n p lt)
        ∙ sym (times_more n n p)
        ∙ ap (λ (k : ℕ). times k (step hops) p) double);
  }
