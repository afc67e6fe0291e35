-- A set of places that grows until it is closed: places more, one after another, and a place that is asked about.
use Rattle.std.proofs.Common.{◌≡◌, ◌⊎◌, inl, inr, ℕ, ◌+◌, ◌<◌, Bool, true, false, not, cond, eqb, eqb-true, eq-eqb, List, [], ◌∷◌, ◌++◌, length, take, set, get_or, replicate, zero, suc, Option, Some, None, refl, sym, ap, subst, ◌∙◌, arith}
use Rattle.std.proofs.Common.{length-append, length-set, get_or-set_same, get_or-set_other}
use Rattle.std.specs.Prelude.{◌||◌, nat_eq, slice_index_or, ◌≢◌, MatchOption, vec_len}
use Rattle.std.specs.Option.{option_to_list}
use Rattle.std.proofs.lemmas.List.{length-replicate}
use Rattle.std.specs.List.{count_by}
use Rattle.std.proofs.lemmas.List.Folds.{list_any-append, list_any_more, list_any_at}
use Rattle.std.proofs.lemmas.List.Sums.{sum_by-set}
use Rattle.gg_base.proofs.Facts.{either_is, or_true, true_or_false, false_true, nil_of}
use Rattle.vax_codes.specs.declared.marks.Marks.{Marks}
use Rattle.vax_codes.specs.Marks.{is_in, IsMarked, waits, Empty, Adds, Takes, Rests}

-- ---- a place in a list

pub same_or_not : (p q : ℕ) → (p ≡ q) ⊎ (p ≢ q)
same_or_not p q = by (eqb p q) refl
  where
    by : (b : Bool) → eqb p q ≡ b → (p ≡ q) ⊎ (p ≢ q)
    by true e = inl (eqb-true p q e)
    by false e = inr (λ same. true_or_false _ (eq-eqb p q same) e)

pub in_last : (xs : List ℕ) (p q : ℕ) → is_in p (xs ++ q ∷ []) ≡ (is_in p xs || (nat_eq p q || false))
in_last xs p q = list_any-append (λ (r : ℕ). nat_eq p r) xs (q ∷ [])

pub in_one : (p q : ℕ) → (nat_eq p q || false) ≡ true → p ≡ q
in_one p q e = either_is (nat_eq p q) false e (λ h. eqb-true p q h) (λ h. false_true h)

pub one_in : (p q : ℕ) → p ≡ q → (nat_eq p q || false) ≡ true
one_in p q e = ap (λ (b : Bool). b || false) (eq-eqb p q e)

pub or_first : (a b : Bool) → a ≡ true → (a || b) ≡ true
or_first a b e = ap (λ (c : Bool). c || b) e

pub or_second : (a b : Bool) → b ≡ true → (a || b) ≡ true
or_second a b e = ap (λ (c : Bool). a || c) e ∙ or_true a

-- ---- places more

pub already : (m : Marks) (place : ℕ) → IsMarked m place → Adds (λ p. p ≡ place) m m
already m place h = record {
  each = refl;
  there = λ p e. subst (λ (q : ℕ). IsMarked m q) (sym e) h;
  stays = λ p x. x;
  only = λ p x. inl x;
  waiting = λ p x. x;
  waits_only = λ p x. inl x;
  less = omega arith;
}

mark_count : (m : List Bool) (n : ℕ) → n < length m → slice_index_or m n false ≡ false → count_by not (set m n true) + 1 ≡ count_by not m
mark_count m n h e =
    let f : Bool → ℕ = λ x. cond (not x) 1 0 in
    let s : count_by not (set m n true) + f (get_or m n false) ≡ count_by not m + 0 = sum_by-set f m n true false h in
    let g : f (get_or m n false) ≡ 1 = ap f e in
    omega (arith, s, g)

module _ (old new : Marks) (place : ℕ) (lt : place < length old.marked.items) (fresh : slice_index_or old.marked.items place false ≡ false)
    (marked : new.marked.items ≡ set old.marked.items place true) (waiting : new.waiting.items ≡ old.waiting.items ++ place ∷ []) where
  at_place : IsMarked new place
  at_place = ap (λ (xs : List Bool). slice_index_or xs place false) marked ∙ get_or-set_same old.marked.items place true false lt

  at_other : (p : ℕ) → p ≢ place → slice_index_or new.marked.items p false ≡ slice_index_or old.marked.items p false
  at_other p apart = ap (λ (xs : List Bool). slice_index_or xs p false) marked ∙ get_or-set_other old.marked.items place p true false apart

  waits_is : (p : ℕ) → waits new p ≡ (waits old p || (nat_eq p place || false))
  waits_is p = ap (is_in p) waiting ∙ in_last old.waiting.items p place

  stays_by : (p : ℕ) → IsMarked old p → (p ≡ place) ⊎ (p ≢ place) → IsMarked new p
  stays_by p x (inl e) = subst (λ (q : ℕ). IsMarked new q) (sym e) at_place
  stays_by p x (inr apart) = at_other p apart ∙ x

  only_by : (p : ℕ) → IsMarked new p → (p ≡ place) ⊎ (p ≢ place) → IsMarked old p ⊎ ((p ≡ place) × (waits new p ≡ true))
  only_by p x (inl e) = inr (e, waits_is p ∙ or_second (waits old p) _ (one_in p place e))
  only_by p x (inr apart) = inl (sym (at_other p apart) ∙ x)

  pub adds_one : Adds (λ p. p ≡ place) old new
  adds_one = record {
    each = ap length marked ∙ length-set old.marked.items place true;
    there = λ p e. subst (λ (q : ℕ). IsMarked new q) (sym e) at_place;
    stays = λ p x. stays_by p x (same_or_not p place);
    only = λ p x. only_by p x (same_or_not p place);
    waiting = λ p x. waits_is p ∙ or_first (waits old p) _ x;
    waits_only = λ p x. either_is (waits old p) _ (sym (waits_is p) ∙ x) (λ h. inl h) (λ h. inr (in_one p place h));
    less = (
        let count = mark_count old.marked.items place lt fresh in
        let fewer : count_by not new.marked.items ≡ count_by not (set old.marked.items place true) = ap (count_by not) marked in
        let long : length new.waiting.items ≡ length old.waiting.items + 1 = ap length waiting ∙ length-append old.waiting.items (place ∷ []) in
        omega (arith, count, fewer, long));
  }

pub adds_none : (P : ℕ → Type 0) (m : Marks) → ((p : ℕ) → P p → ⊥) → Adds P m m
adds_none P m apart = record {
  each = refl;
  there = λ p x. absurd (apart p x);
  stays = λ p x. x;
  only = λ p x. inl x;
  waiting = λ p x. x;
  waits_only = λ p x. inl x;
  less = omega arith;
}

module _ (P Q R : ℕ → Type 0) (a b c : Marks) (first : Adds P a b) (second : Adds Q b c) (split : (p : ℕ) → R p → P p ⊎ Q p) (left : (p : ℕ) → P p → R p) (right : (p : ℕ) → Q p → R p) where
  there_by : (p : ℕ) → P p ⊎ Q p → IsMarked c p
  there_by p (inl x) = second.stays p (first.there p x)
  there_by p (inr x) = second.there p x

  old_by : (p : ℕ) → IsMarked a p ⊎ (P p × (waits b p ≡ true)) → IsMarked a p ⊎ (R p × (waits c p ≡ true))
  old_by p (inl x) = inl x
  old_by p (inr x) = inr (left p x.0, second.waiting p x.1)

  only_both : (p : ℕ) → IsMarked b p ⊎ (Q p × (waits c p ≡ true)) → IsMarked a p ⊎ (R p × (waits c p ≡ true))
  only_both p (inl x) = old_by p (first.only p x)
  only_both p (inr x) = inr (right p x.0, x.1)

  waited_by : (p : ℕ) → (waits a p ≡ true) ⊎ P p → (waits a p ≡ true) ⊎ R p
  waited_by p (inl x) = inl x
  waited_by p (inr x) = inr (left p x)

  waits_both : (p : ℕ) → (waits b p ≡ true) ⊎ Q p → (waits a p ≡ true) ⊎ R p
  waits_both p (inl x) = waited_by p (first.waits_only p x)
  waits_both p (inr x) = inr (right p x)

  pub adds_both : Adds R a c
  adds_both = record {
    each = second.each ∙ first.each;
    there = λ p x. there_by p (split p x);
    stays = λ p x. second.stays p (first.stays p x);
    only = λ p x. only_both p (second.only p x);
    waiting = λ p x. second.waiting p (first.waiting p x);
    waits_only = λ p x. waits_both p (second.waits_only p x);
    less = (let f = first.less in let s = second.less in omega (arith, f, s));
  }

-- one element of a list more
pub one_more : (places : List ℕ) (i d : ℕ) (a b c : Marks) → i < length places → Adds (λ p. is_in p (take i places) ≡ true) a b → Adds (λ p. p ≡ get_or places i d) b c
    → Adds (λ p. is_in p (take (i + 1) places) ≡ true) a c
one_more places i d a b c lt first second =
    let more : (p : ℕ) → is_in p (take (i + 1) places) ≡ (is_in p (take i places) || nat_eq p (get_or places i d)) = λ p. list_any_more (λ (q : ℕ). nat_eq p q) places i d lt in
    adds_both (λ p. is_in p (take i places) ≡ true) (λ p. p ≡ get_or places i d) (λ p. is_in p (take (i + 1) places) ≡ true) a b c first second
    (λ p x. either_is (is_in p (take i places)) _ (sym (more p) ∙ x) (λ h. inl h) (λ h. inr (eqb-true p _ h)))
    (λ p x. more p ∙ or_first _ _ x)
    (λ p x. more p ∙ or_second (is_in p (take i places)) _ (eq-eqb p _ x))

-- the same places by other words
pub adds_same : (P Q : ℕ → Type 0) (a b : Marks) → ((p : ℕ) → P p → Q p) → ((p : ℕ) → Q p → P p) → Adds P a b → Adds Q a b
adds_same P Q a b to from h = record {
  each = h.each;
  there = λ p x. h.there p (from p x);
  stays = h.stays;
  only = λ p x. only_by p (h.only p x);
  waiting = h.waiting;
  waits_only = λ p x. waits_by p (h.waits_only p x);
  less = h.less;
}
  where
    only_by : (p : ℕ) → IsMarked a p ⊎ (P p × (waits b p ≡ true)) → IsMarked a p ⊎ (Q p × (waits b p ≡ true))
    only_by p (inl x) = inl x
    only_by p (inr x) = inr (to p x.0, x.1)

    waits_by : (p : ℕ) → (waits a p ≡ true) ⊎ P p → (waits a p ≡ true) ⊎ Q p
    waits_by p (inl x) = inl x
    waits_by p (inr x) = inr (to p x)

-- ---- no place

none_marked : (n p : ℕ) → slice_index_or (replicate n false) p false ≡ false
none_marked zero zero = refl
none_marked zero (suc p) = refl
none_marked (suc n) zero = refl
none_marked (suc n) (suc p) = none_marked n p

pub empty : (m : Marks) (places : ℕ) → m.marked.items ≡ replicate places false → m.waiting.items ≡ [] → Empty m places
empty m places e none = record {
  each = ap length e ∙ length-replicate places false;
  marked = λ p x. true_or_false _ x (ap (λ (xs : List Bool). slice_index_or xs p false) e ∙ none_marked places p);
  waiting = λ p. ap (is_in p) none;
}

-- ---- a place is asked about

pub takes : (old new : Marks) (place : ℕ) → old.waiting.items ≡ new.waiting.items ++ place ∷ [] → new.marked.items ≡ old.marked.items → Takes place old new
takes old new place e marked =
    let is : (p : ℕ) → waits old p ≡ (waits new p || (nat_eq p place || false)) = λ p. ap (is_in p) e ∙ in_last new.waiting.items p place in
    record {
      marked = marked;
      waited = is place ∙ or_second (waits new place) _ (one_in place place refl);
      others = λ p x. either_is (waits new p) _ (sym (is p) ∙ x) (λ h. inl h) (λ h. inr (in_one p place h));
      waiting = λ p x. is p ∙ or_first (waits new p) _ x;
      less = (
          let long : length old.waiting.items ≡ length new.waiting.items + 1 = ap length e ∙ length-append new.waiting.items (place ∷ []) in
          let same : count_by not new.marked.items ≡ count_by not old.marked.items = ap (count_by not) marked in
          omega (arith, long, same));
    }

pub take_by : (old new : Marks) (o : Option ℕ) → old.waiting.items ≡ new.waiting.items ++ option_to_list o
    → MatchOption o ((vec_len old.waiting ≡ 0) × (vec_len new.waiting ≡ 0)) (λ p. vec_len new.waiting + 1 ≡ vec_len old.waiting) → new.marked.items ≡ old.marked.items
    → MatchOption o (Rests old new) (λ p. Takes p old new)
take_by old new None e cases marked = record {
  marked = marked;
  none = λ p. ap (is_in p) (nil_of old.waiting.items (let empty = cases.0 in let long = old.waiting.ok.0 in omega (arith, empty, long)));
}
take_by old new (Some place) e cases marked = takes old new place e marked

-- ---- an element of a list is in it

pub element_in : (xs : List ℕ) (k d : ℕ) → k < length xs → is_in (slice_index_or xs k d) xs ≡ true
element_in xs k d lt = list_any_at (λ (q : ℕ). nat_eq (slice_index_or xs k d) q) xs k d lt (eq-eqb _ _ refl)

-- an element, whatever stands past the end
pub element_is : (xs : List Bool) (i : ℕ) (b d : Bool) → i < length xs → b ≡ slice_index_or xs i b → slice_index_or xs i d ≡ b
element_is [] i b d lt e = absurd (omega (arith, lt))
element_is (x ∷ xs) zero b d lt e = sym e
element_is (x ∷ xs) (suc i) b d lt e = element_is xs i b d (omega (arith, lt)) e
