-- How the set of places at which C may be read grows until it is closed.
use Rattle.std.proofs.Common.{◌≡◌, ◌⊎◌, ◌↔◌, inl, inr, ℕ, zero, suc, ◌+◌, ◌<◌, Bool, true, false, List, [], ◌∷◌, length, Option, Some, None, refl, sym, ap, subst, ◌∙◌, arith}
use Rattle.std.specs.Prelude.{◌-◌, ◌≢◌, slice_get, slice_index_or}
use Rattle.std.specs.List.{All}
use Rattle.gg_base.proofs.Facts.{false_true, true_or_false, index_there}
use Rattle.vax_core.specs.declared.code.CodeItem.{CodeItem}
use Rattle.vax_codes.specs.declared.marks.Marks.{Marks}
use Rattle.vax_codes.specs.Marks.{is_in, IsMarked, waits, Empty, Adds, Takes, Rests}
use Rattle.vax_codes.specs.Carry.{MayRead}
use Rattle.vax_codes.specs.Nexts.{goal_of}
use Rattle.vax_codes.specs.Sources.{AreSources}
use Rattle.vax_codes.specs.Reading.{passes_on, asks, Brings, IsPartOf}
use Rattle.vax_passes.proofs.Suffixes.{get_inside}
use Rattle.vax_codes.proofs.Carrying.{brought, asked_at, all_in}
use Rattle.vax_codes.proofs.Marking.{same_or_not, element_in, adds_none, adds_both, adds_same}

marked_below : (xs : List Bool) (p : ℕ) → slice_index_or xs p false ≡ true → p < length xs
marked_below [] zero e = false_true e
marked_below [] (suc p) e = false_true e
marked_below (x ∷ xs) zero e = omega arith
marked_below (x ∷ xs) (suc p) e = let h = marked_below xs p e in omega (arith, h)

asks_below : (cs : List CodeItem) (p : ℕ) → asks (slice_get cs p) ≡ true → p < length cs
asks_below [] zero e = false_true e
asks_below [] (suc p) e = false_true e
asks_below (x ∷ cs) zero e = omega arith
asks_below (x ∷ cs) (suc p) e = let h = asks_below cs p e in omega (arith, h)

module _ (cs : List CodeItem) where
  item_at : (number : ℕ) (x : CodeItem) → number < length cs → x ≡ slice_index_or cs number x → slice_get cs number ≡ Some x
  item_at number x lt is = index_there cs number x lt ∙ ap (λ (y : CodeItem). Some y) (sym is)

  -- the branches that read C
  abbrev pub Asking : ℕ → ℕ → Type 0
  Asking number p = (p < number) × (asks (slice_get cs p) ≡ true)

  pub none_asked : (m : Marks) → Adds (Asking 0) m m
  none_asked m = adds_none (Asking 0) m (λ p x. (let lt = x.0 in absurd (omega (arith, lt))))

  -- the loop: one item more
  pub asked_more : (number : ℕ) (x : CodeItem) (a b c : Marks) → number < length cs → x ≡ slice_index_or cs number x
      → Adds (Asking number) a b → Adds (λ p. (p ≡ number) × (asks (Some x) ≡ true)) b c → Adds (Asking (number + 1)) a c
  asked_more number x a b c lt is first second =
      adds_both (Asking number) (λ p. (p ≡ number) × (asks (Some x) ≡ true)) (Asking (number + 1)) a b c first second (λ p h. split p h (same_or_not p number))
      (λ p h. (let lt = h.0 in omega (arith, lt), h.1))
      (λ p h. (let e = h.0 in omega (arith, e), ap (λ (k : ℕ). asks (slice_get cs k)) h.0 ∙ ap asks (item_at number x lt is) ∙ h.1))
    where
      split : (p : ℕ) → Asking (number + 1) p → (p ≡ number) ⊎ (p ≢ number) → Asking number p ⊎ ((p ≡ number) × (asks (Some x) ≡ true))
      split p h (inl e) = inr (e, sym (ap (λ (k : ℕ). asks (slice_get cs k)) e ∙ ap asks (item_at number x lt is)) ∙ h.1)
      split p h (inr apart) = inl ((let lt = h.0 in omega (arith, lt, apart)), h.1)

  pub all_asked : (old new : Marks) → Empty old (length cs + 1) → Adds (Asking (length cs)) old new → IsPartOf cs new
  all_asked old new none h = record {
    each = h.each ∙ none.each;
    belongs = λ p x. belongs_by p (h.only p x);
    asked = λ p e. h.there p (asks_below cs p e, e);
    waiting = λ p x. waiting_by p (h.waits_only p x);
    closed = λ q x. closed_by q (h.only q x);
  }
    where
      belongs_by : (p : ℕ) → IsMarked old p ⊎ (Asking (length cs) p × (waits new p ≡ true)) → MayRead cs p
      belongs_by p (inl x) = absurd (none.marked p x)
      belongs_by p (inr x) = asked_at cs p (slice_get cs p) refl x.0.1

      waiting_by : (p : ℕ) → (waits old p ≡ true) ⊎ Asking (length cs) p → IsMarked new p
      waiting_by p (inl x) = absurd (true_or_false _ x (none.waiting p))
      waiting_by p (inr x) = h.there p x

      closed_by : (q : ℕ) → IsMarked old q ⊎ (Asking (length cs) q × (waits new q ≡ true)) → (waits new q ≡ true) ⊎ ((p : ℕ) → Brings cs q p → IsMarked new p)
      closed_by q (inl x) = absurd (none.marked q x)
      closed_by q (inr x) = inl x.1

  -- ---- what a place brings into the set

  -- from in front of it
  abbrev pub Before : ℕ → ℕ → Type 0
  Before place p = (p + 1 ≡ place) × (passes_on (slice_get cs p) ≡ true)

  pub none_before : (m : Marks) (place : ℕ) → place ≡ 0 → Adds (Before place) m m
  none_before m place e = adds_none (Before place) m (λ p x. (let f = x.0 in absurd (omega (arith, e, f))))

  pub not_before : (m : Marks) (place : ℕ) (x : CodeItem) → slice_get cs (place - 1) ≡ Some x → passes_on (Some x) ≡ false → Adds (Before place) m m
  not_before m place x at apart =
      adds_none (Before place) m (λ p h. (
      let f = h.0 in
      let e : p ≡ place - 1 = omega (arith, f) in
      true_or_false _ h.1 (ap (λ (k : ℕ). passes_on (slice_get cs k)) e ∙ ap passes_on at ∙ apart)))

  pub one_before : (a b : Marks) (place : ℕ) (x : CodeItem) → 0 < place → place < length cs + 1 → x ≡ slice_index_or cs (place - 1) x
      → passes_on (Some x) ≡ true → Adds (λ p. p ≡ place - 1) a b → Adds (Before place) a b
  one_before a b place x pos lt is passes h =
      let at = item_at (place - 1) x (omega (arith, pos, lt)) is in
      adds_same (λ p. p ≡ place - 1) (Before place) a b
      (λ p e. (omega (arith, e, pos), ap (λ (k : ℕ). passes_on (slice_get cs k)) e ∙ ap passes_on at ∙ passes))
      (λ p f. (let e = f.0 in omega (arith, e)))
      h

  pub sources_below : (goals : List (List ℕ)) (place bound : ℕ) → AreSources cs goals → bound ≡ length cs + 1 → All (λ (p : ℕ). p < bound) (slice_index_or goals place [])
  sources_below goals place bound come e k d lt =
      let h = (come.only place _ (element_in (slice_index_or goals place []) k d lt)).0 in
      omega (arith, h, e)

  pub all_brought : (goals : List (List ℕ)) (place : ℕ) (a b c : Marks) → AreSources cs goals → Adds (Before place) a b → Adds (λ p. is_in p (slice_index_or goals place []) ≡ true) b c
      → Adds (λ p. Brings cs place p) a c
  all_brought goals place a b c come first second =
      adds_both (Before place) (λ p. is_in p (slice_index_or goals place []) ≡ true) (λ p. Brings cs place p) a b c first second (λ p h. split p h) (λ p h. inl h)
      (λ p h. inr (come.only place p h).1)
    where
      goal_in : (p : ℕ) (o : Option CodeItem) → slice_get cs p ≡ o → goal_of cs o ≡ Some place → p < length cs
      goal_in p None at g = absurd cc
      goal_in p (Some x) at g = get_inside cs p x at

      split : (p : ℕ) → Brings cs place p → Before place p ⊎ (is_in p (slice_index_or goals place []) ≡ true)
      split p (inl h) = inl h
      split p (inr g) = inr (come.there place p (goal_in p (slice_get cs p) refl g) g)

  -- a place is asked about
  module _ (old mid new : Marks) (place : ℕ) (part : IsPartOf cs old) (takes : Takes place old mid) where
    stays_in : (p : ℕ) → IsMarked old p → IsMarked mid p
    stays_in p x = ap (λ (xs : List Bool). slice_index_or xs p false) takes.marked ∙ x

    was_in : (p : ℕ) → IsMarked mid p → IsMarked old p
    was_in p x = sym (ap (λ (xs : List Bool). slice_index_or xs p false) takes.marked) ∙ x

    pub taken_below : place < length cs + 1
    taken_below = let h = marked_below old.marked.items place (part.waiting place takes.waited) in let e = part.each in omega (arith, h, e)

    pub mid_each : length mid.marked.items ≡ length cs + 1
    mid_each = ap length takes.marked ∙ part.each

    module _ (adds : Adds (Brings cs place) mid new) where
      belongs_by : (p : ℕ) → IsMarked mid p ⊎ (Brings cs place p × (waits new p ≡ true)) → MayRead cs p
      belongs_by p (inl x) = part.belongs p (was_in p x)
      belongs_by p (inr x) = brought cs place p (part.belongs place (part.waiting place takes.waited)) x.0

      waiting_by : (p : ℕ) → (waits mid p ≡ true) ⊎ Brings cs place p → IsMarked new p
      waiting_by p (inl x) = adds.stays p (stays_in p (part.waiting p (takes.waiting p x)))
      waiting_by p (inr x) = adds.there p x

      still : (q : ℕ) → (waits mid q ≡ true) ⊎ (q ≡ place) → (waits new q ≡ true) ⊎ ((p : ℕ) → Brings cs q p → IsMarked new p)
      still q (inl x) = inl (adds.waiting q x)
      still q (inr e) = inr (λ p b. adds.there p (subst (λ (r : ℕ). Brings cs r p) e b))

      old_by : (q : ℕ) → (waits old q ≡ true) ⊎ ((p : ℕ) → Brings cs q p → IsMarked old p) → (waits new q ≡ true) ⊎ ((p : ℕ) → Brings cs q p → IsMarked new p)
      old_by q (inl x) = still q (takes.others q x)
      old_by q (inr f) = inr (λ p b. adds.stays p (stays_in p (f p b)))

      closed_by : (q : ℕ) → IsMarked mid q ⊎ (Brings cs place q × (waits new q ≡ true)) → (waits new q ≡ true) ⊎ ((p : ℕ) → Brings cs q p → IsMarked new p)
      closed_by q (inl x) = old_by q (part.closed q (was_in q x))
      closed_by q (inr x) = inl x.1

      pub brings_on : IsPartOf cs new
      brings_on = record {
        each = adds.each ∙ mid_each;
        belongs = λ p x. belongs_by p (adds.only p x);
        asked = λ p e. adds.stays p (stays_in p (part.asked p e));
        waiting = λ p x. waiting_by p (adds.waits_only p x);
        closed = λ q x. closed_by q (adds.only q x);
      }

  -- none waits
  pub all_found : (old new : Marks) (found : List Bool) → IsPartOf cs old → Rests old new → found ≡ new.marked.items → (p : ℕ) → (slice_index_or found p false ≡ true) ↔ MayRead cs p
  all_found old new found part rests e p = (λ x. part.belongs p (sym same ∙ x), λ r. same ∙ all_in cs (IsMarked old) part.asked (λ q x. closed_by q (part.closed q x)) p r)
    where
      same : slice_index_or found p false ≡ slice_index_or old.marked.items p false
      same = ap (λ (xs : List Bool). slice_index_or xs p false) (e ∙ rests.marked)

      closed_by : (q : ℕ) → (waits old q ≡ true) ⊎ ((r : ℕ) → Brings cs q r → IsMarked old r) → (r : ℕ) → Brings cs q r → IsMarked old r
      closed_by q (inl x) = absurd (true_or_false _ x (rests.none q))
      closed_by q (inr f) = f
