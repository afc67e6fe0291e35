-- A run that lasts, from one number to the next, has one end.
use Rattle.std.proofs.Common.{◌≡◌, ℕ, zero, suc, ◌+◌, ◌-◌, ◌<◌, ◌≤◌, List, [], ◌∷◌, ◌++◌, ◌⊎◌, inl, inr, refl, sym, ap, ◌∙◌, subst, ⊎_elim, arith, append_assoc}
use Rattle.std.proofs.lemmas.List.{append-nil}
use Rattle.std.proofs.lemmas.Bool.{cases_lt}
use Rattle.gg_base.specs.declared.run.End.{End}
use Rattle.gg_base.specs.declared.run.End.TheVariants.{Spent}
use Rattle.gg_base.specs.Runs.{Outcome, Runs, byte_first, one_first, emit, counted, stop, OneEnd}
use Rattle.gg_base.specs.Lasting.{Grows, Lasts}

pub emits_grow : (n b : ℕ) (o p : Outcome) → Grows n o p → Grows n (byte_first b o) (byte_first b p)
emits_grow n b o p (inl e) = inl (ap (byte_first b) e)
emits_grow n b o p (inr h) = inr (h.0, (h.1.0, ap (λ l. b ∷ l) h.1.1), h.2)

pub counts_grow : (n : ℕ) (o p : Outcome) → Grows n o p → Grows (suc n) (one_first o) (one_first p)
counts_grow n o p (inl e) = inl (ap one_first e)
counts_grow n o p (inr h) = inr (h.0, h.1, ap suc h.2)

counted_bound : (k : ℕ) (r : Runs) → Lasts k r → (n : ℕ) → n < suc k → (counted r n).number ≤ n
counted_bound k r h zero lt = omega arith
counted_bound k r h (suc n) lt = omega (arith, h.bound n (omega arith))

counted_spent : (k : ℕ) (r : Runs) → Lasts k r → (n : ℕ) → n < suc k → (counted r n).end ≡ Spent → (counted r n).number ≡ n
counted_spent k r h zero lt e = refl
counted_spent k r h (suc n) lt e = ap suc (h.all_spent n (omega arith) e)

counted_grows : (k : ℕ) (r : Runs) → Lasts k r → (n : ℕ) → suc n < suc k → Grows n (counted r n) (counted r (suc n))
counted_grows k r h zero lt = let z : suc (r 0).number ≡ 1 = omega (arith, h.bound 0 (omega arith)) in inr (refl, ((r 0).output, refl), z)
counted_grows k r h (suc n) lt = counts_grow n (r n) (r (suc n)) (h.grows n (omega arith))

-- nothing is said below 0
pub lasts_none : (r : Runs) → Lasts 0 r
lasts_none r = record { bound = λ n lt. absurd (omega arith); all_spent = λ n lt e. absurd (omega arith); grows = λ n lt. absurd (omega arith) }

pub lasts_stop : (k : ℕ) (e : End) → (e ≡ Spent → ⊥) → Lasts k (stop e)
lasts_stop k e no_spent = record { bound = λ n lt. omega arith; all_spent = λ n lt h. absurd (no_spent h); grows = λ n lt. inl refl }

pub lasts_emit : (k b : ℕ) (r : Runs) → Lasts k r → Lasts k (emit b r)
lasts_emit k b r h = record { bound = h.bound; all_spent = h.all_spent; grows = λ n lt. emits_grow n b (r n) (r (suc n)) (h.grows n lt) }

pub lasts_counted : (k : ℕ) (r : Runs) → Lasts k r → Lasts (suc k) (counted r)
lasts_counted k r h = record { bound = counted_bound k r h; all_spent = counted_spent k r h; grows = counted_grows k r h }

module _ (r : Runs) (lasts : (k : ℕ) → Lasts k r) where
  bounded : (n : ℕ) → (r n).number ≤ n
  bounded n = (lasts (suc n)).bound n (omega arith)

  ahead : (n : ℕ) → Grows n (r n) (r (suc n))
  ahead n = (lasts (suc (suc n))).grows n (omega arith)

  longer_by : (m : ℕ) (a b : Outcome) (o : List ℕ) → Grows m a b → (more : List ℕ) × (a.output ≡ o ++ more) → (more : List ℕ) × (b.output ≡ o ++ more)
  longer_by m a b o (inl e) h = (h.0, ap (λ (x : Outcome). x.output) e ∙ h.1)
  longer_by m a b o (inr g) h = (h.0 ++ g.1.0, g.1.1 ∙ ap (λ l. l ++ g.1.0) h.1 ∙ append_assoc o h.0 g.1.0)

  longer_from : (m d : ℕ) → (more : List ℕ) × ((r (d + m)).output ≡ (r m).output ++ more)
  longer_from m zero = let e : 0 + m ≡ m = omega arith in ([], ap (λ i. (r i).output) e ∙ sym (append-nil (r m).output))
  longer_from m (suc d) =
      let e : suc (d + m) ≡ suc d + m = omega arith in
      subst (λ i. (more : List ℕ) × ((r i).output ≡ (r m).output ++ more)) e (longer_by (d + m) (r (d + m)) (r (suc (d + m))) (r m).output (ahead (d + m)) (longer_from m d))

  -- with a larger number the run is the same, or it was spent
  abbrev Ahead : ℕ → Outcome → Outcome → Type 0
  Ahead m a b = (b ≡ a) ⊎ ((a.end ≡ Spent) × (m < b.number))

  ahead_by : (m n : ℕ) (a b c : Outcome) → m ≤ n → Ahead m a b → Grows n b c → Ahead m a c
  ahead_by m n a b c le (inl e) (inl f) = inl (f ∙ e)
  ahead_by m n a b c le (inl e) (inr g) = inr (ap (λ (x : Outcome). x.end) (sym e) ∙ g.0, omega (arith, g.2))
  ahead_by m n a b c le (inr h) (inl f) = inr (h.0, subst (λ (x : Outcome). m < x.number) (sym f) h.1)
  ahead_by m n a b c le (inr h) (inr g) = inr (h.0, omega (arith, g.2))

  ahead_from : (m d : ℕ) → Ahead m (r m) (r (d + m))
  ahead_from m zero = let e : 0 + m ≡ m = omega arith in inl (ap r e)
  ahead_from m (suc d) =
      let e : suc (d + m) ≡ suc d + m = omega arith in
      subst (λ i. Ahead m (r m) (r i)) e (ahead_by m (d + m) (r m) (r (d + m)) (r (suc (d + m))) (omega arith) (ahead_from m d) (ahead (d + m)))

  stays_at : (m n : ℕ) → ((r n).end ≡ Spent → ⊥) → (r n).number ≤ m → Ahead m (r m) (r n) → r m ≡ r n
  stays_at m n no_spent le (inl e) = sym e
  stays_at m n no_spent le (inr h) = absurd (omega (arith, h.1))

  stays_past : (m n : ℕ) → ((r n).end ≡ Spent → ⊥) → Ahead n (r n) (r m) → r m ≡ r n
  stays_past m n no_spent (inl e) = e
  stays_past m n no_spent (inr h) = absurd (no_spent h.0)

  before_at : (m n : ℕ) → m < (r n).number → Ahead m (r m) (r n) → (r m).end ≡ Spent
  before_at m n lt (inl e) = absurd (omega (arith, bounded m, ap (λ (x : Outcome). x.number) e))
  before_at m n lt (inr h) = h.0

  going_on : (m n : ℕ) → m ≤ n → Ahead m (r m) (r n)
  going_on m n le = let e : n - m + m ≡ n = omega arith in subst (λ i. Ahead m (r m) (r i)) e (ahead_from m (n - m))

  pub one_end_of : OneEnd r
  one_end_of = record {
    within = bounded;
    spent = λ n. (lasts (suc n)).all_spent n (omega arith);
    longer = λ m n le. let e : n - m + m ≡ n = omega arith in subst (λ i. (more : List ℕ) × ((r i).output ≡ (r m).output ++ more)) e (longer_from m (n - m));
    stays = λ m n no_spent le. ⊎_elim
        (λ lt. stays_at m n no_spent (omega arith) (going_on m n (omega arith)))
        (λ le'. stays_past m n no_spent (going_on n m le'))
        (cases_lt m n);
    before = λ m n lt. before_at m n lt (going_on m n (omega (arith, bounded n)));
  }
