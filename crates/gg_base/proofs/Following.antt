-- The half of "follows" that looks forwards, step by step, and the other half from it.
use Rattle.std.proofs.Common.{◌≡◌, ℕ, zero, suc, ◌≤◌, ◌<◌, List, [], ◌∷◌, ◌++◌, ap, arith, refl, sym, ◌∙◌, subst, ◌⊎◌, inl, inr, ⊎_elim}
use Rattle.std.proofs.lemmas.Bool.{cases_lt}
use Rattle.gg_base.specs.declared.run.End.{End}
use Rattle.gg_base.specs.declared.run.End.TheVariants.{Ended, Trapped, Wild, Deep, Spent, Broken}
use Rattle.gg_base.specs.Runs.{Outcome, Runs, emit, counted, stop, OneEnd}
use Rattle.gg_base.specs.Follows.{IsLost, GetsLost, Says, Asks, Tells, IsBroken, NeverBroken, AsksAt, Forward, Follows}

asks_byte : (n b : ℕ) (e : End) (o : List ℕ) (q : Runs) → AsksAt n e o q → AsksAt n e (b ∷ o) (emit b q)
asks_byte n b (Ended s) o q h = (h.0, ap (λ l. b ∷ l) h.1, h.2)
asks_byte n b Trapped o q h = (h.0, ap (λ l. b ∷ l) h.1, h.2)
asks_byte n b Spent o q h = (h.0, ap (λ l. b ∷ l) h.1, h.2, h.3)
asks_byte n b Wild o q h = (h.0, ap (λ l. b ∷ l) h.1)
asks_byte n b Deep o q h = (h.0, ap (λ l. b ∷ l) h.1)
asks_byte n b (Broken k) o q h = tt

asks_one : (n n' : ℕ) (e : End) (o : List ℕ) (q : Runs) → n' ≤ suc n → AsksAt n e o q → AsksAt n' e o (counted q)
asks_one n n' (Ended s) o q le h = (suc h.0, h.1, h.2)
asks_one n n' Trapped o q le h = (suc h.0, h.1, h.2)
asks_one n n' Spent o q le h = (suc h.0, h.1, h.2, omega (arith, h.3))
asks_one n n' Wild o q le h = (suc h.0, h.1)
asks_one n n' Deep o q le h = (suc h.0, h.1)
asks_one n n' (Broken k) o q le h = tt

-- both write a byte
pub forward_emit : (k b : ℕ) (r q : Runs) → Forward k r q → Forward k (emit b r) (emit b q)
forward_emit k b r q h = record { at = λ n lt. asks_byte n b (r n).end (r n).output q (h.at n lt) }

-- the second run counts a moment of which the first knows nothing
pub forward_quiet : (k : ℕ) (r q : Runs) → Forward k r q → Forward k r (counted q)
forward_quiet k r q h = record { at = λ n lt. asks_one n n (r n).end (r n).output q (omega arith) (h.at n lt) }

counted_at : (k : ℕ) (r q : Runs) → Forward k r q → (n : ℕ) → n < suc k → AsksAt n (counted r n).end (counted r n).output (counted q)
counted_at k r q h zero lt = (zero, refl, refl, omega arith)
counted_at k r q h (suc n) lt = asks_one n (suc n) (r n).end (r n).output q (omega arith) (h.at n (omega arith))

-- both count a moment
pub forward_counted : (k : ℕ) (r q : Runs) → Forward k r q → Forward (suc k) (counted r) (counted q)
forward_counted k r q h = record { at = counted_at k r q h }

-- what is lost at once is followed by any run that writes nothing with the number 0
pub forward_wild : (k : ℕ) (q : Runs) → (q 0).output ≡ [] → Forward k (stop Wild) q
forward_wild k q none = record { at = λ n lt. (0, none) }

pub forward_deep : (k : ℕ) (q : Runs) → (q 0).output ≡ [] → Forward k (stop Deep) q
forward_deep k q none = record { at = λ n lt. (0, none) }

-- both end alike at once
pub forward_ended : (k s : ℕ) → Forward k (stop (Ended s)) (stop (Ended s))
forward_ended k s = record { at = λ n lt. (0, refl, refl) }

pub forward_trapped : (k : ℕ) → Forward k (stop Trapped) (stop Trapped)
forward_trapped k = record { at = λ n lt. (0, refl, refl) }

asks_of : (n : ℕ) (e : End) (o : List ℕ) (b : Runs) → AsksAt n e o b → Asks e o b
asks_of n (Ended s) o b h = h
asks_of n Trapped o b h = h
asks_of n Spent o b h = (h.0, h.1, h.2)
asks_of n Wild o b h = h
asks_of n Deep o b h = h
asks_of n (Broken k) o b h = tt

ended_spent : (s : ℕ) → Ended s ≡ Spent → ⊥
ended_spent s e = cc

trapped_spent : Trapped ≡ Spent → ⊥
trapped_spent e = cc

module _ (a b : Runs) (whole : NeverBroken a) (one : OneEnd b) where
  -- an end of the second run stays with each larger number
  later : (m n : ℕ) → ((b m).end ≡ Spent → ⊥) → m ≤ n → b n ≡ b m
  later m n over le = one.stays n m over (omega (arith, one.within m))

  same_end : (m n : ℕ) → ((b m).end ≡ Spent → ⊥) → ((b n).end ≡ Spent → ⊥) → b m ≡ b n
  same_end m n over over' =
      ⊎_elim (λ lt. sym (later m n over (omega arith))) (λ le. later n m over' le) (cases_lt m n)

  ends_back : (m : ℕ) → ((b m).end ≡ Spent → ⊥) → (e : End) (o : List ℕ) → (IsBroken e → ⊥) → AsksAt m e o b → IsLost e ⊎ (((b m).output ≡ o) × ((b m).end ≡ e))
  ends_back m over (Ended s) o ok h = let e = same_end m h.0 over (λ p. ended_spent s (sym h.2 ∙ p)) in inr (ap (λ (x : Outcome). x.output) e ∙ h.1, ap (λ (x : Outcome). x.end) e ∙ h.2)
  ends_back m over Trapped o ok h = let e = same_end m h.0 over (λ p. trapped_spent (sym h.2 ∙ p)) in inr (ap (λ (x : Outcome). x.output) e ∙ h.1, ap (λ (x : Outcome). x.end) e ∙ h.2)
  ends_back m over Spent o ok h = absurd (over (sym (ap (λ (x : Outcome). x.end) (later m h.0 over h.3)) ∙ h.2))
  ends_back m over Wild o ok h = inl tt
  ends_back m over Deep o ok h = inl tt
  ends_back m over (Broken k) o ok h = absurd (ok tt)

  -- a spent run's output is the beginning of an ended run's
  begins_end : (m n : ℕ) → (b m).end ≡ Spent → ((b n).end ≡ Spent → ⊥) → (more : List ℕ) × ((b n).output ≡ (b m).output ++ more)
  begins_end m n is over =
      ⊎_elim (λ lt. one.longer m n (omega arith)) (λ le. absurd (over (sym (ap (λ (x : Outcome). x.end) (later n m over le)) ∙ is))) (cases_lt m n)

  spent_back : (m : ℕ) → (b m).end ≡ Spent → (e : End) (o : List ℕ) → (IsBroken e → ⊥) → AsksAt m e o b → IsLost e ⊎ ((more : List ℕ) × (o ≡ (b m).output ++ more))
  spent_back m is (Ended s) o ok h = let g = begins_end m h.0 is (λ p. ended_spent s (sym h.2 ∙ p)) in inr (g.0, sym h.1 ∙ g.1)
  spent_back m is Trapped o ok h = let g = begins_end m h.0 is (λ p. trapped_spent (sym h.2 ∙ p)) in inr (g.0, sym h.1 ∙ g.1)
  spent_back m is Spent o ok h = let g = one.longer m h.0 h.3 in inr (g.0, sym h.1 ∙ g.1)
  spent_back m is Wild o ok h = inl tt
  spent_back m is Deep o ok h = inl tt
  spent_back m is (Broken k) o ok h = absurd (ok tt)

  module _ (at : (n : ℕ) → AsksAt n (a n).end (a n).output b) where
    end_told : (m : ℕ) (e : End) → (b m).end ≡ e → (e ≡ Spent → ⊥) → Says a (b m).output e ⊎ GetsLost a
    end_told m e is over =
        ⊎_elim
        (λ l. inr (m, l))
        (λ same. inl (m, sym same.0, sym same.1 ∙ is))
        (ends_back m (λ p. over (sym is ∙ p)) (a m).end (a m).output (whole m) (at m))

    -- an answer that the first run never gives comes only where it gets lost
    never_told : (m : ℕ) (e : End) → (b m).end ≡ e → (e ≡ Spent → ⊥) → ((n : ℕ) → (a n).end ≡ e → GetsLost a) → GetsLost a
    never_told m e is over lost = ⊎_elim (λ h. lost h.0 h.2) (λ l. l) (end_told m e is over)

    told : (m : ℕ) (e : End) → (b m).end ≡ e → Tells e (b m).output a
    told m (Ended s) is = end_told m (Ended s) is (ended_spent s)
    told m Trapped is = end_told m Trapped is trapped_spent
    told m Spent is = ⊎_elim (λ l. inr (m, l)) (λ h. inl (m, h)) (spent_back m is (a m).end (a m).output (whole m) (at m))
    told m Wild is = never_told m Wild is (λ e. cc) (λ n e. (n, subst IsLost (sym e) tt))
    told m Deep is = never_told m Deep is (λ e. cc) (λ n e. (n, subst IsLost (sym e) tt))
    told m (Broken k) is = never_told m (Broken k) is (λ e. cc) (λ n e. absurd (whole n (subst IsBroken (sym e) tt)))

    follows_at : Follows a b
    follows_at = record {
      forward = λ n. asks_of n (a n).end (a n).output b (at n);
      backward = λ m. told m (b m).end refl;
    }

pub follows : (a b : Runs) → NeverBroken a → ((k : ℕ) → Forward k a b) → OneEnd b → Follows a b
follows a b whole forward one = follows_at a b whole one (λ n. (forward (suc n)).at n (omega arith))
