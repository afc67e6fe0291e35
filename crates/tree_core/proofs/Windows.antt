-- What it says that the numbers of a list were met, window by window.
use Rattle.std.proofs.Common.{◌≡◌, ◌⊎◌, inl, inr, ⊎_elim, min, ℕ, zero, suc, ◌+◌, ◌<◌, ◌≤◌, List, [], ◌∷◌, Bool, true, false, cond, not, ◌&&◌, ◌||◌, eqb, refl, sym, ap, ◌∙◌, subst}
use Rattle.std.proofs.Common.{Option, Some, None, arith, replicate, get_or}
use Rattle.std.specs.Prelude.{nat_le, is_some}
use Rattle.std.proofs.lemmas.Bool.{eqb-true, eq-eqb, le-leb, leb-true, leb-false, lt-ltb, cases_lt, both_ways, or_cases, or_right}
use Rattle.std.proofs.lemmas.Option.{none-some}
use Rattle.gg_base.proofs.Facts.{unguarded, not_some, second_true}
use Rattle.tree_core.specs.Window.{covers, added, added_all, met_once, all_met, lesser, better, least}
use Rattle.tree_core.specs.Items.{times}

none_at : (n k : ℕ) → get_or (replicate n false) k false ≡ false
none_at zero k = refl
none_at (suc n) zero = refl
none_at (suc n) (suc k) = none_at n k

pub none_met : (b : Bool) (n k : ℕ) → (b && get_or (replicate n false) k false) ≡ false
none_met false n k = refl
none_met true n k = none_at n k

split_eqb : (m n : ℕ) (P : Bool → Type 0) → (m ≡ n → P true) → (eqb m n ≡ false → P false) → P (eqb m n)
split_eqb m n P yes_so no_so = cases (eqb m n) refl
  where
    cases : (b : Bool) → eqb m n ≡ b → P b
    cases true e = yes_so (eqb-true m n e)
    cases false e = no_so e

-- met before, a number stands no more; else once at most
abbrev pub StandsOnce : ℕ → (ℕ → Bool) → List ℕ → ℕ → Type 0
StandsOnce base h ns n = (h n ≡ true → times n ns ≡ 0) × (times n ns ≤ 1)

added_self : (base : ℕ) (h : ℕ → Bool) (n : ℕ) → covers base n ≡ true → added base h n n ≡ true
added_self base h n e = or_right (h n) (covers base n && eqb n n) (rw (e, eq-eqb n n refl) refl)

added_before : (base : ℕ) (h : ℕ → Bool) (m n : ℕ) → h n ≡ true → added base h m n ≡ true
added_before base h m n e = ap (λ (b : Bool). b || (covers base m && eqb n m)) e

once_step : (base : ℕ) (h : ℕ → Bool) (m : ℕ) (ms : List ℕ) (n : ℕ) → covers base n ≡ true → h m ≡ false → StandsOnce base (added base h m) ms n → StandsOnce base h (m ∷ ms) n
once_step base h m ms n cov new rest =
    split_eqb m n (λ b. (h n ≡ true → cond b 1 0 + times n ms ≡ 0) × (cond b 1 0 + times n ms ≤ 1)) same other
  where
    same : m ≡ n → (h n ≡ true → 1 + times n ms ≡ 0) × (1 + times n ms ≤ 1)
    same e =
        let met : added base h m n ≡ true = subst (λ (k : ℕ). added base h k n ≡ true) (sym e) (added_self base h n cov) in
        let none = rest.0 met in
        let was : h n ≡ false = ap h (sym e) ∙ new in
        ((λ q. absurd (both_ways (h n) was q)), omega (arith, none))

    other : eqb m n ≡ false → (h n ≡ true → 0 + times n ms ≡ 0) × (0 + times n ms ≤ 1)
    other e = ((λ q. let none = rest.0 (added_before base h m n q) in omega (arith, none)), omega (arith, rest.1))

pub once : (base : ℕ) (h g : ℕ → Bool) (ns : List ℕ) → met_once base h ns ≡ Some g → (n : ℕ) → covers base n ≡ true → StandsOnce base h ns n
once base h g [] e n cov = ((λ q. refl), omega arith)
once base h g (m ∷ ms) e n cov =
    let q = unguarded (h m) (met_once base (added base h m) ms) g e in
    once_step base h m ms n cov q.0 (once base (added base h m) g ms q.1 n cov)

-- some number stands again
pub record Again (h : ℕ → Bool) (ns : List ℕ) : Type 0 where
  pub which : ℕ
  pub again : ((h which ≡ true) × (1 ≤ times which ns)) ⊎ (2 ≤ times which ns)

again_step : (base : ℕ) (h : ℕ → Bool) (m : ℕ) (ms : List ℕ) → Again (added base h m) ms → Again h (m ∷ ms)
again_step base h m ms r = record { which = r.which; again = by r.again }
  where
    met_now : (a b c : Bool) → (a || (b && c)) ≡ true → (a ≡ true) ⊎ (c ≡ true)
    met_now true b c e = inl refl
    met_now false true c e = inr e
    met_now false false c e = absurd cc

    counted : (n : ℕ) → n ≡ m → times n (m ∷ ms) ≡ 1 + times n ms
    counted n e = ap (λ (b : Bool). cond b 1 0 + times n ms) (eq-eqb m n (sym e))

    more : (n : ℕ) (b : Bool) → times n ms ≤ cond b 1 0 + times n ms
    more n true = omega arith
    more n false = omega arith

    by : ((added base h m r.which ≡ true) × (1 ≤ times r.which ms)) ⊎ (2 ≤ times r.which ms) → ((h r.which ≡ true) × (1 ≤ times r.which (m ∷ ms))) ⊎ (2 ≤ times r.which (m ∷ ms))
    by (inr two) = inr (omega (arith, two, more r.which (eqb m r.which)))
    by (inl p) = by_now (met_now (h r.which) (covers base m) (eqb r.which m) p.0) p.1
      where
        by_now : (h r.which ≡ true) ⊎ (eqb r.which m ≡ true) → 1 ≤ times r.which ms → ((h r.which ≡ true) × (1 ≤ times r.which (m ∷ ms))) ⊎ (2 ≤ times r.which (m ∷ ms))
        by_now (inl e) one = inl (e, omega (arith, one, more r.which (eqb m r.which)))
        by_now (inr e) one = inr (omega (arith, one, counted r.which (eqb-true r.which m e)))

again_here : (h : ℕ → Bool) (m : ℕ) (ms : List ℕ) → h m ≡ true → Again h (m ∷ ms)
again_here h m ms q =
    let one : times m (m ∷ ms) ≡ 1 + times m ms = ap (λ (b : Bool). cond b 1 0 + times m ms) (eq-eqb m m refl) in
    record { which = m; again = inl (q, omega (arith, one)) }

again_cases : (base : ℕ) (h : ℕ → Bool) (m : ℕ) (ms : List ℕ) → (met_once base (added base h m) ms ≡ None → Again (added base h m) ms) → (b : Bool) → h m ≡ b
    → cond b None (met_once base (added base h m) ms) ≡ None → Again h (m ∷ ms)
again_cases base h m ms rest true q w = again_here h m ms q
again_cases base h m ms rest false q w = again_step base h m ms (rest w)

pub again_of : (base : ℕ) (h : ℕ → Bool) (ns : List ℕ) → met_once base h ns ≡ None → Again h ns
again_of base h [] e = absurd cc
again_of base h (m ∷ ms) e = again_cases base h m ms (λ w. again_of base (added base h m) ms w) (h m) refl e

-- the least number from one on
pub least_none : (from : ℕ) (best : Option ℕ) (ns : List ℕ) → least from best ns ≡ None → (best ≡ None) × ((n : ℕ) → 0 < times n ns → n < from)
least_none from best [] e = (e, λ n lt. absurd (omega arith))
least_none from best (m ∷ ms) e = here (least_none from (better from best m) ms e)
  where
    low : (b : Bool) → nat_le from m ≡ b → cond b (lesser best m) best ≡ None → (best ≡ None) × (m < from)
    low true q w = absurd (never best w)
      where
        never : (o : Option ℕ) → lesser o m ≡ None → ⊥
        never None v = cc
        never (Some k) v = cc
    low false q w = (w, leb-false from m q)

    here : (better from best m ≡ None) × ((n : ℕ) → 0 < times n ms → n < from) → (best ≡ None) × ((n : ℕ) → 0 < times n (m ∷ ms) → n < from)
    here h =
        let l = low (nat_le from m) refl h.0 in
        (l.0, λ n. split_eqb m n (λ b. 0 < cond b 1 0 + times n ms → n < from) (λ e lt. omega (arith, l.1, e)) (λ e lt. h.1 n (omega (arith, lt))))

pub record IsLeast (from k : ℕ) (best : Option ℕ) (ns : List ℕ) : Type 0 where
  pub above : (m : ℕ) → best ≡ Some m → k ≤ m
  pub none : (n : ℕ) → from ≤ n → n < k → times n ns ≡ 0

pub least_some : (from k : ℕ) (best : Option ℕ) (ns : List ℕ) → least from best ns ≡ Some k → IsLeast from k best ns
least_some from k best [] e = record { above = λ m q. same m (sym q ∙ e); none = λ n le lt. refl }
  where
    same : (m : ℕ) → Some m ≡ Some k → k ≤ m
    same m q = let z : m ≡ k = cc in omega (arith, z)
least_some from k best (m ∷ ms) e = here (least_some from k (better from best m) ms e)
  where
    -- the best so far is not below the new best, nor is a number from that one on
    step : (b : Bool) → nat_le from m ≡ b → (cond b (lesser best m) best ≡ better from best m) → IsLeast from k (better from best m) ms → ((q : ℕ) → best ≡ Some q → k ≤ q) × (from ≤ m → k ≤ m)
    step true q w h = by best w
      where
        by : (o : Option ℕ) → lesser o m ≡ better from best m → ((r : ℕ) → o ≡ Some r → k ≤ r) × (from ≤ m → k ≤ m)
        by None v = ((λ r z. absurd (none-some r z)), (λ le. h.above m (sym v)))
        by (Some s) v = let lo = h.above (min s m) (sym v) in ((λ r z. let y : s ≡ r = cc in omega (arith, lo, y)), (λ le. omega (arith, lo)))
    step false q w h = ((λ r z. h.above r (sym w ∙ z)), (λ le. absurd (omega (arith, leb-false from m q))))

    here : IsLeast from k (better from best m) ms → IsLeast from k best (m ∷ ms)
    here h =
        let s = step (nat_le from m) refl refl h in
        record {
          above = s.0;
          none = λ n le lt. split_eqb m n (λ b. cond b 1 0 + times n ms ≡ 0) (λ q. let low : from ≤ m = omega (arith, le, q) in absurd (omega (arith, s.1 low, q, lt)))
              (λ q. let z = h.none n le lt in omega (arith, z));
        }

covered : (base n : ℕ) → base ≤ n → n < base + 4096 → covers base n ≡ true
covered base n le lt = rw (le-leb base n le, lt-ltb n (base + 4096) lt) refl

pub some_of : {A : Type 0} (o : Option A) → is_some o ≡ true → (x : A) × (o ≡ Some x)
some_of None e = absurd cc
some_of (Some x) e = (x, refl)

-- one more window has each of its numbers once
pub once_goes : (ns : List ℕ) (from base : ℕ) → least from None ns ≡ Some base → is_some (met_once base (λ m. false) ns) ≡ true → ((n : ℕ) → n < from → times n ns ≤ 1) → (n : ℕ) → n < base
    + 4096 → times n ns ≤ 1
once_goes ns from base e s h n lt =
    ⊎_elim (λ low. h n low) (λ high. ⊎_elim (λ under. let z = (least_some from base None ns e).none n high under in omega (arith, z))
    (λ over. here (some_of (met_once base (λ m. false) ns) s) (covered base n over lt)) (cases_lt n base)) (cases_lt n from)
  where
    here : (g : ℕ → Bool) × (met_once base (λ m. false) ns ≡ Some g) → covers base n ≡ true → times n ns ≤ 1
    here g cov = (once base (λ m. false) g.0 ns g.1 n cov).1

pub once_fails : (ns : List ℕ) (base : ℕ) → is_some (met_once base (λ m. false) ns) ≡ false → ((n : ℕ) → times n ns ≤ 1) → ⊥
once_fails ns base s h = by (again_of base (λ m. false) ns (not_some (met_once base (λ m. false) ns) s))
  where
    by : Again (λ m. false) ns → ⊥
    by r = ⊎_elim (λ p. cc p.0) (λ two. omega (arith, two, h r.which)) r.again

pub once_ends : (ns : List ℕ) (from : ℕ) → least from None ns ≡ None → ((n : ℕ) → n < from → times n ns ≤ 1) → (n : ℕ) → times n ns ≤ 1
once_ends ns from e h n =
    ⊎_elim (λ low. h n low) (λ high. ⊎_elim (λ few. omega (arith, few)) (λ some. absurd (omega (arith, high, (least_none from None ns e).1 n some))) (cases_lt (times n ns) 1)) (cases_lt n from)

-- a number of the window is among those met where it was before, or stands in the list
pub added_is : (base : ℕ) (h : ℕ → Bool) (ns : List ℕ) (n : ℕ) → covers base n ≡ true → added_all base h ns n ≡ true → (h n ≡ true) ⊎ (0 < times n ns)
added_is base h [] n cov e = inl e
added_is base h (m ∷ ms) n cov e = by (added_is base (added base h m) ms n cov e)
  where
    more : (b : Bool) → 0 < times n ms → 0 < cond b 1 0 + times n ms
    more true lt = omega arith
    more false lt = omega (arith, lt)

    by : (added base h m n ≡ true) ⊎ (0 < times n ms) → (h n ≡ true) ⊎ (0 < times n (m ∷ ms))
    by (inr lt) = inr (more (eqb m n) lt)
    by (inl q) = ⊎_elim (λ p. inl p) (λ p. let one : times n (m ∷ ms) ≡ 1 + times n ms =
        ap (λ (b : Bool). cond b 1 0 + times n ms) (eq-eqb m n (sym (eqb-true n m (second_true (covers base m) (eqb n m) p)))) in
        inr (omega (arith, one))) (or_cases (h n) (covers base m && eqb n m) q)

added_stays : (base : ℕ) (h : ℕ → Bool) (ns : List ℕ) (n : ℕ) → h n ≡ true → added_all base h ns n ≡ true
added_stays base h [] n e = e
added_stays base h (m ∷ ms) n e = added_stays base (added base h m) ms n (added_before base h m n e)

pub added_all_is : (base : ℕ) (h : ℕ → Bool) (ns : List ℕ) (n : ℕ) → covers base n ≡ true → 0 < times n ns → added_all base h ns n ≡ true
added_all_is base h [] n cov lt = absurd (omega arith)
added_all_is base h (m ∷ ms) n cov lt = by (λ q. added_all_is base (added base h m) ms n cov q)
  where
    same : m ≡ n → added_all base (added base h m) ms n ≡ true
    same e = added_stays base (added base h m) ms n (subst (λ (k : ℕ). added base h k n ≡ true) (sym e) (added_self base h n cov))

    by : (0 < times n ms → added_all base (added base h m) ms n ≡ true) → added_all base (added base h m) ms n ≡ true
    by rest = split_eqb m n (λ b. 0 < cond b 1 0 + times n ms → added_all base (added base h m) ms n ≡ true) (λ e q. same e) (λ e q. rest (omega (arith, q))) lt

all_met_is : (base : ℕ) (h : ℕ → Bool) (ns : List ℕ) → all_met base h ns ≡ true → (n : ℕ) → covers base n ≡ true → 0 < times n ns → h n ≡ true
all_met_is base h [] e n cov lt = absurd (omega arith)
all_met_is base h (m ∷ ms) e n cov lt = by (λ q w. all_met_is base h ms q n cov w)
  where
    first : (a b r : Bool) → ((not a || b) && r) ≡ true → a ≡ true → b ≡ true
    first true true r q w = refl
    first true false r q w = absurd cc
    first false b r q w = absurd cc

    same : m ≡ n → h n ≡ true
    same q = subst (λ (k : ℕ). h k ≡ true) q (first (covers base m) (h m) (all_met base h ms) e (ap (covers base) q ∙ cov))

    by : (all_met base h ms ≡ true → 0 < times n ms → h n ≡ true) → h n ≡ true
    by rest = split_eqb m n (λ b. 0 < cond b 1 0 + times n ms → h n ≡ true) (λ q w. same q) (λ q w. rest (second_true (not (covers base m) || h m) (all_met base h ms) e) (omega (arith, w))) lt

pub record Unmet (base : ℕ) (h : ℕ → Bool) (ns : List ℕ) : Type 0 where
  pub which : ℕ
  pub stands : 0 < times which ns
  pub covered_there : covers base which ≡ true
  pub is_not : h which ≡ false

unmet_later : (base : ℕ) (h : ℕ → Bool) (m : ℕ) (ms : List ℕ) → Unmet base h ms → Unmet base h (m ∷ ms)
unmet_later base h m ms u = record { which = u.which; stands = more (eqb m u.which); covered_there = u.covered_there; is_not = u.is_not }
  where
    more : (b : Bool) → 0 < cond b 1 0 + times u.which ms
    more true = omega arith
    more false = omega (arith, u.stands)

unmet_cases : (base : ℕ) (h : ℕ → Bool) (m : ℕ) (ms : List ℕ) → (all_met base h ms ≡ false → Unmet base h ms) → (a b : Bool) → covers base m ≡ a → h m ≡ b
    → ((not a || b) && all_met base h ms) ≡ false → Unmet base h (m ∷ ms)
unmet_cases base h m ms rest true false p q e =
    let one : times m (m ∷ ms) ≡ 1 + times m ms = ap (λ (b : Bool). cond b 1 0 + times m ms) (eq-eqb m m refl) in
    record { which = m; stands = omega (arith, one); covered_there = p; is_not = q }
unmet_cases base h m ms rest true true p q e = unmet_later base h m ms (rest e)
unmet_cases base h m ms rest false b p q e = unmet_later base h m ms (rest e)

unmet_of : (base : ℕ) (h : ℕ → Bool) (ns : List ℕ) → all_met base h ns ≡ false → Unmet base h ns
unmet_of base h [] e = absurd cc
unmet_of base h (m ∷ ms) e = unmet_cases base h m ms (λ w. unmet_of base h ms w) (covers base m) (h m) refl refl e

-- one more window has each number of the first list among the second
pub met_goes : (ts ns : List ℕ) (from base : ℕ) (g : ℕ → Bool) → least from None ts ≡ Some base → g ≡ added_all base (λ m. false) ns → all_met base g ts ≡ true
    → ((n : ℕ) → n < from → 0 < times n ts → 0 < times n ns) → (n : ℕ) → n < base + 4096 → 0 < times n ts → 0 < times n ns
met_goes ts ns from base g e gs s h n lt q =
    ⊎_elim (λ low. h n low q) (λ high. ⊎_elim (λ under. let z = (least_some from base None ts e).none n high under in absurd (omega (arith, z, q))) (λ over. here (covered base n over lt))
    (cases_lt n base)) (cases_lt n from)
  where
    here : covers base n ≡ true → 0 < times n ns
    here cov =
        ⊎_elim (λ p. absurd cc) (λ p. p) (added_is base (λ m. false) ns n cov (ap (λ (f : ℕ → Bool). f n) (sym gs) ∙ all_met_is base g ts s n cov q))

pub met_fails : (ts ns : List ℕ) (base : ℕ) (g : ℕ → Bool) → g ≡ added_all base (λ m. false) ns → all_met base g ts ≡ false → ((n : ℕ) → 0 < times n ts → 0 < times n ns) → ⊥
met_fails ts ns base g gs s h = by (unmet_of base g ts s)
  where
    by : Unmet base g ts → ⊥
    by u = both_ways (g u.which) u.is_not (ap (λ (f : ℕ → Bool). f u.which) gs ∙ added_all_is base (λ m. false) ns u.which u.covered_there (h u.which u.stands))

pub met_ends : (ts ns : List ℕ) (from : ℕ) → least from None ts ≡ None → ((n : ℕ) → n < from → 0 < times n ts → 0 < times n ns) → (n : ℕ) → 0 < times n ts → 0 < times n ns
met_ends ts ns from e h n q = h n ((least_none from None ts e).1 n q) q

least_reaches : (from k : ℕ) (best : Option ℕ) (ns : List ℕ) → least from best ns ≡ Some k → ((m : ℕ) → best ≡ Some m → from ≤ m) → from ≤ k
least_reaches from k best [] e h = h k e
least_reaches from k best (m ∷ ms) e h = least_reaches from k (better from best m) ms e (λ q w. step (nat_le from m) refl q w)
  where
    lower : (o : Option ℕ) → from ≤ m → ((r : ℕ) → o ≡ Some r → from ≤ r) → (q : ℕ) → lesser o m ≡ Some q → from ≤ q
    lower None le above q w = let z : m ≡ q = cc in omega (arith, z, le)
    lower (Some s) le above q w = let z : min s m ≡ q = cc in let y = above s refl in omega (arith, z, le, y)

    step : (b : Bool) → nat_le from m ≡ b → (q : ℕ) → cond b (lesser best m) best ≡ Some q → from ≤ q
    step true v q w = lower best (leb-true from m v) h q w
    step false v q w = h q w

-- the windows go up
pub from_rises : (ns : List ℕ) (from base : ℕ) → least from None ns ≡ Some base → from ≤ base
from_rises ns from base e = least_reaches from base None ns e (λ m q. absurd (none-some m q))

-- the window that was met, as the code names its parts
pub met_there : (base b b' : ℕ) (g h : ℕ → Bool) (ns : List ℕ) → b ≡ base → b' ≡ b → h ≡ (λ m. false) → g ≡ added_all b h ns → (b' ≡ base) × (g ≡ added_all base (λ m. false) ns)
met_there base b b' g h ns e f k w = (f ∙ e, w ∙ ap (λ (f : ℕ → Bool). added_all b f ns) k ∙ ap (λ (n : ℕ). added_all n (λ m. false) ns) e)
