-- What a choice comes to: numbers of locals that differ, and those that it lists where they do already.
use Rattle.std.proofs.Common.{◌≡◌, ℕ, ◌+◌, ◌≤◌, Bool, true, false, cond, List, [], ◌∷◌, ◌++◌, refl, sym, ap, subst, ◌∙◌, arith, append_assoc, append-nil}
use Rattle.std.specs.Prelude.{◌==◌, ◌&&◌, ◌||◌, nat_lt, not}
use Rattle.std.specs.List.{list_any, AllByRecursion}
use Rattle.std.proofs.lemmas.Bool.{eqb-true, eq-eqb}
use Rattle.std.proofs.lemmas.List.Elements.{All-nil, All-push, recursion_from_All}
use Rattle.gg_base.proofs.Facts.{first_false, second_false}
use Rattle.tree_core.specs.Items.{times}
use Rattle.tree_core.specs.Locals.{NumbersDiffer, LocalsStand}
use Rattle.tree_core.proofs.Apart.{times-append}
use Rattle.tree_homes.specs.Rehoming.{with_local, standing}

-- ---- whether a number stands among others

abbrev counted : Bool → ℕ
counted b = cond b 1 0

none_there : (n : ℕ) (ns : List ℕ) → list_any (λ k. k == n) ns ≡ false → times n ns ≡ 0
none_there n [] e = refl
none_there n (m ∷ ms) e =
    let here : counted (m == n) ≡ 0 = ap counted (first_false (m == n) (list_any (λ k. k == n) ms) e) in
    let rest = none_there n ms (second_false (m == n) (list_any (λ k. k == n) ms) e) in
    omega (arith, here, rest)

is_none : (b rest : Bool) (k : ℕ) → counted b + k ≡ 0 → (k ≡ 0 → rest ≡ false) → (b || rest) ≡ false
is_none true rest k e h = absurd (omega (arith, e))
is_none false rest k e h = h (omega (arith, e))

is_none_there : (n : ℕ) (ns : List ℕ) → times n ns ≡ 0 → list_any (λ k. k == n) ns ≡ false
is_none_there n [] e = refl
is_none_there n (m ∷ ms) e = is_none (m == n) (list_any (λ k. k == n) ms) (times n ms) e (is_none_there n ms)

-- ---- one number more

pub new_is_kept : (locals n : ℕ) (kept : List ℕ) → nat_lt n locals ≡ true → list_any (λ k. k == n) kept ≡ false → kept ++ n ∷ [] ≡ with_local locals kept n
new_is_kept locals n kept low new = sym (let e : with_local locals kept n ≡ kept ++ n ∷ [] = λ j. cond (low j && not (new j)) (kept ++ n ∷ []) kept in e)

pub none_is_kept : (locals n : ℕ) (kept : List ℕ) → nat_lt n locals ≡ false → kept ≡ with_local locals kept n
none_is_kept locals n kept high = sym (let e : with_local locals kept n ≡ kept = λ j. cond (high j && not (list_any (λ k. k == n) kept)) (kept ++ n ∷ []) kept in e)

pub old_is_kept : (locals n : ℕ) (kept : List ℕ) → list_any (λ k. k == n) kept ≡ true → kept ≡ with_local locals kept n
old_is_kept locals n kept old = by (nat_lt n locals)
  where
    by : (b : Bool) → kept ≡ cond (b && not (list_any (λ k. k == n) kept)) (kept ++ n ∷ []) kept
    by true = sym (let e : cond (not (list_any (λ k. k == n) kept)) (kept ++ n ∷ []) kept ≡ kept = λ i. cond (not (old i)) (kept ++ n ∷ []) kept in e)
    by false = refl

once_more : (kept : List ℕ) (n m : ℕ) → times n kept ≡ 0 → times m kept ≤ 1 → times m (kept ++ n ∷ []) ≤ 1
once_more kept n m none one = subst (λ (k : ℕ). k ≤ 1) (sym (times-append m kept (n ∷ []))) (by (n == m) refl)
  where
    by : (b : Bool) → (n == m) ≡ b → times m kept + (cond b 1 0 + 0) ≤ 1
    by true e = let same : times m kept ≡ 0 = subst (λ (k : ℕ). times k kept ≡ 0) (eqb-true n m e) none in omega (arith, same)
    by false e = omega (arith, one)

stands_with : (locals : ℕ) (kept : List ℕ) (n : ℕ) → LocalsStand locals kept → LocalsStand locals (with_local locals kept n)
stands_with locals kept n h = by (nat_lt n locals) (list_any (λ k. k == n) kept) refl refl
  where
    by : (a b : Bool) → nat_lt n locals ≡ a → list_any (λ k. k == n) kept ≡ b → LocalsStand locals (cond (a && not b) (kept ++ n ∷ []) kept)
    by true false e f = (All-push (λ (k : ℕ). nat_lt k locals ≡ true) kept n h.0 e, λ m. once_more kept n m (none_there n kept f) (h.1 m))
    by true true e f = h
    by false b e f = h

stand_behind : (locals : ℕ) (kept ns : List ℕ) → LocalsStand locals kept → LocalsStand locals (standing locals kept ns)
stand_behind locals kept [] h = h
stand_behind locals kept (n ∷ ns) h = stand_behind locals (with_local locals kept n) ns (stands_with locals kept n h)

-- whatever is listed
pub standing_stands : (locals : ℕ) (ns : List ℕ) → LocalsStand locals (standing locals [] ns)
standing_stands locals ns = stand_behind locals [] ns (All-nil (λ (k : ℕ). nat_lt k locals ≡ true), λ m. omega arith)

-- ---- where the listed numbers stand already

middle : {X : Type 0} (P : X → Type 0) (xs : List X) (y : X) (ys : List X) → AllByRecursion P (xs ++ y ∷ ys) → P y
middle P [] y ys h = h.0
middle P (x ∷ xs) y ys h = middle P xs y ys h.1

is_first : (kept : List ℕ) (n : ℕ) (ns : List ℕ) → NumbersDiffer (kept ++ n ∷ ns) → times n kept ≡ 0
is_first kept n ns h =
    let parts = times-append n kept (n ∷ ns) in
    let here : counted (n == n) ≡ 1 = ap counted (eq-eqb n n refl) in
    let one = h n in
    omega (arith, parts, here, one)

with_next : (locals : ℕ) (kept : List ℕ) (n : ℕ) (ns : List ℕ) → LocalsStand locals (kept ++ n ∷ ns) → with_local locals kept n ≡ kept ++ n ∷ []
with_next locals kept n ns h =
    let low : nat_lt n locals ≡ true = middle (λ (k : ℕ). nat_lt k locals ≡ true) kept n ns (recursion_from_All (λ (k : ℕ). nat_lt k locals ≡ true) (kept ++ n ∷ ns) h.0) in
    let new : list_any (λ k. k == n) kept ≡ false = is_none_there n kept (is_first kept n ns h.1) in
    sym (new_is_kept locals n kept low new)

stay_behind : (locals : ℕ) (kept ns : List ℕ) → LocalsStand locals (kept ++ ns) → standing locals kept ns ≡ kept ++ ns
stay_behind locals kept [] h = sym (append-nil kept)
stay_behind locals kept (n ∷ ns) h =
    ap (λ (k : List ℕ). standing locals k ns) (with_next locals kept n ns h)
    ∙ stay_behind locals (kept ++ n ∷ []) ns (subst (LocalsStand locals) (sym (append_assoc kept (n ∷ []) ns)) h)
    ∙ append_assoc kept (n ∷ []) ns

pub standing_stays : (locals : ℕ) (ns : List ℕ) → LocalsStand locals ns → standing locals [] ns ≡ ns
standing_stays locals ns h = stay_behind locals [] ns h
