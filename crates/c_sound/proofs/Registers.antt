-- Numbers of locals that differ: where there are more locals, and with the next local's behind them.
use Rattle.std.proofs.Common.{◌≡◌, ℕ, ◌+◌, ◌≤◌, List, [], ◌∷◌, ◌++◌, Bool, true, false, cond, eqb, refl, sym, ap, subst, arith}
use Rattle.std.specs.Prelude.{nat_lt}
use Rattle.std.specs.List.{AllPass}
use Rattle.std.proofs.lemmas.Bool.{eqb-true, ne_eqb, ltb-true, lt-ltb}
use Rattle.std.proofs.lemmas.List.Elements.{All-nil, All-head, All-tail, All-weaker, All-push}
use Rattle.tree_core.specs.Items.{times}
use Rattle.tree_core.specs.Locals.{LocalsStand}

pub no_locals : (n : ℕ) → LocalsStand n []
no_locals n = (All-nil (λ k. nat_lt k n ≡ true), λ k. omega arith)

pub locals_same : (n m : ℕ) (ks ls : List ℕ) → n ≡ m → ks ≡ ls → LocalsStand m ls → LocalsStand n ks
locals_same n m ks ls e f h = subst (λ k. LocalsStand k ks) (sym e) (subst (λ l. LocalsStand m l) (sym f) h)

pub locals_more : (n m : ℕ) (ks : List ℕ) → n ≤ m → LocalsStand n ks → LocalsStand m ks
locals_more n m ks le h =
    (All-weaker (λ k. nat_lt k n ≡ true) (λ k. nat_lt k m ≡ true) (λ k e. let lt = ltb-true k n e in lt-ltb k m (omega arith)) ks h.0, h.1)

-- how often a number stands in a list with one more behind it
times_push : (x n : ℕ) (ks : List ℕ) → times x (ks ++ n ∷ []) ≡ times x ks + cond {A = ℕ} (eqb n x) 1 0
times_push x n [] = omega arith
times_push x n (k ∷ ks) = let rest = times_push x n ks in omega (arith, rest)

-- a number that all others are below stands nowhere
times_below : (n : ℕ) (ks : List ℕ) → AllPass (λ k. nat_lt k n) ks → times n ks ≡ 0
times_below n [] h = refl
times_below n (k ∷ ks) h =
    let lt = ltb-true k n (All-head (λ m. nat_lt m n ≡ true) k ks h) in
    let other : cond {A = ℕ} (eqb k n) 1 0 ≡ 0 = ap (λ (b : Bool). cond {A = ℕ} b 1 0) (ne_eqb k n (λ e. omega arith)) in
    let rest = times_below n ks (All-tail (λ m. nat_lt m n ≡ true) k ks h) in
    omega (arith, other, rest)

-- the next local's number behind those that differ
pub locals_push : (n : ℕ) (ks : List ℕ) → LocalsStand n ks → LocalsStand (n + 1) (ks ++ n ∷ [])
locals_push n ks h = (
  All-push (λ k. nat_lt k (n + 1) ≡ true) ks n (locals_more n (n + 1) ks (omega arith) h).0 (lt-ltb n (n + 1) (omega arith)),
  λ x. once x (eqb n x) refl,
)
  where
    once : (x : ℕ) (b : Bool) → eqb n x ≡ b → times x (ks ++ n ∷ []) ≤ 1
    once x true e =
        let none : times x ks ≡ 0 = subst (λ k. times k ks ≡ 0) (eqb-true n x e) (times_below n ks h.0) in
        let one : cond {A = ℕ} (eqb n x) 1 0 ≡ 1 = ap (λ (b : Bool). cond {A = ℕ} b 1 0) e in
        omega (arith, times_push x n ks, none, one)
    once x false e =
        let no : cond {A = ℕ} (eqb n x) 1 0 ≡ 0 = ap (λ (b : Bool). cond {A = ℕ} b 1 0) e in
        omega (arith, times_push x n ks, h.1 x, no)
