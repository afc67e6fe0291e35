-- What the operators of terms make of the values of their parts.
use Rattle.std.proofs.Common.{◌≡◌, ◌⊎◌, inl, inr, ℕ, ◌-◌, ◌*◌, ◌/◌, ◌%◌, ◌^◌, ◌<◌, ◌==◌, List, [], ◌∷◌, ◌++◌, Some, None, Bool, true, false, cond, refl, sym, ap, ◌∙◌, subst, arith}
use Rattle.std.specs.Prelude.{nat_lt, ◌&&◌, ◌||◌, not}
use Rattle.std.proofs.lemmas.Bool.Decides.{nat_tests}
use Rattle.std.proofs.lemmas.List.Folds.{list_any-append}
use Rattle.gg_base.specs.Arithmetic.{and32, neg32, com32, zext8, div32, same_sign, magnitude, is_negative, ash32, shifted_left, shifted_right}
use Rattle.gg_base.proofs.Facts.{or_true, and_false}
use Rattle.gg_base.proofs.Words.{low_count}
use Rattle.term_core.specs.declared.operator.BinaryOp.{BinaryOp}
use Rattle.term_core.specs.Shape.{Shape, Constant, Symbol, LastResult, Memory as Fetch, Unary, Binary}
use Rattle.term_core.specs.Value.{State, value}
use Rattle.sel_terms_meaning.specs.term_core_accesses.specs.Accesses.{divides_well, is_division, Safe}
use Rattle.sel_terms_meaning.specs.Meaning.{AllSafe, divides_by_zero}

count_small : (y : ℕ) → y % 32 < 32
count_small y = omega arith

ash_left : (k x : ℕ) → k < 32 → ash32 k x ≡ shifted_left k x
ash_left k x h =
    let low : zext8 k ≡ k = omega arith in
    let left : (cond (nat_lt k (2 ^ 7)) (shifted_left k x) (shifted_right (2 ^ 8 - k) x)) ≡ shifted_left k x = grind (arith, nat_tests) in
    ap (λ n. cond (nat_lt n (2 ^ 7)) (shifted_left n x) (shifted_right (2 ^ 8 - n) x)) low ∙ left

pub left_shift : (x y : ℕ) → ash32 (and32 y 31) x ≡ shifted_left (y % 32) x
left_shift x y = ap (λ n. ash32 n x) (low_count y) ∙ ash_left (y % 32) x (count_small y)

shift_by_none : (x : ℕ) → x < 2 ^ 32 → shifted_left 0 x ≡ shifted_right 0 x
shift_by_none x h = by (is_negative x)
  where
    plain : (x * 2 ^ 0) % 2 ^ 32 ≡ x
    plain = omega arith

    by : (b : Bool) → (x * 2 ^ 0) % 2 ^ 32 ≡ cond b (com32 (com32 x / 2 ^ 0)) (x / 2 ^ 0)
    by true = omega arith
    by false = omega arith

ash_right : (k x : ℕ) → k < 32 → x < 2 ^ 32 → ash32 (neg32 k) x ≡ shifted_right k x
ash_right k x h g = by k h
  where
    some : (k : ℕ) → 0 < k → k < 32 → ash32 (neg32 k) x ≡ shifted_right k x
    some k p q =
        let low : zext8 (neg32 k) ≡ 2 ^ 8 - k = omega arith in
        let back : 2 ^ 8 - (2 ^ 8 - k) ≡ k = omega arith in
        let right : (cond (nat_lt (2 ^ 8 - k) (2 ^ 7)) (shifted_left (2 ^ 8 - k) x) (shifted_right (2 ^ 8 - (2 ^ 8 - k)) x)) ≡ shifted_right (2 ^ 8 - (2 ^ 8 - k)) x = grind (arith, nat_tests) in
        ap (λ n. cond (nat_lt n (2 ^ 7)) (shifted_left n x) (shifted_right (2 ^ 8 - n) x)) low ∙ right ∙ ap (λ n. shifted_right n x) back

    by : (k : ℕ) → k < 32 → ash32 (neg32 k) x ≡ shifted_right k x
    by k q = elim (zero_or k) [ inl e ↦ subst (λ n. ash32 (neg32 n) x ≡ shifted_right n x) (sym e) (shift_by_none x g) | inr p ↦ some k p q ]
      where
        zero_or : (k : ℕ) → (k ≡ 0) ⊎ (0 < k)
        zero_or k = grind arith

pub right_shift : (x y : ℕ) → x < 2 ^ 32 → ash32 (neg32 (and32 y 31)) x ≡ shifted_right (y % 32) x
right_shift x y h = ap (λ n. ash32 (neg32 n) x) (low_count y) ∙ ash_right (y % 32) x (count_small y) h

-- a quotient is none exactly where the divisor is zero
pub div_none : (x y : ℕ) → div32 x y ≡ None → (y == 0) ≡ true
div_none x y = by (y == 0) (same_sign x y)
  where
    by : (b c : Bool) → cond b None (cond c (Some (magnitude x / magnitude y)) (Some (neg32 (magnitude x / magnitude y)))) ≡ None → b ≡ true
    by true c e = refl
    by false true e = cc
    by false false e = cc

pub div_some : (x y q : ℕ) → div32 x y ≡ Some q → (y == 0) ≡ false
div_some x y q = by (y == 0) (same_sign x y)
  where
    by : (b c : Bool) → cond b None (cond c (Some (magnitude x / magnitude y)) (Some (neg32 (magnitude x / magnitude y)))) ≡ Some q → b ≡ false
    by true c e = cc
    by false c e = refl

module _ (m : State) where
  pub ill_left : (op : BinaryOp) (a b : Shape) → divides_well m a ≡ false → divides_well m (Binary op a b) ≡ false
  ill_left op a b e = ap (λ (c : Bool). c && (divides_well m b && not (is_division op && (value m b == 0)))) e

  pub ill_right : (op : BinaryOp) (a b : Shape) → divides_well m b ≡ false → divides_well m (Binary op a b) ≡ false
  ill_right op a b e = ap (λ (c : Bool). divides_well m a && (c && not (is_division op && (value m b == 0)))) e ∙ and_false (divides_well m a)

  pub none_joined : (ds es : List Shape) → divides_by_zero m ds ≡ false → divides_by_zero m es ≡ false → divides_by_zero m (ds ++ es) ≡ false
  none_joined ds es e f = list_any-append (λ d. value m d == 0) ds es ∙ ap (λ (b : Bool). b || divides_by_zero m es) e ∙ f

  pub some_first : (ds es : List Shape) → divides_by_zero m ds ≡ true → divides_by_zero m (ds ++ es) ≡ true
  some_first ds es e = list_any-append (λ d. value m d == 0) ds es ∙ ap (λ (b : Bool). b || divides_by_zero m es) e

  pub some_second : (ds es : List Shape) → divides_by_zero m es ≡ true → divides_by_zero m (ds ++ es) ≡ true
  some_second ds es e = list_any-append (λ d. value m d == 0) ds es ∙ ap (λ (b : Bool). divides_by_zero m ds || b) e ∙ or_true (divides_by_zero m ds)

  module _ (every : Bool) (known : ℕ → Type 0) (area : List ℕ) where
    pub safe_joined : (ds es : List Shape) → AllSafe every known area m ds → AllSafe every known area m es → AllSafe every known area m (ds ++ es)
    safe_joined [] es p q = q
    safe_joined (d ∷ ds) es p q = (p.0, safe_joined ds es p.1 q)

  -- every access, and so each that is made
  module _ (known : ℕ → Type 0) (area : List ℕ) where
    pub weak : (t : Shape) → Safe true known area m t → Safe false known area m t
    weak (Constant n) h = tt
    weak (Symbol i) h = h
    weak LastResult h = tt
    weak (Fetch size a) h = (weak a h.0, λ d. h.1 refl)
    weak (Unary op t) h = weak t h
    weak (Binary op a b) h = (weak a h.0, weak b h.1)

    pub all_weak : (ts : List Shape) → AllSafe true known area m ts → AllSafe false known area m ts
    all_weak [] h = tt
    all_weak (t ∷ ts) h = (weak t h.0, all_weak ts h.1)
