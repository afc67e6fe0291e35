-- Numbers are read exactly as they are written.
use Rattle.std.proofs.Common.{◌≡◌, ◌≤◌, ◌⊎◌, ℕ, zero, suc, ◌+◌, ◌*◌, Bool, true, false, cond, eqb, List, [], ◌∷◌, Some, None, refl, sym, ap, arith, inl, inr, subst}
use Rattle.std.proofs.lemmas.Bool.{eqb-true, eqb-false, eq-eqb, ne_eqb, leb-true, le-leb}
use Rattle.std.proofs.lemmas.Option.{none-some, same_Some}
use Rattle.std.proofs.Math.Dec.{leb}
use Rattle.std.specs.Prelude.{nat_le, nat_lt, ◌||◌}
use Rattle.c_tokens.specs.Letters.{digit_value, is_digit_of}
use Rattle.c_tokens.specs.Numbers.{number_behind, hexadecimal, number_behind_zero, number_of}
use Rattle.c_tokens.specs.Grammar.{Pass, value_behind, Writes, IsNumber, decimal, octal, hexadecimal as hexadecimal_number}

-- the digits write this number behind n
pub record WritesBehind (base limit n : ℕ) (digits : List ℕ) (v : ℕ) : Type 0 where
  pub digits_are : Pass (is_digit_of base) digits
  pub value_is : value_behind base n digits ≡ v
  pub small : v ≤ limit

number_written : (base limit n : ℕ) (ds : List ℕ) (v : ℕ) → n ≤ limit → number_behind base limit n ds ≡ Some v → WritesBehind base limit n ds v
number_written base limit n [] v low e = let same : n ≡ v = same_Some n v e in record { digits_are = tt; value_is = same; small = omega arith }
number_written base limit n (d ∷ ds) v low e = step (nat_lt (digit_value d) base) (nat_le (n * base + digit_value d) limit) refl refl (number_written base limit (n * base + digit_value d) ds v) e
  where
    step : (t u : Bool) → nat_lt (digit_value d) base ≡ t → nat_le (n * base + digit_value d) limit ≡ u
        → (n * base + digit_value d ≤ limit → number_behind base limit (n * base + digit_value d) ds ≡ Some v → WritesBehind base limit (n * base + digit_value d) ds v)
        → cond t (cond u (number_behind base limit (n * base + digit_value d) ds) None) None ≡ Some v → WritesBehind base limit n (d ∷ ds) v
    step true true f g more h = let w = more (leb-true (n * base + digit_value d) limit g) h in record { digits_are = (f, w.digits_are); value_is = w.value_is; small = w.small }
    step true false f g more h = absurd (none-some v h)
    step false u f g more h = absurd (none-some v h)

rises : (base n : ℕ) (ds : List ℕ) → 1 ≤ base → n ≤ value_behind base n ds
rises base n [] one = omega arith
rises base n (d ∷ ds) one =
    let more : n * base + digit_value d ≤ value_behind base (n * base + digit_value d) ds = rises base (n * base + digit_value d) ds one in
    let most : n ≤ n * base = times n base one in omega arith
  where
    times : (n b : ℕ) → 1 ≤ b → n ≤ n * b
    times n zero one = absurd (omega arith)
    times n (suc b) one = grind arith

number_again : (base limit n : ℕ) (ds : List ℕ) (v : ℕ) → 1 ≤ base → WritesBehind base limit n ds v → number_behind base limit n ds ≡ Some v
number_again base limit n [] v one w = ap Some w.value_is
number_again base limit n (d ∷ ds) v one w =
    let more : n * base + digit_value d ≤ value_behind base (n * base + digit_value d) ds = rises base (n * base + digit_value d) ds one in
    let is : value_behind base (n * base + digit_value d) ds ≡ v = w.value_is in
    let small : v ≤ limit = w.small in
    let below : nat_le (n * base + digit_value d) limit ≡ true = le-leb (n * base + digit_value d) limit (omega arith) in
    let digit : nat_lt (digit_value d) base ≡ true = w.digits_are.0 in
    rw (digit, below) (number_again base limit (n * base + digit_value d) ds v one (record { digits_are = w.digits_are.1; value_is = w.value_is; small = w.small }))

pub writes : (base limit : ℕ) (ds : List ℕ) (v : ℕ) → number_behind base limit 0 ds ≡ Some v → Writes base limit ds v
writes base limit ds v e = let w = number_written base limit 0 ds v (omega arith) e in record { digits_are = w.digits_are; value_is = w.value_is; small = w.small }

pub written : (base limit : ℕ) (ds : List ℕ) (v : ℕ) → 1 ≤ base → Writes base limit ds v → number_behind base limit 0 ds ≡ Some v
written base limit ds v one w = number_again base limit 0 ds v one (record { digits_are = w.digits_are; value_is = w.value_is; small = w.small })

hexadecimal_is : (x : ℕ) (ds : List ℕ) (v : ℕ) → (x ≡ 120) ⊎ (x ≡ 88) → hexadecimal ds ≡ Some v → IsNumber (48 ∷ x ∷ ds) v
hexadecimal_is x [] v h e = absurd (none-some v e)
hexadecimal_is x (d ∷ ds) v h e = hexadecimal_number x d ds v h (writes 16 4294967295 (d ∷ ds) v e)

behind_zero_is : (ds : List ℕ) (v : ℕ) → number_behind_zero ds ≡ Some v → IsNumber (48 ∷ ds) v
behind_zero_is [] v e = octal [] v (writes 8 4294967295 [] v e)
behind_zero_is (x ∷ ds) v e = step (eqb x 120) (eqb x 88) refl refl e
  where
    step : (t u : Bool) → eqb x 120 ≡ t → eqb x 88 ≡ u → cond (t || u) (hexadecimal ds) (number_behind 8 4294967295 0 (x ∷ ds)) ≡ Some v → IsNumber (48 ∷ x ∷ ds) v
    step true u f g h = hexadecimal_is x ds v (inl (eqb-true x 120 f)) h
    step false true f g h = hexadecimal_is x ds v (inr (eqb-true x 88 g)) h
    step false false f g h = octal (x ∷ ds) v (writes 8 4294967295 (x ∷ ds) v h)

-- what is read is so written
pub number_is : (word : List ℕ) (v : ℕ) → number_of word ≡ Some v → IsNumber word v
number_is [] v e = absurd (none-some v e)
number_is (d ∷ ds) v e = step (eqb d 48) refl e
  where
    step : (t : Bool) → eqb d 48 ≡ t → cond t (number_behind_zero ds) (number_behind 10 2147483647 0 (d ∷ ds)) ≡ Some v → IsNumber (d ∷ ds) v
    step true f h = subst (λ (x : ℕ). IsNumber (x ∷ ds) v) (sym (eqb-true d 48 f)) (behind_zero_is ds v h)
    step false f h = decimal d ds v (eqb-false d 48 f) (writes 10 2147483647 (d ∷ ds) v h)

-- no x is an octal digit
octal_digit : (x : ℕ) → is_digit_of 8 x ≡ true → (eqb x 120 || eqb x 88) ≡ false
octal_digit x e = step (eqb x 120) (eqb x 88) refl refl
  where
    never : (y : ℕ) → is_digit_of 8 y ≡ false → x ≡ y → ⊥
    never y f g = let h : is_digit_of 8 y ≡ true = subst (λ (z : ℕ). is_digit_of 8 z ≡ true) g e in cc

    step : (t u : Bool) → eqb x 120 ≡ t → eqb x 88 ≡ u → (t || u) ≡ false
    step true u f g = absurd (never 120 refl (eqb-true x 120 f))
    step false true f g = absurd (never 88 refl (eqb-true x 88 g))
    step false false f g = refl

-- what is so written is read
pub number_reads : (word : List ℕ) (v : ℕ) → IsNumber word v → number_of word ≡ Some v
number_reads _ _ (decimal d ds v zero_not w) = rw (ne_eqb d 48 zero_not) (written 10 2147483647 (d ∷ ds) v (omega arith) w)
number_reads _ _ (octal ds v w) = behind ds w
  where
    behind : (ds : List ℕ) → Writes 8 4294967295 ds v → number_behind_zero ds ≡ Some v
    behind [] w = ap Some w.value_is
    behind (x ∷ ds) w = rw (octal_digit x w.digits_are.0) (written 8 4294967295 (x ∷ ds) v (omega arith) w)
number_reads _ _ (hexadecimal_number x d ds v h w) = rw (letter h) (written 16 4294967295 (d ∷ ds) v (omega arith) w)
  where
    letter : (x ≡ 120) ⊎ (x ≡ 88) → (eqb x 120 || eqb x 88) ≡ true
    letter (inl e) = rw (eq-eqb x 120 e) refl
    letter (inr e) = rw e refl
