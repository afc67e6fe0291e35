-- The digits that a number is written with.
use Rattle.std.proofs.Common.{◌≡◌, ◌<◌, ◌≤◌, ℕ, zero, suc, ◌+◌, ◌*◌, ◌/◌, ◌%◌, ◌^◌, true, List, [], ◌∷◌, ◌++◌, length, get_or, refl, sym, subst, arith, decimal}
use Rattle.std.proofs.lemmas.Fmt.{decimal_digit, decimal_by_steps, first_decimal, decimal_nonempty}
use Rattle.c_tokens.specs.Letters.{in_word, digit_value, is_digit_of}
use Rattle.c_tokens.specs.Grammar as grammar
use Rattle.c_tokens.specs.Grammar.{Pass, value_behind, Writes, IsNumber}

-- what holds of each of the ten bytes holds of a digit
pub digit_cases : (P : ℕ → Type 0) → P 48 → P 49 → P 50 → P 51 → P 52 → P 53 → P 54 → P 55 → P 56 → P 57 → (n : ℕ) → n < 10 → P (48 + n)
digit_cases P p0 p1 p2 p3 p4 p5 p6 p7 p8 p9 zero low = p0
digit_cases P p0 p1 p2 p3 p4 p5 p6 p7 p8 p9 (suc zero) low = p1
digit_cases P p0 p1 p2 p3 p4 p5 p6 p7 p8 p9 (suc (suc zero)) low = p2
digit_cases P p0 p1 p2 p3 p4 p5 p6 p7 p8 p9 (suc (suc (suc zero))) low = p3
digit_cases P p0 p1 p2 p3 p4 p5 p6 p7 p8 p9 (suc (suc (suc (suc zero)))) low = p4
digit_cases P p0 p1 p2 p3 p4 p5 p6 p7 p8 p9 (suc (suc (suc (suc (suc zero))))) low = p5
digit_cases P p0 p1 p2 p3 p4 p5 p6 p7 p8 p9 (suc (suc (suc (suc (suc (suc zero)))))) low = p6
digit_cases P p0 p1 p2 p3 p4 p5 p6 p7 p8 p9 (suc (suc (suc (suc (suc (suc (suc zero))))))) low = p7
digit_cases P p0 p1 p2 p3 p4 p5 p6 p7 p8 p9 (suc (suc (suc (suc (suc (suc (suc (suc zero)))))))) low = p8
digit_cases P p0 p1 p2 p3 p4 p5 p6 p7 p8 p9 (suc (suc (suc (suc (suc (suc (suc (suc (suc zero))))))))) low = p9
digit_cases P p0 p1 p2 p3 p4 p5 p6 p7 p8 p9 (suc (suc (suc (suc (suc (suc (suc (suc (suc (suc n)))))))))) low = absurd (omega arith)

pub record IsDigit (d : ℕ) : Type 0 where
  pub n : ℕ
  pub low : n < 10
  pub is : d ≡ 48 + n

pub on_digit : (P : ℕ → Type 0) → P 48 → P 49 → P 50 → P 51 → P 52 → P 53 → P 54 → P 55 → P 56 → P 57 → (d : ℕ) → IsDigit d → P d
on_digit P p0 p1 p2 p3 p4 p5 p6 p7 p8 p9 d h = subst P (sym h.is) (digit_cases P p0 p1 p2 p3 p4 p5 p6 p7 p8 p9 h.n h.low)

abbrev pub AreDigits : List ℕ → Type 0
AreDigits [] = Unit {0}
AreDigits (d ∷ ds) = IsDigit d × AreDigits ds

are_digits : (ds : List ℕ) (d : ℕ) → AreDigits ds → IsDigit d → AreDigits (ds ++ d ∷ [])
are_digits [] d h one = (one, tt)
are_digits (e ∷ ds) d h one = (h.0, are_digits ds d h.1 one)

value_more : (n d : ℕ) (ds : List ℕ) → value_behind 10 n (ds ++ d ∷ []) ≡ value_behind 10 n ds * 10 + digit_value d
value_more n d [] = refl
value_more n d (e ∷ ds) = value_more (n * 10 + digit_value e) d ds

-- the digits, and the number that they write
pub record Digits (n : ℕ) (ds : List ℕ) : Type 0 where
  pub are : AreDigits ds
  pub value_is : value_behind 10 0 ds ≡ n

digit_value_is : (n : ℕ) → n < 10 → digit_value (48 + n) ≡ n
digit_value_is n low = on (digit_cases (λ (d : ℕ). digit_value d + 48 ≡ d) refl refl refl refl refl refl refl refl refl refl n low)
  where
    on : digit_value (48 + n) + 48 ≡ 48 + n → digit_value (48 + n) ≡ n
    on e = omega arith

one_digit : (n : ℕ) → n < 10 → Digits n ((48 + n) ∷ [])
one_digit n low = record { are = (record { n = n; low = low; is = refl }, tt); value_is = let e : digit_value (48 + n) ≡ n = digit_value_is n low in omega arith }

more_digits : (n : ℕ) (ds : List ℕ) → 10 ≤ n → Digits (n / 10) ds → Digits n (ds ++ ((48 + n % 10) ∷ []))
more_digits n ds most h =
    let low : n % 10 < 10 = omega arith in
    let e : digit_value (48 + n % 10) ≡ n % 10 = digit_value_is (n % 10) low in
    let f : value_behind 10 0 (ds ++ (48 + n % 10) ∷ []) ≡ value_behind 10 0 ds * 10 + digit_value (48 + n % 10) = value_more 0 (48 + n % 10) ds in
    let g : value_behind 10 0 ds ≡ n / 10 = h.value_is in
    record { are = are_digits ds (48 + n % 10) h.are (record { n = n % 10; low = low; is = refl }); value_is = omega arith }

pub decimal_digits : (n : ℕ) → n < 2 ^ 64 → Digits n (decimal n)
decimal_digits = decimal_by_steps Digits one_digit more_digits

pub pass_word : (ds : List ℕ) → AreDigits ds → Pass in_word ds
pass_word [] h = tt
pass_word (d ∷ ds) h = (on_digit (λ (d : ℕ). in_word d ≡ true) refl refl refl refl refl refl refl refl refl refl d h.0, pass_word ds h.1)

pub pass_digits : (ds : List ℕ) → AreDigits ds → Pass (is_digit_of 10) ds
pass_digits [] h = tt
pass_digits (d ∷ ds) h = (on_digit (λ (d : ℕ). is_digit_of 10 d ≡ true) refl refl refl refl refl refl refl refl refl refl d h.0, pass_digits ds h.1)

-- a number's first digit, and those behind it
pub record First (n : ℕ) : Type 0 where
  pub digit : ℕ
  pub others : List ℕ
  pub is : decimal n ≡ digit ∷ others
  pub digits : Digits n (digit ∷ others)

pub first_of : (n : ℕ) → n < 2 ^ 64 → First n
first_of n low = by (decimal n) refl (decimal_digits n low) (decimal_nonempty n low)
  where
    by : (ds : List ℕ) → decimal n ≡ ds → Digits n ds → 0 < length ds → First n
    by [] e h some = absurd (omega arith)
    by (d ∷ ds) e h some = record { digit = d; others = ds; is = e; digits = h }

writes_decimal : (n : ℕ) (ds : List ℕ) → n ≤ 2147483647 → Digits n ds → Writes 10 2147483647 ds n
writes_decimal n ds low h = record { digits_are = pass_digits ds h.are; value_is = h.value_is; small = low }

-- a number of decimal digits is written so
pub decimal_is_number : (n : ℕ) → n ≤ 2147483647 → IsNumber (decimal n) n
decimal_is_number zero low =
    subst (λ (ds : List ℕ). IsNumber ds 0) (sym (decimal_digit 0 (omega arith)))
    (grammar.octal [] 0 (record { digits_are = tt; value_is = refl; small = omega arith }))
decimal_is_number (suc n) low =
    let f = first_of (suc n) (omega arith) in
    let more : 48 < f.digit = subst (λ (ds : List ℕ). 48 < get_or ds 0 0) f.is (first_decimal (suc n) (omega arith) (omega arith)) in
    subst (λ (ds : List ℕ). IsNumber ds (suc n)) (sym f.is)
    (grammar.decimal f.digit f.others (suc n) (λ e. omega arith) (writes_decimal (suc n) (f.digit ∷ f.others) low f.digits))
