-- A word or a number at the front is its one spelling, and each spelling is found.
use Rattle.std.proofs.Common.{◌≡◌, inl, inr, ℕ, zero, suc, ◌+◌, ◌-◌, ◌^◌, ◌<◌, ◌≤◌, Bool, true, false, cond, eqb, leb, ltb, List, [], ◌∷◌, ◌++◌, length, take, drop, get_or, Some}
use Rattle.std.proofs.Common.{None, refl, sym, ap, subst, ◌∙◌, arith}
use Rattle.std.specs.Prelude.{codes, Option, MatchOption, ◌==◌, ◌&&◌, if◌then◌else◌, nat_eq}
use Rattle.std.specs.Borrow.{Bor}
use Rattle.std.specs.Cmp.Lexicographic.{pointwise}
use Rattle.std.specs.Option.{option_copied}
use Rattle.std.specs.Char.{is_ascii_digit}
use Rattle.std.specs.Str.{all_ascii_digits}
use Rattle.std.specs.Str.Parse.{digits_value, AllDigits}
use Rattle.std.specs.Fmt.{decimal}
use Rattle.std.proofs.lemmas.Bool.{eqb-true, eqb-false, ne_eqb, leb-true, ltb-false, le-leb, lt-ltb, le-ltb, and_parts, cases_lt}
use Rattle.std.proofs.lemmas.List.{take_at, drop_at, take-append-drop}
use Rattle.std.proofs.lemmas.Option.{none-some, same_Some, some_pair_parts, option_and_then_some, cond_some}
use Rattle.std.proofs.lemmas.Str.Parse.{IsNumeralModel, numerals_by_value, tells_all_ascii_digits}
use Rattle.std.proofs.lemmas.Fmt.{digits_decimal, digits_value-decimal, decimal-digits_value, decimal_digit, first_decimal, decimal_nonempty}
use Rattle.gg_base.proofs.Facts.{guarded, unguarded}
use Rattle.gg_base.specs.Fronts.{run_len}
use Rattle.gg_base.specs.Numbers.{signed_text}
use Rattle.vax_core.specs.Text.{offset_text}
use Rattle.vax_reader.specs.Fronts.{strip, is_padded, number_of, number_front, at_most, at_least, up_to, from_one, below_zero, minus_front, signed_front, offset_front}
use Rattle.vax_reader.proofs.Choices.{map_or_some, map_some}

-- words

pub strip_takes : (p b r : List ℕ) → strip p b ≡ Some r → b ≡ p ++ r
strip_takes [] b r e = same_Some b r e
strip_takes (c ∷ cs) [] r e = absurd (none-some r e)
strip_takes (c ∷ cs) (x ∷ xs) r e =
    let h = guarded (eqb x c) (strip cs xs) r e in
    rw (eqb-true x c h.0) (ap (λ (t : List ℕ). c ∷ t) (strip_takes cs xs r h.1))

-- as `strip_prefix` tells it
strip_parts : (p b : List ℕ) → strip p b ≡ (if pointwise nat_eq (take (length p) b) p then Some (drop (length p) b) else None)
strip_parts [] b = refl
strip_parts (c ∷ cs) [] = refl
strip_parts (c ∷ cs) (b ∷ bs) = by (b == c) (strip_parts cs bs)
  where
    same : Bool
    same = pointwise nat_eq (take (length cs) bs) cs

    by : (t : Bool) → strip cs bs ≡ (if same then Some (drop (length cs) bs) else None)
        → (if t then strip cs bs else None) ≡ (if t && same then Some (drop (length cs) bs) else None)
    by true h = h
    by false h = refl

pub strip_told : (p b : List ℕ) (r : Option (Bor (List ℕ))) → MatchOption r (pointwise nat_eq (take (length p) b) p ≡ false)
    (λ x. (pointwise nat_eq (take (length p) b) p ≡ true) × (x.now ≡ drop (length p) b) × (length x.now + length p ≡ length b)) → strip p b ≡ option_copied r
strip_told p b None h = strip_parts p b ∙ ap (λ t. if t then Some (drop (length p) b) else None) h
strip_told p b (Some x) h = strip_parts p b ∙ (ap (λ t. if t then Some (drop (length p) b) else None) h.0 ∙ ap Some (sym h.1))

-- digits

own : IsNumeralModel (λ ds. all_ascii_digits ds ≡ true) (digits_value 10)
own = numerals_by_value _ tells_all_ascii_digits

front_at : (b : Bool) (c : ℕ) (cs : List ℕ) → is_ascii_digit c ≡ b → all_ascii_digits (take (run_len is_ascii_digit cs) cs) ≡ true
    → all_ascii_digits (take (cond b (suc (run_len is_ascii_digit cs)) 0) (c ∷ cs)) ≡ true
front_at true c cs e h = rw (e, h) refl
front_at false c cs e h = refl

digits_of_front : (bytes : List ℕ) → all_ascii_digits (take (run_len is_ascii_digit bytes) bytes) ≡ true
digits_of_front [] = refl
digits_of_front (c ∷ cs) = front_at (is_ascii_digit c) c cs refl (digits_of_front cs)

pub front_digits : (bytes : List ℕ) → AllDigits 10 (take (run_len is_ascii_digit bytes) bytes)
front_digits bytes = own.to (take (run_len is_ascii_digit bytes) bytes) (digits_of_front bytes)

-- no digit stands there
abbrev pub EndsNumber : List ℕ → Type 0
EndsNumber rest = run_len is_ascii_digit rest ≡ 0

digit_len-append : (ds rest : List ℕ) → all_ascii_digits ds ≡ true → EndsNumber rest → run_len is_ascii_digit (ds ++ rest) ≡ length ds
digit_len-append [] rest h e = e
digit_len-append (c ∷ cs) rest h e =
    let p = and_parts (is_ascii_digit c) (all_ascii_digits cs) h in
    rw p.0 (ap suc (digit_len-append cs rest p.1 e))

plain_front : (d : ℕ) (ds : List ℕ) → is_padded (d ∷ ds) ≡ false → d ≡ 48 → suc (length ds) ≡ 1
plain_front d [] h e = refl
plain_front d (x ∷ xs) h e = absurd (eqb-false d 48 h e)

not_padded : (d : ℕ) (ds : List ℕ) → (1 < suc (length ds) → d ≡ 48 → ⊥) → is_padded (d ∷ ds) ≡ false
not_padded d [] h = refl
not_padded d (x ∷ xs) h = ne_eqb d 48 (h (omega arith))

number_of_takes : (ds rest : List ℕ) (n : ℕ) (after : List ℕ) → all_ascii_digits ds ≡ true → number_of ds rest ≡ Some (n, after) → (n ≤ 2 ^ 31) × (decimal n ≡ ds) × (rest ≡ after)
number_of_takes [] rest n after all e = absurd (none-some (n, after) e)
number_of_takes (d ∷ ds) rest n after all e =
    let v = digits_value 10 (d ∷ ds) in
    let a = unguarded (is_padded (d ∷ ds)) (cond (ltb (2 ^ 31) v) None (Some (v, rest))) (n, after) e in
    let b = unguarded (ltb (2 ^ 31) v) (Some (v, rest)) (n, after) a.1 in
    let p = some_pair_parts v n rest after b.1 in
    let small : v ≤ 2 ^ 31 = ltb-false (2 ^ 31) v b.0 in
    let spelled : decimal v ≡ d ∷ ds = decimal-digits_value own (d ∷ ds) all (omega arith) (plain_front d ds a.0) (omega arith) in
    (rw (← p.0) small, ap decimal (sym p.0) ∙ spelled, p.1)

number_of_again : (ds rest : List ℕ) (n : ℕ) → 0 < length ds → (1 < length ds → get_or ds 0 0 ≡ 48 → ⊥) → digits_value 10 ds ≡ n → n ≤ 2 ^ 31 → number_of ds rest ≡ Some (n, rest)
number_of_again [] rest n some plain value le = absurd (omega arith)
number_of_again (d ∷ ds) rest n some plain value le =
    let a : is_padded (d ∷ ds) ≡ false = not_padded d ds plain in
    let b : ltb (2 ^ 31) n ≡ false = le-ltb (2 ^ 31) n le in
    rw (a, value, b) refl

-- numbers

abbrev pub NumberAt : ℕ → List ℕ → ℕ × List ℕ → Type 0
NumberAt limit bytes x = (x.0 ≤ limit) × (bytes ≡ decimal x.0 ++ x.1)

pub number_takes : (bytes : List ℕ) (x : ℕ × List ℕ) → number_front bytes ≡ Some x → NumberAt (2 ^ 31) bytes x
unfolding number_front
number_takes bytes x e =
    let k = run_len is_ascii_digit bytes in
    let t = number_of_takes (take k bytes) (drop k bytes) x.0 x.1 (digits_of_front bytes) e in
    (t.0, sym (take-append-drop k bytes) ∙ ap (λ (y : List ℕ). y ++ drop k bytes) (sym t.1) ∙ ap (λ (y : List ℕ). decimal x.0 ++ y) t.2)

decimal_plain : (n : ℕ) → n ≤ 2 ^ 31 → 1 < length (decimal n) → get_or (decimal n) 0 0 ≡ 48 → ⊥
decimal_plain zero lt long e =
    let one : length (decimal 0) ≡ 1 = ap length (decimal_digit 0 (omega arith)) in
    omega arith
decimal_plain (suc n) lt long e =
    let first = first_decimal (suc n) (omega arith) (omega arith) in
    omega arith

pub number_again : (n : ℕ) (rest : List ℕ) → n ≤ 2 ^ 31 → EndsNumber rest → number_front (decimal n ++ rest) ≡ Some (n, rest)
unfolding number_front
number_again n rest le ends =
    let wide : n < 2 ^ 64 = omega arith in
    let len : run_len is_ascii_digit (decimal n ++ rest) ≡ length (decimal n) = digit_len-append (decimal n) rest (digits_decimal own n wide) ends in
    rw (len, take_at (decimal n) rest (length (decimal n)) refl, drop_at (decimal n) rest (length (decimal n)) refl)
    (number_of_again (decimal n) rest n (decimal_nonempty n wide) (decimal_plain n le) (digits_value-decimal own n wide) le)

pub up_to_takes : (limit : ℕ) (bytes : List ℕ) (x : ℕ × List ℕ) → up_to limit bytes ≡ Some x → NumberAt limit bytes x
up_to_takes limit bytes x e =
    option_and_then_some (at_most limit) (number_front bytes) x e (λ y ey more.
    let m = cond_some (leb y.0 limit) y x more in
    subst (NumberAt limit bytes) m.1 (leb-true y.0 limit m.0, (number_takes bytes y ey).1))

pub up_to_again : (limit n : ℕ) (rest : List ℕ) → limit ≤ 2 ^ 31 → n ≤ limit → EndsNumber rest → up_to limit (decimal n ++ rest) ≡ Some (n, rest)
up_to_again limit n rest small le ends = rw (number_again n rest (omega arith) ends, le-leb n limit le) refl

abbrev pub CountAt : ℕ → List ℕ → ℕ × List ℕ → Type 0
CountAt limit bytes x = (1 ≤ x.0) × ((x.0 ≤ limit) × (bytes ≡ decimal x.0 ++ x.1))

pub from_one_takes : (limit : ℕ) (bytes : List ℕ) (x : ℕ × List ℕ) → from_one limit bytes ≡ Some x → CountAt limit bytes x
from_one_takes limit bytes x e =
    option_and_then_some (at_least 1) (up_to limit bytes) x e (λ y ey more.
    let m = cond_some (leb 1 y.0) y x more in
    subst (CountAt limit bytes) m.1 (leb-true 1 y.0 m.0, up_to_takes limit bytes y ey))

pub from_one_again : (limit n : ℕ) (rest : List ℕ) → limit ≤ 2 ^ 31 → 1 ≤ n → n ≤ limit → EndsNumber rest → from_one limit (decimal n ++ rest) ≡ Some (n, rest)
from_one_again limit n rest small one le ends = rw (up_to_again limit n rest small le ends, le-leb 1 n one) refl

-- a number below zero, on 32 bits, by its digits
pub record BelowAt (limit : ℕ) (bytes : List ℕ) (x : ℕ × List ℕ) : Type 0 where
  pub low : 2 ^ 32 ≤ x.0 + limit
  pub high : x.0 < 2 ^ 32
  pub spelled : bytes ≡ decimal (2 ^ 32 - x.0) ++ x.1

pub below_takes : (limit : ℕ) (bytes : List ℕ) (x : ℕ × List ℕ) → limit ≤ 2 ^ 31 → below_zero limit bytes ≡ Some x → BelowAt limit bytes x
below_takes limit bytes x small e =
    map_some (λ (y : ℕ × List ℕ). (2 ^ 32 - y.0, y.1)) (from_one limit bytes) x e (λ y ey is.
    let t = from_one_takes limit bytes y ey in
    let one : 1 ≤ y.0 = t.0 in
    let most : y.0 ≤ limit = t.1.0 in
    let back : 2 ^ 32 - (2 ^ 32 - y.0) ≡ y.0 = omega arith in
    subst (BelowAt limit bytes) is (record {
      low = omega arith;
      high = omega arith;
      spelled = t.1.1 ∙ ap (λ (n : ℕ). decimal n ++ y.1) (sym back);
    }))

pub below_again : (limit n : ℕ) (rest : List ℕ) → limit ≤ 2 ^ 31 → 2 ^ 32 ≤ n + limit → n < 2 ^ 32 → EndsNumber rest → below_zero limit (decimal (2 ^ 32 - n) ++ rest) ≡ Some (n, rest)
below_again limit n rest small low high ends =
    let back : 2 ^ 32 - (2 ^ 32 - n) ≡ n = omega arith in
    rw (from_one_again limit (2 ^ 32 - n) rest small (omega arith) (omega arith) ends, back) refl

abbrev pub SignedAt : List ℕ → ℕ × List ℕ → Type 0
SignedAt bytes x = (x.0 < 2 ^ 32) × (bytes ≡ signed_text x.0 ++ x.1)

signed_small : (n : ℕ) → n < 2 ^ 31 → signed_text n ≡ decimal n
signed_small n lt = rw (lt-ltb n (2 ^ 31) lt) refl

signed_large : (n : ℕ) → 2 ^ 31 ≤ n → signed_text n ≡ codes "-" ++ decimal (2 ^ 32 - n)
signed_large n le = rw (le-ltb n (2 ^ 31) le) refl

pub signed_takes : (bytes : List ℕ) (x : ℕ × List ℕ) → signed_front bytes ≡ Some x → SignedAt bytes x
unfolding signed_front
signed_takes bytes x e =
    map_or_some (number_front bytes) (at_most 2147483647) (minus_front 2147483648 bytes) x e
    (λ y ey more.
    let m = cond_some (leb y.0 2147483647) y x more in
    let small : y.0 ≤ 2147483647 = leb-true y.0 2147483647 m.0 in
    let lt : y.0 < 2 ^ 31 = omega arith in
    subst (SignedAt bytes) m.1 (omega arith, (number_takes bytes y ey).1 ∙ ap (λ (t : List ℕ). t ++ y.1) (sym (signed_small y.0 lt))))
    (λ minus.
    option_and_then_some (below_zero 2147483648) (strip (codes "-") bytes) x minus (λ r er more.
    let b = below_takes 2147483648 r x (omega arith) more in
    let low : 2 ^ 31 ≤ x.0 = omega (arith, b.low) in
    (b.high, strip_takes (codes "-") bytes r er ∙ ap (λ (t : List ℕ). codes "-" ++ t) b.spelled ∙ ap (λ (t : List ℕ). t ++ x.1) (sym (signed_large x.0 low)))))

number_not_minus : (cs : List ℕ) → number_front (45 ∷ cs) ≡ None
unfolding number_front
number_not_minus cs = refl

pub signed_again : (n : ℕ) (rest : List ℕ) → n < 2 ^ 32 → EndsNumber rest → signed_front (signed_text n ++ rest) ≡ Some (n, rest)
unfolding signed_front
signed_again n rest lt ends =
    elim (cases_lt n (2 ^ 31)) [
      | inl small ↦ rw (signed_small n small, number_again n rest (omega arith) ends, le-leb n 2147483647 (omega arith)) refl
      | inr large ↦ rw (signed_large n large, number_not_minus (decimal (2 ^ 32 - n) ++ rest), below_again 2147483648 n rest (omega arith) (omega arith) lt ends) refl
    ]

-- an offset is not written as -2 ^ 31
pub record OffsetAt (bytes : List ℕ) (x : ℕ × List ℕ) : Type 0 where
  pub fits : x.0 < 2 ^ 32
  pub writable : eqb x.0 (2 ^ 31) ≡ false
  pub spelled : bytes ≡ offset_text x.0 ++ x.1

offset_small : (n : ℕ) → 1 ≤ n → n < 2 ^ 31 → offset_text n ≡ codes "+" ++ decimal n
offset_small zero one lt = absurd (omega arith)
offset_small (suc n) one lt = rw (lt-ltb (suc n) (2 ^ 31) lt) refl

offset_large : (n : ℕ) → 2 ^ 31 ≤ n → offset_text n ≡ codes "-" ++ decimal (2 ^ 32 - n)
offset_large zero le = absurd (omega arith)
offset_large (suc n) le = rw (le-ltb (suc n) (2 ^ 31) le) refl

pub offset_takes : (bytes : List ℕ) (x : ℕ × List ℕ) → offset_front bytes ≡ Some x → OffsetAt bytes x
unfolding offset_front
offset_takes bytes x e =
    map_or_some (strip (codes "+") bytes) (from_one 2147483647) _ x e
    (λ r er more.
    let t = from_one_takes 2147483647 r x more in
    let one : 1 ≤ x.0 = t.0 in
    let most : x.0 ≤ 2147483647 = t.1.0 in
    record {
      fits = omega arith;
      writable = ne_eqb x.0 (2 ^ 31) (λ same. omega arith);
      spelled = strip_takes (codes "+") bytes r er ∙ ap (λ (t : List ℕ). codes "+" ++ t) t.1.1 ∙ ap (λ (t : List ℕ). t ++ x.1) (sym (offset_small x.0 one (omega arith)));
    })
    (λ other.
    map_or_some (strip (codes "-") bytes) (below_zero 2147483647) (Some (0, bytes)) x other
    (λ r er more.
    let b = below_takes 2147483647 r x (omega arith) more in
    let low : 2 ^ 31 < x.0 = omega (arith, b.low) in
    record {
      fits = b.high;
      writable = ne_eqb x.0 (2 ^ 31) (λ same. omega arith);
      spelled = strip_takes (codes "-") bytes r er ∙ ap (λ (t : List ℕ). codes "-" ++ t) b.spelled ∙ ap (λ (t : List ℕ). t ++ x.1) (sym (offset_large x.0 (omega arith)));
    })
    (λ none. subst (OffsetAt bytes) (same_Some (0, bytes) x none) (record { fits = omega arith; writable = refl; spelled = refl })))

-- neither a digit nor a sign stands there
pub record EndsOffset (rest : List ℕ) : Type 0 where
  pub number : EndsNumber rest
  pub plus : strip (codes "+") rest ≡ None
  pub minus : strip (codes "-") rest ≡ None

by_sign : (n : ℕ) (rest : List ℕ) → n < 2 ^ 32 → eqb n (2 ^ 31) ≡ false → EndsOffset rest → offset_front (offset_text n ++ rest) ≡ Some (n, rest)
unfolding offset_front
by_sign zero rest lt writable ends = rw (ends.plus, ends.minus) refl
by_sign (suc n) rest lt writable ends =
    elim (cases_lt (suc n) (2 ^ 31)) [
      | inl small ↦ rw (offset_small (suc n) (omega arith) small, from_one_again 2147483647 (suc n) rest (omega arith) (omega arith) (omega arith) ends.number) refl
      | inr large ↦
          let apart : suc n ≡ 2 ^ 31 → ⊥ = eqb-false (suc n) (2 ^ 31) writable in
          let low : 2 ^ 32 ≤ suc n + 2147483647 = elim (cases_lt (2 ^ 31) (suc n)) [ inl more ↦ omega arith | inr le ↦ absurd (apart (omega arith)) ] in
          rw (offset_large (suc n) large, below_again 2147483647 (suc n) rest (omega arith) low lt ends.number) refl
    ]

pub offset_again : (n : ℕ) (rest : List ℕ) → n < 2 ^ 32 → eqb n (2 ^ 31) ≡ false → EndsOffset rest → offset_front (offset_text n ++ rest) ≡ Some (n, rest)
offset_again n rest lt writable ends = by_sign n rest lt writable ends
