-- What the condition codes say of numbers that were compared.
use Rattle.std.proofs.Common.{◌≡◌, ℕ, ◌+◌, ◌-◌, ◌^◌, ◌<◌, ◌≤◌, ◌==◌, ◌⊎◌, inl, inr, Bool, true, false, cond, refl, sym, ap, ◌∙◌, arith, eq-eqb}
use Rattle.std.specs.Prelude.{nat_lt, nat_le, not, ◌||◌}
use Rattle.std.proofs.lemmas.Bool.{leb-true, le-leb, lt-leb, lt-ltb, le-ltb, eqb-true}
use Rattle.std.proofs.lemmas.Bool.Decides.{nat_tests}
use Rattle.gg_base.specs.declared.size.Size.{Size}
use Rattle.gg_base.specs.declared.size.Size.TheVariants.{Byte, Word, Long}
use Rattle.gg_base.specs.declared.relation.Rel.TheVariants.{Eq, Ne, Lt, Le, Gt, Ge, Ltu, Leu, Gtu, Geu}
use Rattle.gg_base.specs.Relations.{holds, signed_rank}
use Rattle.gg_base.specs.Arithmetic.{sext8, sext16, zext8, zext16}
use Rattle.gg_base.proofs.Facts.{same_bool}
use Rattle.vax_target_meaning.specs.vax_machine.specs.declared.function.Conditions.{Conditions}
use Rattle.vax_target_meaning.specs.vax_machine.specs.Functions.{extended, is_negative_at}
use Rattle.vax_target_operands.specs.Conditions.{Compared, Tested, IsNarrow}

-- ---- tests of numbers

lt_or_eq : (x y : ℕ) → (nat_lt x y || (x == y)) ≡ nat_le x y
lt_or_eq x y = grind (arith, nat_tests)

not_le : (x y : ℕ) → not (nat_lt x y || (x == y)) ≡ nat_lt y x
not_le x y = grind (arith, nat_tests)

not_lt : (x y : ℕ) → not (nat_lt x y) ≡ nat_le y x
not_lt x y = grind (arith, nat_tests)

eq_eq : (a b x y : ℕ) → (a ≡ b → x ≡ y) → (x ≡ y → a ≡ b) → (a == b) ≡ (x == y)
eq_eq a b x y f g = same_bool (a == b) (x == y) (λ e. eq-eqb x y (f (eqb-true a b e))) (λ e. eq-eqb a b (g (eqb-true x y e)))

-- ---- numbers of a size as longwords

-- what a number becomes: itself, or as much more as its sign is worth
record Extends (n x top gap : ℕ) : Type 0 where
  is : ((n < top) × (x ≡ n)) ⊎ ((top ≤ n) × (x ≡ n + gap))

byte_extends : (n : ℕ) → n < 2 ^ 8 → Extends n (sext8 n) (2 ^ 7) (2 ^ 32 - 2 ^ 8)
byte_extends n lt = record { is = by (nat_lt (zext8 n) (2 ^ 7)) refl } where
  by : (b : Bool) → nat_lt (zext8 n) (2 ^ 7) ≡ b → ((n < 2 ^ 7) × (sext8 n ≡ n)) ⊎ ((2 ^ 7 ≤ n) × (sext8 n ≡ n + (2 ^ 32 - 2 ^ 8)))
  by true e = inl (
    (let small : zext8 n < 2 ^ 7 = grind (arith, nat_tests) in let r : n < 2 ^ 7 = omega (arith, small, lt) in r),
    ap (λ b. cond b (zext8 n) (zext8 n + (2 ^ 32 - 2 ^ 8))) e ∙ (let r : zext8 n ≡ n = omega (arith, lt) in r),
  )
  by false e = inr (
    (let great : 2 ^ 7 ≤ zext8 n = grind (arith, nat_tests) in let r : 2 ^ 7 ≤ n = omega (arith, great, lt) in r),
    ap (λ b. cond b (zext8 n) (zext8 n + (2 ^ 32 - 2 ^ 8))) e ∙ (let r : zext8 n + (2 ^ 32 - 2 ^ 8) ≡ n + (2 ^ 32 - 2 ^ 8) = omega (arith, lt) in r),
  )

word_extends : (n : ℕ) → n < 2 ^ 16 → Extends n (sext16 n) (2 ^ 15) (2 ^ 32 - 2 ^ 16)
word_extends n lt = record { is = by (nat_lt (zext16 n) (2 ^ 15)) refl } where
  by : (b : Bool) → nat_lt (zext16 n) (2 ^ 15) ≡ b → ((n < 2 ^ 15) × (sext16 n ≡ n)) ⊎ ((2 ^ 15 ≤ n) × (sext16 n ≡ n + (2 ^ 32 - 2 ^ 16)))
  by true e = inl (
    (let small : zext16 n < 2 ^ 15 = grind (arith, nat_tests) in let r : n < 2 ^ 15 = omega (arith, small, lt) in r),
    ap (λ b. cond b (zext16 n) (zext16 n + (2 ^ 32 - 2 ^ 16))) e ∙ (let r : zext16 n ≡ n = omega (arith, lt) in r),
  )
  by false e = inr (
    (let great : 2 ^ 15 ≤ zext16 n = grind (arith, nat_tests) in let r : 2 ^ 15 ≤ n = omega (arith, great, lt) in r),
    ap (λ b. cond b (zext16 n) (zext16 n + (2 ^ 32 - 2 ^ 16))) e ∙ (let r : zext16 n + (2 ^ 32 - 2 ^ 16) ≡ n + (2 ^ 32 - 2 ^ 16) = omega (arith, lt) in r),
  )

-- extending keeps the order and differences
record Ordered (a b x y : ℕ) : Type 0 where
  lesser : (nat_lt a b) ≡ (nat_lt x y)
  equal : (a == b) ≡ (x == y)
  left : x < 2 ^ 32
  right : y < 2 ^ 32

ordered_by : (a b x y top gap : ℕ) → top + top + gap ≡ 2 ^ 32 → a < top + top → b < top + top → Extends a x top gap → Extends b y top gap → Ordered a b x y
ordered_by a b x y top gap whole la lb ea eb = by ea.is eb.is where
  made : (a < b → x < y) → (x < y → a < b) → (a ≡ b → x ≡ y) → (x ≡ y → a ≡ b) → x < 2 ^ 32 → y < 2 ^ 32 → Ordered a b x y
  made up down on back lx ly = record {
    lesser = same_bool (nat_lt a b) (nat_lt x y)
        (λ e. lt-ltb x y (up (let r : a < b = grind (arith, nat_tests) in r)))
        (λ e. lt-ltb a b (down (let r : x < y = grind (arith, nat_tests) in r)));
    equal = eq_eq a b x y on back;
    left = lx;
    right = ly;
  }

  by : ((a < top) × (x ≡ a)) ⊎ ((top ≤ a) × (x ≡ a + gap)) → ((b < top) × (y ≡ b)) ⊎ ((top ≤ b) × (y ≡ b + gap)) → Ordered a b x y
  by (inl p) (inl q) = made (λ h. omega (arith, p.1, q.1, h)) (λ h. omega (arith, p.1, q.1, h)) (λ h. omega (arith, p.1, q.1, h)) (λ h. omega (arith, p.1, q.1, h))
      (omega (arith, p, whole)) (omega (arith, q, whole))
  by (inl p) (inr q) = made (λ h. omega (arith, p, q, h)) (λ h. omega (arith, p, q, h)) (λ h. omega (arith, p, q, h)) (λ h. omega (arith, p, q, h))
      (omega (arith, p, whole)) (omega (arith, q, whole, lb))
  by (inr p) (inl q) = made (λ h. omega (arith, p, q, h)) (λ h. omega (arith, p, q, h)) (λ h. omega (arith, p, q, h)) (λ h. omega (arith, p, q, h))
      (omega (arith, p, whole, la)) (omega (arith, q, whole))
  by (inr p) (inr q) = made (λ h. omega (arith, p.1, q.1, h)) (λ h. omega (arith, p.1, q.1, h)) (λ h. omega (arith, p.1, q.1, h)) (λ h. omega (arith, p.1, q.1, h))
      (omega (arith, p, whole, la)) (omega (arith, q, whole, lb))

ordered : (size : Size) (a b : ℕ) → IsNarrow size a → IsNarrow size b → Ordered a b (extended size a) (extended size b)
ordered Byte a b la lb = ordered_by a b (sext8 a) (sext8 b) (2 ^ 7) (2 ^ 32 - 2 ^ 8) refl la lb (byte_extends a la) (byte_extends b lb)
ordered Word a b la lb = ordered_by a b (sext16 a) (sext16 b) (2 ^ 15) (2 ^ 32 - 2 ^ 16) refl la lb (word_extends a la) (word_extends b lb)
ordered Long a b la lb = record { lesser = refl; equal = refl; left = la; right = lb }

-- ---- signs

same_rank : (x y : ℕ) → x < 2 ^ 32 → y < 2 ^ 32 → (x == y) ≡ (signed_rank x == signed_rank y)
same_rank x y lx ly = eq_eq x y (signed_rank x) (signed_rank y) (λ e. ap signed_rank e) (λ e. omega (arith, e, lx, ly))

-- codes that say what is less and what is equal say all
compared_by : (k : Conditions) (x y : ℕ) → x < 2 ^ 32 → y < 2 ^ 32 → k.negative ≡ nat_lt (signed_rank x) (signed_rank y) → k.is_zero ≡ (x == y) → k.carry ≡ nat_lt x y → Compared k x y
compared_by k x y lx ly n z c Eq = z
compared_by k x y lx ly n z c Ne = ap not z
compared_by k x y lx ly n z c Lt = n
compared_by k x y lx ly n z c Le = ap (λ b. b || k.is_zero) n ∙ ap (λ b. nat_lt (signed_rank x) (signed_rank y) || b) (z ∙ same_rank x y lx ly) ∙ lt_or_eq (signed_rank x) (signed_rank y)
compared_by k x y lx ly n z c Gt =
    ap (λ b. not (b || k.is_zero)) n ∙ ap (λ b. not (nat_lt (signed_rank x) (signed_rank y) || b)) (z ∙ same_rank x y lx ly) ∙ not_le (signed_rank x) (signed_rank y)
compared_by k x y lx ly n z c Ge = ap not n ∙ not_lt (signed_rank x) (signed_rank y)
compared_by k x y lx ly n z c Ltu = c
compared_by k x y lx ly n z c Leu = ap (λ b. b || k.is_zero) c ∙ ap (λ b. nat_lt x y || b) z ∙ lt_or_eq x y
compared_by k x y lx ly n z c Gtu = ap (λ b. not (b || k.is_zero)) c ∙ ap (λ b. not (nat_lt x y || b)) z ∙ not_le x y
compared_by k x y lx ly n z c Geu = ap not c ∙ not_lt x y

tested_by : (k : Conditions) (x : ℕ) → x < 2 ^ 32 → k.negative ≡ nat_lt (signed_rank x) (signed_rank 0) → k.is_zero ≡ (x == 0) → Tested k x
tested_by k x lx n z Eq s = z
tested_by k x lx n z Ne s = ap not z
tested_by k x lx n z Lt s = n
tested_by k x lx n z Le s = ap (λ b. b || k.is_zero) n ∙ ap (λ b. nat_lt (signed_rank x) (signed_rank 0) || b) (z ∙ same_rank x 0 lx (omega arith)) ∙ lt_or_eq (signed_rank x) (signed_rank 0)
tested_by k x lx n z Gt s =
    ap (λ b. not (b || k.is_zero)) n ∙ ap (λ b. not (nat_lt (signed_rank x) (signed_rank 0) || b)) (z ∙ same_rank x 0 lx (omega arith)) ∙ not_le (signed_rank x) (signed_rank 0)
tested_by k x lx n z Ge s = ap not n ∙ not_lt (signed_rank x) (signed_rank 0)
tested_by k x lx n z Ltu s = cc
tested_by k x lx n z Leu s = cc
tested_by k x lx n z Gtu s = cc
tested_by k x lx n z Geu s = cc

-- a longword is negative where it is less than 0
long_negative : (x : ℕ) → x < 2 ^ 32 → nat_le (2 ^ 31) x ≡ nat_lt (signed_rank x) (signed_rank 0)
long_negative x lx = same_bool (nat_le (2 ^ 31) x) (nat_lt (signed_rank x) (signed_rank 0))
    (λ e. lt-ltb (signed_rank x) (signed_rank 0) (let h : 2 ^ 31 ≤ x = leb-true (2 ^ 31) x e in omega (arith, h, lx)))
    (λ e. le-leb (2 ^ 31) x (let h : signed_rank x < signed_rank 0 = grind (arith, nat_tests) in omega (arith, h, lx)))

negative_is : (size : Size) (a : ℕ) → IsNarrow size a → is_negative_at size a ≡ nat_lt (signed_rank (extended size a)) (signed_rank 0)
negative_is Byte a la = by (byte_extends a la).is ∙ long_negative (sext8 a) (ordered Byte a a la la).left where
  by : ((a < 2 ^ 7) × (sext8 a ≡ a)) ⊎ ((2 ^ 7 ≤ a) × (sext8 a ≡ a + (2 ^ 32 - 2 ^ 8))) → nat_le (2 ^ 7) a ≡ nat_le (2 ^ 31) (sext8 a)
  by (inl p) = lt-leb (2 ^ 7) a p.0 ∙ sym (lt-leb (2 ^ 31) (sext8 a) (omega (arith, p)))
  by (inr p) = le-leb (2 ^ 7) a p.0 ∙ sym (le-leb (2 ^ 31) (sext8 a) (omega (arith, p)))
negative_is Word a la = by (word_extends a la).is ∙ long_negative (sext16 a) (ordered Word a a la la).left where
  by : ((a < 2 ^ 15) × (sext16 a ≡ a)) ⊎ ((2 ^ 15 ≤ a) × (sext16 a ≡ a + (2 ^ 32 - 2 ^ 16))) → nat_le (2 ^ 15) a ≡ nat_le (2 ^ 31) (sext16 a)
  by (inl p) = lt-leb (2 ^ 15) a p.0 ∙ sym (lt-leb (2 ^ 31) (sext16 a) (omega (arith, p)))
  by (inr p) = le-leb (2 ^ 15) a p.0 ∙ sym (le-leb (2 ^ 31) (sext16 a) (omega (arith, p)))
negative_is Long a la = long_negative a la

-- ---- the three functions that only set the codes

pub compare_says : (size : Size) (a b : ℕ) (k : Conditions) → IsNarrow size a → IsNarrow size b →
    k.negative ≡ holds Lt (extended size a) (extended size b) → k.is_zero ≡ (a == b) → k.carry ≡ nat_lt a b → Compared k (extended size a) (extended size b)
compare_says size a b k la lb n z c =
    let o = ordered size a b la lb in
    compared_by k (extended size a) (extended size b) o.left o.right n (z ∙ o.equal) (c ∙ o.lesser)

nothing_below : (a : ℕ) → nat_lt a 0 ≡ false
nothing_below a = le-ltb a 0 (omega arith)

pub compare_zero_says : (size : Size) (a : ℕ) (k : Conditions) → IsNarrow size a →
    k.negative ≡ is_negative_at size a → k.is_zero ≡ (a == 0) → k.carry ≡ false → Compared k (extended size a) 0
compare_zero_says size a k la n z c = by size la n where
  by : (size : Size) → IsNarrow size a → k.negative ≡ is_negative_at size a → Compared k (extended size a) 0
  by Byte la n = compare_says Byte a 0 k la (omega arith) (n ∙ negative_is Byte a la) z (c ∙ sym (nothing_below a))
  by Word la n = compare_says Word a 0 k la (omega arith) (n ∙ negative_is Word a la) z (c ∙ sym (nothing_below a))
  by Long la n = compare_says Long a 0 k la (omega arith) (n ∙ negative_is Long a la) z (c ∙ sym (nothing_below a))

pub test_says : (x : ℕ) (k : Conditions) → x < 2 ^ 32 → k.negative ≡ is_negative_at Long x → k.is_zero ≡ (x == 0) → Tested k x
test_says x k lx n z = tested_by k x lx (n ∙ long_negative x lx) z
