-- Each function of the machine computes what its row says of terms.
use Rattle.std.proofs.Common.{◌≡◌, ℕ, zero, suc, ◌-◌, ◌/◌, ◌%◌, ◌^◌, ◌<◌, Bool, true, false, cond, Some, refl, sym, ap, ◌∙◌, arith}
use Rattle.std.specs.Prelude.{unwrap_or, nat_lt, min}
use Rattle.std.proofs.lemmas.Bool.Decides.{nat_tests}
use Rattle.gg_base.specs.declared.size.Size.{Size}
use Rattle.gg_base.specs.declared.size.Size.TheVariants.{Byte, Word, Long}
use Rattle.gg_base.specs.Arithmetic.{div32, neg32, com32, is_negative, zext8, shifted_left, shifted_right, ash32}
use Rattle.gg_base.proofs.Words.{some_quotient, low_count}
use Rattle.judging_laws.specs.term_core.specs.Shape.{Shape}
use Rattle.judging_laws.specs.vax_templates.specs.Giving.{extended}
use Rattle.l32_target_meaning.specs.l32_templates.specs.l32_machine.specs.declared.function.Function.TheVariants as functions
use Rattle.l32_target_meaning.specs.l32_templates.specs.l32_machine.specs.Functions as machine
use Rattle.l32_target_operands.specs.Scenes.{Scene, worth}
use Rattle.l32_target_operands.specs.Functions.{Quotient, FunctionsMean}
use Rattle.l32_target_operands.proofs.Worths.{worth_small}

extended_is : (c : Scene) (size : Size) (t : Shape) → machine.extended size (worth c t) ≡ worth c (extended size t)
extended_is c Byte t = refl
extended_is c Word t = refl
extended_is c Long t = refl

quotient_is : (x y : ℕ) → Quotient (div32 x y) y (unwrap_or (div32 x y) 0)
quotient_is x y = record { traps = λ e. ap (λ n. div32 x n) e; divides = λ h. some_quotient x y h }

-- ---- shifts by fewer than 32 places

ash_left : (k a : ℕ) → k < 32 → shifted_left k a ≡ ash32 k a
ash_left k a h =
    let low : zext8 k ≡ k = omega arith in
    let left : (cond (nat_lt k (2 ^ 7)) (shifted_left k a) (shifted_right (2 ^ 8 - k) a)) ≡ shifted_left k a = grind (arith, nat_tests) in
    sym (ap (λ n. cond (nat_lt n (2 ^ 7)) (shifted_left n a) (shifted_right (2 ^ 8 - n) a)) low ∙ left)

none_right : (a : ℕ) → a < 2 ^ 32 → shifted_right 0 a ≡ ash32 (neg32 0) a
none_right a lt = by (is_negative a) where
  by : (b : Bool) → cond b (com32 (com32 a / 2 ^ min 0 31)) (a / 2 ^ min 0 31) ≡ ash32 (neg32 0) a
  by true = omega (arith, lt)
  by false = omega (arith, lt)

some_right : (k a : ℕ) → 0 < k → k < 32 → shifted_right k a ≡ ash32 (neg32 k) a
some_right k a from to =
    let low : zext8 (neg32 k) ≡ 2 ^ 8 - k = omega (arith, from, to) in
    let back : 2 ^ 8 - (2 ^ 8 - k) ≡ k = omega (arith, to) in
    let right : (cond (nat_lt (2 ^ 8 - k) (2 ^ 7)) (shifted_left (2 ^ 8 - k) a) (shifted_right (2 ^ 8 - (2 ^ 8 - k)) a)) ≡ shifted_right (2 ^ 8 - (2 ^ 8 - k)) a = grind (arith, nat_tests) in
    sym (ap (λ n. cond (nat_lt n (2 ^ 7)) (shifted_left n a) (shifted_right (2 ^ 8 - n) a)) low ∙ right ∙ ap (λ n. shifted_right n a) back)

ash_right : (k a : ℕ) → a < 2 ^ 32 → k < 32 → shifted_right k a ≡ ash32 (neg32 k) a
ash_right zero a lt h = none_right a lt
ash_right (suc k) a lt h = some_right (suc k) a (omega arith) h

small_count : (y : ℕ) → y % 32 < 32
small_count y = omega arith

pub functions_mean : FunctionsMean
functions_mean c functions.Copy s t = refl
functions_mean c (functions.SignExtend size) s t = ap (λ (n : ℕ). Some n) (extended_is c size s)
functions_mean c functions.Negate s t = refl
functions_mean c functions.Complement s t = refl
functions_mean c functions.Add s t = refl
functions_mean c functions.Subtract s t = refl
functions_mean c functions.Multiply s t = refl
functions_mean c functions.Divide s t = quotient_is (worth c s) (worth c t)
functions_mean c functions.And s t = refl
functions_mean c functions.Or s t = refl
functions_mean c functions.ExclusiveOr s t = refl
functions_mean c functions.ShiftLeft s t =
    ap (λ (n : ℕ). Some n) (ash_left (worth c t % 32) (worth c s) (small_count (worth c t)) ∙ ap (λ (k : ℕ). ash32 k (worth c s)) (sym (low_count (worth c t))))
functions_mean c functions.ShiftRight s t =
    ap (λ (n : ℕ). Some n)
    (ash_right (worth c t % 32) (worth c s) (worth_small c s) (small_count (worth c t)) ∙ ap (λ (k : ℕ). ash32 (neg32 k) (worth c s)) (sym (low_count (worth c t))))
