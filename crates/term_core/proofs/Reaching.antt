-- The normal form is reached from a term by its equations.
use Rattle.std.proofs.Common.{◌≡◌, ℕ, ◌-◌, ◌%◌, ◌^◌, ◌==◌, ◌&&◌, Bool, true, false, List, sym, refl, subst}
use Rattle.std.specs.Prelude.{nat_lt, ◌||◌, if◌then◌else◌}
use Rattle.std.specs.declared.cmp.Ordering.{Ordering}
use Rattle.std.specs.declared.cmp.Ordering.TheVariants.{Less, Equal, Greater}
use Rattle.std.proofs.lemmas.Bool.{eqb-true, ltb-true}
use Rattle.gg_base.specs.declared.size.Size.TheVariants.{Byte, Word}
use Rattle.term_core.specs.declared.facts.Fact.{Fact}
use Rattle.term_core.specs.Facts.{has_size}
use Rattle.term_core.specs.declared.operator.UnaryOp.{UnaryOp}
use Rattle.term_core.specs.declared.operator.UnaryOp.TheVariants.{Neg, Com, Zx8, Zx16, Sx8, Sx16}
use Rattle.term_core.specs.declared.operator.BinaryOp.{BinaryOp}
use Rattle.term_core.specs.declared.operator.BinaryOp.TheVariants.{Add, Sub, Mul, Div, And, Or, Xor, Ash}
use Rattle.term_core.specs.Operators.{binary}
use Rattle.term_core.specs.Shape.{Shape, Constant, Symbol, LastResult, Memory, Unary, Binary}
use Rattle.term_core.specs.Order.{order}
use Rattle.term_core.specs.NormBinary.{in_order, add_constant, add_ordered, make_add, make_sub, mul_ordered, make_mul}
use Rattle.term_core.specs.NormBinary.{make_div, is_count_symbol, masks_nothing, and_ordered, make_and, or_ordered}
use Rattle.term_core.specs.NormBinary.{make_or, xor_ordered, make_xor, make_ash, make_binary}
use Rattle.term_core.specs.NormUnary.{make_neg, make_com, make_zx8, make_zx16, make_sx8, make_sx16, make_unary}
use Rattle.term_core.specs.Norm.{norm}
use Rattle.term_core.specs.Equations.{Equation, is_commutative, constant, constants, difference, exchanged, neg_twice, com_twice, add_zero, or_zero, xor_zero, mul_one, and_ones}
use Rattle.term_core.specs.Equations.{add_constants, zx8_of_zx8, zx8_of_sx8, zx16_of_zx16, zx16_of_sx16, sx8_of_sx8, sx8_of_zx8, sx16_of_sx16, sx16_of_zx16, zx8_of_byte}
use Rattle.term_core.specs.Equations.{zx8_of_memory, zx16_of_word, zx16_of_memory, shift_by_constant, shift_by_zx8, shift_by_sx8, count_of_count, spelled_alike, Reaches, stays, by}
use Rattle.term_core.specs.Equations.{chain, in_memory, in_unary, in_binary}

module _ (facts : List Fact) where
  -- a choice, each side of which is reached where it is taken
  chosen : (b : Bool) {s t u : Shape} → (b ≡ true → Reaches facts s t) → (b ≡ false → Reaches facts s u) → Reaches facts s (if b then t else u)
  chosen true h k = h refl
  chosen false h k = k refl

  neg_reached : (t : Shape) → Reaches facts (Unary Neg t) (make_neg t)
  neg_reached (Constant n) = by (constant Neg n)
  neg_reached (Unary Neg t) = by (neg_twice t)
  neg_reached t = stays (Unary Neg t)

  com_reached : (t : Shape) → Reaches facts (Unary Com t) (make_com t)
  com_reached (Constant n) = by (constant Com n)
  com_reached (Unary Com t) = by (com_twice t)
  com_reached t = stays (Unary Com t)

  zx8_reached : (t : Shape) → Reaches facts (Unary Zx8 t) (make_zx8 facts t)
  zx8_reached (Constant n) = by (constant Zx8 n)
  zx8_reached (Unary Zx8 t) = chain (by (zx8_of_zx8 t)) (zx8_reached t)
  zx8_reached (Unary Sx8 t) = chain (by (zx8_of_sx8 t)) (zx8_reached t)
  zx8_reached (Symbol i) = chosen (has_size facts i Byte) (λ h. by (zx8_of_byte i h)) (λ h. stays (Unary Zx8 (Symbol i)))
  zx8_reached (Memory Byte a) = by (zx8_of_memory a)
  zx8_reached t = stays (Unary Zx8 t)

  zx16_reached : (t : Shape) → Reaches facts (Unary Zx16 t) (make_zx16 facts t)
  zx16_reached (Constant n) = by (constant Zx16 n)
  zx16_reached (Unary Zx16 t) = chain (by (zx16_of_zx16 t)) (zx16_reached t)
  zx16_reached (Unary Sx16 t) = chain (by (zx16_of_sx16 t)) (zx16_reached t)
  zx16_reached (Symbol i) = chosen (has_size facts i Word) (λ h. by (zx16_of_word i h)) (λ h. stays (Unary Zx16 (Symbol i)))
  zx16_reached (Memory Word a) = by (zx16_of_memory a)
  zx16_reached t = stays (Unary Zx16 t)

  sx8_reached : (t : Shape) → Reaches facts (Unary Sx8 t) (make_sx8 t)
  sx8_reached (Constant n) = by (constant Sx8 n)
  sx8_reached (Unary Sx8 t) = chain (by (sx8_of_sx8 t)) (sx8_reached t)
  sx8_reached (Unary Zx8 t) = chain (by (sx8_of_zx8 t)) (sx8_reached t)
  sx8_reached t = stays (Unary Sx8 t)

  sx16_reached : (t : Shape) → Reaches facts (Unary Sx16 t) (make_sx16 t)
  sx16_reached (Constant n) = by (constant Sx16 n)
  sx16_reached (Unary Sx16 t) = chain (by (sx16_of_sx16 t)) (sx16_reached t)
  sx16_reached (Unary Zx16 t) = chain (by (sx16_of_zx16 t)) (sx16_reached t)
  sx16_reached t = stays (Unary Sx16 t)

  unary_reached : (op : UnaryOp) (t : Shape) → Reaches facts (Unary op t) (make_unary facts op t)
  unary_reached Neg t = neg_reached t
  unary_reached Com t = com_reached t
  unary_reached Zx8 t = zx8_reached t
  unary_reached Zx16 t = zx16_reached t
  unary_reached Sx8 t = sx8_reached t
  unary_reached Sx16 t = sx16_reached t

  -- where a constant is the operator's neutral one
  neutral : (op : BinaryOp) (k c : ℕ) (t : Shape) → Equation facts (Binary op (Constant k) t) t → (c == k) ≡ true → Reaches facts (Binary op (Constant c) t) t
  neutral op k c t e h = subst (λ n. Reaches facts (Binary op (Constant n) t) t) (sym (eqb-true c k h)) (by e)

  add_constant_reached : (t : Shape) (c : ℕ) → Reaches facts (Binary Add (Constant c) t) (add_constant c t)
  add_constant_reached (Constant d) c = by (constants Add c d refl)
  add_constant_reached (Binary Add (Constant d) t) c =
      chosen (c == 0) (neutral Add 0 c (Binary Add (Constant d) t) (add_zero (Binary Add (Constant d) t)))
      (λ h. chain (by (add_constants c d t)) (add_constant_reached t (binary Add (c % 2 ^ 32) (d % 2 ^ 32))))
  add_constant_reached t c = chosen (c == 0) (neutral Add 0 c t (add_zero t)) (λ h. stays (Binary Add (Constant c) t))

  add_ordered_reached : (a b : Shape) → Reaches facts (Binary Add a b) (add_ordered a b)
  add_ordered_reached (Constant c) b = add_constant_reached b c
  add_ordered_reached a b = stays (Binary Add a b)

  -- where the parts may be exchanged
  in_order_reached : (op : BinaryOp) (f : Shape → Shape → Shape) → is_commutative op ≡ true → ((a b : Shape) → Reaches facts (Binary op a b) (f a b)) → (o : Ordering) (a b : Shape)
      → order a b ≡ o → Reaches facts (Binary op a b) (in_order f o a b)
  in_order_reached op f c law Less a b h = law a b
  in_order_reached op f c law Equal a b h = law a b
  in_order_reached op f c law Greater a b h = chain (by (exchanged op a b c h)) (law b a)

  add_reached : (a b : Shape) → Reaches facts (Binary Add a b) (make_add a b)
  add_reached a b = in_order_reached Add add_ordered refl add_ordered_reached (order a b) a b refl

  difference_reached : (a b : Shape) → Reaches facts (Binary Sub a b) (make_add a (make_neg b))
  difference_reached a b = chain (by (difference a b)) (chain (in_binary Add (stays a) (neg_reached b)) (add_reached a (make_neg b)))

  sub_reached : (a b : Shape) → Reaches facts (Binary Sub a b) (make_sub a b)
  sub_reached (Constant c) (Constant d) = by (constants Sub c d refl)
  sub_reached a b = difference_reached a b

  mul_ordered_reached : (a b : Shape) → Reaches facts (Binary Mul a b) (mul_ordered a b)
  mul_ordered_reached (Constant c) (Constant d) = by (constants Mul c d refl)
  mul_ordered_reached (Constant c) t = chosen (c == 1) (neutral Mul 1 c t (mul_one t)) (λ h. stays (Binary Mul (Constant c) t))
  mul_ordered_reached a b = stays (Binary Mul a b)

  mul_reached : (a b : Shape) → Reaches facts (Binary Mul a b) (make_mul a b)
  mul_reached a b = in_order_reached Mul mul_ordered refl mul_ordered_reached (order a b) a b refl

  div_reached : (a b : Shape) → Reaches facts (Binary Div a b) (make_div a b)
  div_reached (Constant c) (Constant d) = chosen (d == 0) (λ h. stays (Binary Div (Constant c) (Constant d))) (λ h. by (constants Div c d h))
  div_reached a b = stays (Binary Div a b)

  -- a mask that masks nothing is all ones, or 31 over a count
  masked_count : (c : ℕ) (t : Shape) → (c == 31) ≡ true → is_count_symbol facts t ≡ true → Reaches facts (Binary And (Constant c) t) t
  masked_count c (Symbol i) h k = neutral And 31 c (Symbol i) (count_of_count i k) h
  masked_count c t h k = cc

  masked : (ones small count : Bool) (c : ℕ) (t : Shape) → (c == 2 ^ 32 - 1) ≡ ones → (c == 31) ≡ small → is_count_symbol facts t ≡ count → (ones || (small && count)) ≡ true
      → Reaches facts (Binary And (Constant c) t) t
  masked true small count c t o s k h = neutral And (2 ^ 32 - 1) c t (and_ones t) o
  masked false true true c t o s k h = masked_count c t s k
  masked false true false c t o s k h = cc
  masked false false count c t o s k h = cc

  and_ordered_reached : (a b : Shape) → Reaches facts (Binary And a b) (and_ordered facts a b)
  and_ordered_reached (Constant c) (Constant d) = by (constants And c d refl)
  and_ordered_reached (Constant c) t = chosen (masks_nothing facts c t) (masked (c == 2 ^ 32 - 1) (c == 31) (is_count_symbol facts t) c t refl refl refl) (λ h. stays (Binary And (Constant c) t))
  and_ordered_reached a b = stays (Binary And a b)

  and_reached : (a b : Shape) → Reaches facts (Binary And a b) (make_and facts a b)
  and_reached a b = in_order_reached And (and_ordered facts) refl and_ordered_reached (order a b) a b refl

  or_ordered_reached : (a b : Shape) → Reaches facts (Binary Or a b) (or_ordered a b)
  or_ordered_reached (Constant c) (Constant d) = by (constants Or c d refl)
  or_ordered_reached (Constant c) t = chosen (c == 0) (neutral Or 0 c t (or_zero t)) (λ h. stays (Binary Or (Constant c) t))
  or_ordered_reached a b = stays (Binary Or a b)

  or_reached : (a b : Shape) → Reaches facts (Binary Or a b) (make_or a b)
  or_reached a b = in_order_reached Or or_ordered refl or_ordered_reached (order a b) a b refl

  xor_ordered_reached : (a b : Shape) → Reaches facts (Binary Xor a b) (xor_ordered a b)
  xor_ordered_reached (Constant c) (Constant d) = by (constants Xor c d refl)
  xor_ordered_reached (Constant c) t = chosen (c == 0) (neutral Xor 0 c t (xor_zero t)) (λ h. stays (Binary Xor (Constant c) t))
  xor_ordered_reached a b = stays (Binary Xor a b)

  xor_reached : (a b : Shape) → Reaches facts (Binary Xor a b) (make_xor a b)
  xor_reached a b = in_order_reached Xor xor_ordered refl xor_ordered_reached (order a b) a b refl

  shift_reached : (k : ℕ) (t : Shape) → Reaches facts (Binary Ash (Constant k) t) (if nat_lt k 32 then make_mul (Constant (2 ^ k)) t else Binary Ash (Constant k) t)
  shift_reached k t = chosen (nat_lt k 32) (λ h. chain (by (shift_by_constant k t (ltb-true k 32 h))) (mul_reached (Constant (2 ^ k)) t)) (λ h. stays (Binary Ash (Constant k) t))

  ash_reached : (c t : Shape) → Reaches facts (Binary Ash c t) (make_ash c t)
  ash_reached (Constant k) (Constant d) = by (constants Ash k d refl)
  ash_reached (Constant k) t = shift_reached k t
  ash_reached (Unary Zx8 c) t = chain (by (shift_by_zx8 c t)) (ash_reached c t)
  ash_reached (Unary Sx8 c) t = chain (by (shift_by_sx8 c t)) (ash_reached c t)
  ash_reached c t = stays (Binary Ash c t)

  binary_reached : (op : BinaryOp) (a b : Shape) → Reaches facts (Binary op a b) (make_binary facts op a b)
  binary_reached Add a b = add_reached a b
  binary_reached Sub a b = sub_reached a b
  binary_reached Mul a b = mul_reached a b
  binary_reached Div a b = div_reached a b
  binary_reached And a b = and_reached a b
  binary_reached Or a b = or_reached a b
  binary_reached Xor a b = xor_reached a b
  binary_reached Ash a b = ash_reached a b

  pub norm_reached : (s : Shape) → Reaches facts s (norm facts s)
  norm_reached (Constant n) = stays (Constant n)
  norm_reached (Symbol i) = by (spelled_alike i)
  norm_reached LastResult = stays LastResult
  norm_reached (Memory size a) = in_memory size (norm_reached a)
  norm_reached (Unary op t) = chain (in_unary op (norm_reached t)) (unary_reached op (norm facts t))
  norm_reached (Binary op a b) = chain (in_binary op (norm_reached a) (norm_reached b)) (binary_reached op (norm facts a) (norm facts b))
