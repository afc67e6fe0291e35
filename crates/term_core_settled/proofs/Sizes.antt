-- How large the terms are that norming builds of normal parts.
use Rattle.std.proofs.Common.{◌≡◌, ◌≤◌, ◌<◌, ℕ, ◌+◌, ◌%◌, ◌^◌, ◌==◌, Bool, true, false, List, ap, arith}
use Rattle.std.specs.Prelude.{nat_lt, if◌then◌else◌}
use Rattle.std.specs.declared.cmp.Ordering.{Ordering}
use Rattle.std.specs.declared.cmp.Ordering.TheVariants.{Less, Equal, Greater}
use Rattle.gg_base.specs.declared.size.Size.TheVariants.{Byte, Word}
use Rattle.gg_base.proofs.Facts.{one_up}
use Rattle.term_core.specs.declared.facts.Fact.{Fact}
use Rattle.term_core.specs.Facts.{has_size}
use Rattle.term_core.specs.declared.operator.UnaryOp.TheVariants.{Neg, Zx8, Zx16, Sx8, Sx16}
use Rattle.term_core.specs.declared.operator.BinaryOp.TheVariants.{Add}
use Rattle.term_core.specs.Operators.{binary}
use Rattle.term_core.specs.Shape.{Shape, Constant, Symbol, Memory, Unary, Binary, size_of}
use Rattle.term_core.specs.Order.{order}
use Rattle.term_core.specs.NormBinary.{in_order, add_constant, mul_ordered, make_mul, make_ash}
use Rattle.term_core.specs.NormUnary.{make_neg, make_zx8, make_zx16, make_sx8, make_sx16}

-- a term is no larger one
pub no_larger : (s t : Shape) → s ≡ t → size_of s < size_of t → ⊥
no_larger s t e h = let f : size_of s ≡ size_of t = ap size_of e in omega (arith, f, h)

-- what is a choice is at most as large as both
chosen : (b : Bool) (s t : Shape) (n : ℕ) → size_of s ≤ n → size_of t ≤ n → size_of (if b then s else t) ≤ n
chosen true s t n h k = h
chosen false s t n h k = k

pub neg_size : (t : Shape) → size_of (make_neg t) ≤ 1 + size_of t
neg_size (Constant n) = omega arith
neg_size (Unary Neg t) = omega arith
neg_size t = omega arith

pub zx8_size : (facts : List Fact) (t : Shape) → size_of (make_zx8 facts t) ≤ 1 + size_of t
zx8_size facts (Constant n) = omega arith
zx8_size facts (Unary Zx8 t) = one_up _ _ (zx8_size facts t)
zx8_size facts (Unary Sx8 t) = one_up _ _ (zx8_size facts t)
zx8_size facts (Symbol i) = chosen (has_size facts i Byte) _ _ 2 (omega arith) (omega arith)
zx8_size facts (Memory Byte a) = omega arith
zx8_size facts t = omega arith

pub zx16_size : (facts : List Fact) (t : Shape) → size_of (make_zx16 facts t) ≤ 1 + size_of t
zx16_size facts (Constant n) = omega arith
zx16_size facts (Unary Zx16 t) = one_up _ _ (zx16_size facts t)
zx16_size facts (Unary Sx16 t) = one_up _ _ (zx16_size facts t)
zx16_size facts (Symbol i) = chosen (has_size facts i Word) _ _ 2 (omega arith) (omega arith)
zx16_size facts (Memory Word a) = omega arith
zx16_size facts t = omega arith

pub sx8_size : (t : Shape) → size_of (make_sx8 t) ≤ 1 + size_of t
sx8_size (Constant n) = omega arith
sx8_size (Unary Sx8 t) = one_up _ _ (sx8_size t)
sx8_size (Unary Zx8 t) = one_up _ _ (sx8_size t)
sx8_size t = omega arith

pub sx16_size : (t : Shape) → size_of (make_sx16 t) ≤ 1 + size_of t
sx16_size (Constant n) = omega arith
sx16_size (Unary Sx16 t) = one_up _ _ (sx16_size t)
sx16_size (Unary Zx16 t) = one_up _ _ (sx16_size t)
sx16_size t = omega arith

-- What comes of a constant that is added to a term: a constant, a sum, or what is no larger than the term.
pub data Added (t : Shape) : Shape → Type 0 where
  number : (n : ℕ) → Added t (Constant n)
  sum : (a b : Shape) → Added t (Binary Add a b)
  part : (s : Shape) → size_of s ≤ size_of t → Added t s

of_larger : {s : Shape} (t u : Shape) → size_of t ≤ size_of u → Added t s → Added u s
of_larger t u h (number n) = number n
of_larger t u h (sum a b) = sum a b
of_larger t u h (part s k) = part s (omega (arith, h, k))

either : {t : Shape} (b : Bool) (r s : Shape) → Added t r → Added t s → Added t (if b then r else s)
either true r s h k = h
either false r s h k = k

pub added : (t : Shape) (c : ℕ) → Added t (add_constant c t)
added (Constant d) c = number _
added (Binary Add (Constant d) t) c =
    either (c == 0) _ _ (sum (Constant d) t)
    (of_larger t (Binary Add (Constant d) t) (omega arith) (added t (binary Add (c % 2 ^ 32) (d % 2 ^ 32))))
added t c = either (c == 0) _ _ (part t (omega arith)) (sum (Constant c) t)

pub add_size : (t : Shape) (c : ℕ) → size_of (add_constant c t) ≤ 2 + size_of t
add_size (Constant d) c = omega arith
add_size (Binary Add (Constant d) t) c =
    chosen (c == 0) _ _ (2 + (2 + size_of t)) (omega arith) (omega (arith, add_size t (binary Add (c % 2 ^ 32) (d % 2 ^ 32))))
add_size t c = chosen (c == 0) _ _ (2 + size_of t) (omega arith) (omega arith)

mul_ordered_size : (a b : Shape) → size_of (mul_ordered a b) ≤ 1 + size_of a + size_of b
mul_ordered_size (Constant c) (Constant d) = omega arith
mul_ordered_size (Constant c) t = chosen (c == 1) _ _ (2 + size_of t) (omega arith) (omega arith)
mul_ordered_size a b = omega arith

in_order_size : (o : Ordering) (a b : Shape) → size_of (in_order mul_ordered o a b) ≤ 1 + size_of a + size_of b
in_order_size Less a b = mul_ordered_size a b
in_order_size Equal a b = mul_ordered_size a b
in_order_size Greater a b = omega (arith, mul_ordered_size b a)

pub mul_size : (a b : Shape) → size_of (make_mul a b) ≤ 1 + size_of a + size_of b
mul_size a b = in_order_size (order a b) a b

pub ash_size : (c t : Shape) → size_of (make_ash c t) ≤ 1 + size_of c + size_of t
ash_size (Constant k) (Constant d) = omega arith
ash_size (Constant k) t = chosen (nat_lt k 32) _ _ (2 + size_of t) (mul_size (Constant (2 ^ k)) t) (omega arith)
ash_size (Unary Zx8 c) t = omega (arith, ash_size c t)
ash_size (Unary Sx8 c) t = omega (arith, ash_size c t)
ash_size c t = omega arith
