-- How deep the terms nest that norming builds of normal parts.
use Rattle.std.proofs.Common.{◌≤◌, ℕ, ◌+◌, ◌*◌, ◌%◌, ◌^◌, ◌==◌, Bool, true, false, List, arith}
use Rattle.std.specs.Prelude.{max, nat_lt, if◌then◌else◌}
use Rattle.std.specs.declared.cmp.Ordering.{Ordering}
use Rattle.std.specs.declared.cmp.Ordering.TheVariants.{Less, Equal, Greater}
use Rattle.gg_base.specs.declared.size.Size.TheVariants.{Byte, Word}
use Rattle.gg_base.proofs.Facts.{one_up}
use Rattle.term_core.specs.declared.facts.Fact.{Fact}
use Rattle.term_core.specs.Facts.{has_size}
use Rattle.term_core.specs.declared.operator.UnaryOp.{UnaryOp}
use Rattle.term_core.specs.declared.operator.UnaryOp.TheVariants.{Neg, Com, Zx8, Zx16, Sx8, Sx16}
use Rattle.term_core.specs.declared.operator.BinaryOp.{BinaryOp}
use Rattle.term_core.specs.declared.operator.BinaryOp.TheVariants.{Add, Sub, Mul, Div, And, Or, Xor, Ash}
use Rattle.term_core.specs.Operators.{binary}
use Rattle.term_core.specs.Shape.{Shape, Constant, Symbol, LastResult, Memory, Unary, Binary}
use Rattle.term_core.specs.Order.{order}
use Rattle.term_core.specs.NormBinary.{in_order, add_constant, add_ordered, make_add, make_sub, mul_ordered, make_mul}
use Rattle.term_core.specs.NormBinary.{make_div, masks_nothing, and_ordered, or_ordered, xor_ordered, make_ash}
use Rattle.term_core.specs.NormBinary.{make_binary}
use Rattle.term_core.specs.NormUnary.{make_neg, make_com, make_zx8, make_zx16, make_sx8, make_sx16, make_unary}
use Rattle.term_core.specs.Norm.{norm}
use Rattle.sel_terms_depth.specs.Depth.{depth}

pub positive : (t : Shape) → 1 ≤ depth t
positive (Constant n) = omega arith
positive (Symbol i) = omega arith
positive LastResult = omega arith
positive (Memory size a) = omega arith
positive (Unary op t) = omega arith
positive (Binary op a b) = omega arith

-- what is a choice is at most as deep as both
chosen : (b : Bool) (s t : Shape) (n : ℕ) → depth s ≤ n → depth t ≤ n → depth (if b then s else t) ≤ n
chosen true s t n h k = h
chosen false s t n h k = k

neg_depth : (t : Shape) → depth (make_neg t) ≤ 1 + depth t
neg_depth (Constant n) = omega arith
neg_depth (Unary Neg t) = omega arith
neg_depth t = omega arith

com_depth : (t : Shape) → depth (make_com t) ≤ 1 + depth t
com_depth (Constant n) = omega arith
com_depth (Unary Com t) = omega arith
com_depth t = omega arith

zx8_depth : (facts : List Fact) (t : Shape) → depth (make_zx8 facts t) ≤ 1 + depth t
zx8_depth facts (Constant n) = omega arith
zx8_depth facts (Unary Zx8 t) = one_up _ _ (zx8_depth facts t)
zx8_depth facts (Unary Sx8 t) = one_up _ _ (zx8_depth facts t)
zx8_depth facts (Symbol i) = chosen (has_size facts i Byte) _ _ 2 (omega arith) (omega arith)
zx8_depth facts (Memory Byte a) = omega arith
zx8_depth facts t = omega arith

zx16_depth : (facts : List Fact) (t : Shape) → depth (make_zx16 facts t) ≤ 1 + depth t
zx16_depth facts (Constant n) = omega arith
zx16_depth facts (Unary Zx16 t) = one_up _ _ (zx16_depth facts t)
zx16_depth facts (Unary Sx16 t) = one_up _ _ (zx16_depth facts t)
zx16_depth facts (Symbol i) = chosen (has_size facts i Word) _ _ 2 (omega arith) (omega arith)
zx16_depth facts (Memory Word a) = omega arith
zx16_depth facts t = omega arith

sx8_depth : (t : Shape) → depth (make_sx8 t) ≤ 1 + depth t
sx8_depth (Constant n) = omega arith
sx8_depth (Unary Sx8 t) = one_up _ _ (sx8_depth t)
sx8_depth (Unary Zx8 t) = one_up _ _ (sx8_depth t)
sx8_depth t = omega arith

sx16_depth : (t : Shape) → depth (make_sx16 t) ≤ 1 + depth t
sx16_depth (Constant n) = omega arith
sx16_depth (Unary Sx16 t) = one_up _ _ (sx16_depth t)
sx16_depth (Unary Zx16 t) = one_up _ _ (sx16_depth t)
sx16_depth t = omega arith

unary_depth : (facts : List Fact) (op : UnaryOp) (t : Shape) → depth (make_unary facts op t) ≤ 1 + depth t
unary_depth facts Neg t = neg_depth t
unary_depth facts Com t = com_depth t
unary_depth facts Zx8 t = zx8_depth facts t
unary_depth facts Zx16 t = zx16_depth facts t
unary_depth facts Sx8 t = sx8_depth t
unary_depth facts Sx16 t = sx16_depth t

-- what an operator builds of two parts is at most one deeper than both
abbrev Shallow : (Shape → Shape → Shape) → Type 0
Shallow build = (a b : Shape) → depth (build a b) ≤ 1 + max (depth a) (depth b)

in_order_depth : (build : Shape → Shape → Shape) → Shallow build → (o : Ordering) → Shallow (in_order build o)
in_order_depth build h Less a b = h a b
in_order_depth build h Equal a b = h a b
in_order_depth build h Greater a b = omega (arith, h b a)

constant_depth : (c : ℕ) (t : Shape) → depth (add_constant c t) ≤ 1 + depth t
constant_depth c (Constant d) = omega arith
constant_depth c (Binary Add (Constant d) t) =
    chosen (c == 0) _ _ (1 + (1 + max 1 (depth t))) (omega arith) (omega (arith, constant_depth (binary Add (c % 2 ^ 32) (d % 2 ^ 32)) t))
constant_depth c t = chosen (c == 0) _ _ (1 + depth t) (omega arith) (omega (arith, positive t))

add_ordered_depth : Shallow add_ordered
add_ordered_depth (Constant c) t = omega (arith, constant_depth c t)
add_ordered_depth a b = omega arith

add_depth : Shallow make_add
add_depth a b = in_order_depth add_ordered add_ordered_depth (order a b) a b

sub_depth : (a b : Shape) → depth (make_sub a b) ≤ 2 + max (depth a) (depth b)
sub_depth (Constant c) (Constant d) = omega arith
sub_depth a b = omega (arith, add_depth a (make_neg b), neg_depth b)

mul_ordered_depth : Shallow mul_ordered
mul_ordered_depth (Constant c) (Constant d) = omega arith
mul_ordered_depth (Constant c) t = chosen (c == 1) _ _ (1 + max 1 (depth t)) (omega arith) (omega arith)
mul_ordered_depth a b = omega arith

mul_depth : Shallow make_mul
mul_depth a b = in_order_depth mul_ordered mul_ordered_depth (order a b) a b

div_depth : Shallow make_div
div_depth (Constant c) (Constant d) = chosen (d == 0) _ _ 2 (omega arith) (omega arith)
div_depth a b = omega arith

and_ordered_depth : (facts : List Fact) → Shallow (and_ordered facts)
and_ordered_depth facts (Constant c) (Constant d) = omega arith
and_ordered_depth facts (Constant c) t = chosen (masks_nothing facts c t) _ _ (1 + max 1 (depth t)) (omega arith) (omega arith)
and_ordered_depth facts a b = omega arith

or_ordered_depth : Shallow or_ordered
or_ordered_depth (Constant c) (Constant d) = omega arith
or_ordered_depth (Constant c) t = chosen (c == 0) _ _ (1 + max 1 (depth t)) (omega arith) (omega arith)
or_ordered_depth a b = omega arith

xor_ordered_depth : Shallow xor_ordered
xor_ordered_depth (Constant c) (Constant d) = omega arith
xor_ordered_depth (Constant c) t = chosen (c == 0) _ _ (1 + max 1 (depth t)) (omega arith) (omega arith)
xor_ordered_depth a b = omega arith

ash_depth : Shallow make_ash
ash_depth (Constant k) (Constant d) = omega arith
ash_depth (Constant k) t = chosen (nat_lt k 32) _ _ (1 + max 1 (depth t)) (mul_depth (Constant (2 ^ k)) t) (omega arith)
ash_depth (Unary Zx8 c) t = omega (arith, ash_depth c t)
ash_depth (Unary Sx8 c) t = omega (arith, ash_depth c t)
ash_depth c t = omega arith

twice : (m n : ℕ) → m ≤ 1 + n → m ≤ 2 + n
twice m n h = omega (arith, h)

binary_depth : (facts : List Fact) (op : BinaryOp) (a b : Shape) → depth (make_binary facts op a b) ≤ 2 + max (depth a) (depth b)
binary_depth facts Add a b = twice _ _ (add_depth a b)
binary_depth facts Sub a b = sub_depth a b
binary_depth facts Mul a b = twice _ _ (mul_depth a b)
binary_depth facts Div a b = twice _ _ (div_depth a b)
binary_depth facts And a b = twice _ _ (in_order_depth (and_ordered facts) (and_ordered_depth facts) (order a b) a b)
binary_depth facts Or a b = twice _ _ (in_order_depth or_ordered or_ordered_depth (order a b) a b)
binary_depth facts Xor a b = twice _ _ (in_order_depth xor_ordered xor_ordered_depth (order a b) a b)
binary_depth facts Ash a b = twice _ _ (ash_depth a b)

pub norm_depth : (facts : List Fact) (t : Shape) → depth (norm facts t) ≤ 2 * depth t
norm_depth facts (Constant n) = omega arith
norm_depth facts (Symbol i) = omega arith
norm_depth facts LastResult = omega arith
norm_depth facts (Memory size a) = omega (arith, norm_depth facts a)
norm_depth facts (Unary op t) = omega (arith, unary_depth facts op (norm facts t), norm_depth facts t)
norm_depth facts (Binary op a b) = omega (arith, binary_depth facts op (norm facts a) (norm facts b), norm_depth facts a, norm_depth facts b)
