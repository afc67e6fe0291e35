-- The normal term that a binary operator makes of two normal ones, by the first equation that fits.
use Rattle.std.specs.Prelude.{ℕ, ◌-◌, ◌%◌, ◌^◌, ◌==◌, ◌&&◌, ◌||◌, Bool, false, nat_lt, List, if◌then◌else◌}
use Rattle.std.specs.declared.cmp.Ordering.{Ordering}
use Rattle.std.specs.declared.cmp.Ordering.TheVariants.{Greater}
use Rattle.term_core.specs.declared.facts.Fact.{Fact}
use Rattle.term_core.specs.Facts.{is_count}
use Rattle.term_core.specs.declared.operator.UnaryOp.TheVariants.{Zx8, Sx8}
use Rattle.term_core.specs.declared.operator.BinaryOp.{BinaryOp}
use Rattle.term_core.specs.declared.operator.BinaryOp.TheVariants.{Add, Sub, Mul, Div, And, Or, Xor, Ash}
use Rattle.term_core.specs.Operators.{binary}
use Rattle.term_core.specs.Shape.{Shape, Constant, Symbol, Unary, Binary}
use Rattle.term_core.specs.Order.{order}
use Rattle.term_core.specs.NormUnary.{make_neg}

abbrev pub binary_constant : BinaryOp → ℕ → ℕ → Shape
binary_constant op m n = Constant (binary op (m % 2 ^ 32) (n % 2 ^ 32))

-- the two parts, the greater one behind
abbrev pub in_order : (Shape → Shape → Shape) → Ordering → Shape → Shape → Shape
in_order build Greater a b = build b a
in_order build o a b = build a b

-- Add(Kc,t): nothing is added, or c and a constant in front of t are added first
abbrev pub add_constant : ℕ → Shape → Shape
add_constant c (Constant d) = binary_constant Add c d
add_constant c (Binary Add (Constant d) t) =
    if c == 0 then Binary Add (Constant d) t
    else add_constant (binary Add (c % 2 ^ 32) (d % 2 ^ 32)) t
add_constant c t = if c == 0 then t else Binary Add (Constant c) t

abbrev pub add_ordered : Shape → Shape → Shape
add_ordered (Constant c) t = add_constant c t
add_ordered a b = Binary Add a b

abbrev pub make_add : Shape → Shape → Shape
make_add a b = in_order add_ordered (order a b) a b

-- Sub(a,b) is Add(a,Neg(b))
abbrev pub make_sub : Shape → Shape → Shape
make_sub (Constant c) (Constant d) = binary_constant Sub c d
make_sub a b = make_add a (make_neg b)

-- Mul(K1,t) is t
abbrev pub mul_ordered : Shape → Shape → Shape
mul_ordered (Constant c) (Constant d) = binary_constant Mul c d
mul_ordered (Constant c) t = if c == 1 then t else Binary Mul (Constant c) t
mul_ordered a b = Binary Mul a b

abbrev pub make_mul : Shape → Shape → Shape
make_mul a b = in_order mul_ordered (order a b) a b

-- a quotient by the constant 0 stays
abbrev pub make_div : Shape → Shape → Shape
make_div (Constant c) (Constant d) = if d == 0 then Binary Div (Constant c) (Constant d) else binary_constant Div c d
make_div a b = Binary Div a b

-- And(K-1,t) is t, and And(K31,Vi) is Vi where symbol i is a constant from 0 to 31
abbrev pub is_count_symbol : List Fact → Shape → Bool
is_count_symbol facts (Symbol i) = is_count facts i
is_count_symbol facts t = false

abbrev pub masks_nothing : List Fact → ℕ → Shape → Bool
masks_nothing facts c t = (c == 2 ^ 32 - 1) || ((c == 31) && is_count_symbol facts t)

abbrev pub and_ordered : List Fact → Shape → Shape → Shape
and_ordered facts (Constant c) (Constant d) = binary_constant And c d
and_ordered facts (Constant c) t = if masks_nothing facts c t then t else Binary And (Constant c) t
and_ordered facts a b = Binary And a b

abbrev pub make_and : List Fact → Shape → Shape → Shape
make_and facts a b = in_order (and_ordered facts) (order a b) a b

-- Or(K0,t) and Xor(K0,t) are t
abbrev pub or_ordered : Shape → Shape → Shape
or_ordered (Constant c) (Constant d) = binary_constant Or c d
or_ordered (Constant c) t = if c == 0 then t else Binary Or (Constant c) t
or_ordered a b = Binary Or a b

abbrev pub make_or : Shape → Shape → Shape
make_or a b = in_order or_ordered (order a b) a b

abbrev pub xor_ordered : Shape → Shape → Shape
xor_ordered (Constant c) (Constant d) = binary_constant Xor c d
xor_ordered (Constant c) t = if c == 0 then t else Binary Xor (Constant c) t
xor_ordered a b = Binary Xor a b

abbrev pub make_xor : Shape → Shape → Shape
make_xor a b = in_order xor_ordered (order a b) a b

-- Ash(Kk,t) is Mul(K2^k,t) for k from 0 to 31; a count is read by its low byte alone
abbrev pub make_ash : Shape → Shape → Shape
make_ash (Constant k) (Constant d) = binary_constant Ash k d
make_ash (Constant k) t = if nat_lt k 32 then make_mul (Constant (2 ^ k)) t else Binary Ash (Constant k) t
make_ash (Unary Zx8 c) t = make_ash c t
make_ash (Unary Sx8 c) t = make_ash c t
make_ash c t = Binary Ash c t

abbrev pub make_binary : List Fact → BinaryOp → Shape → Shape → Shape
make_binary facts Add a b = make_add a b
make_binary facts Sub a b = make_sub a b
make_binary facts Mul a b = make_mul a b
make_binary facts Div a b = make_div a b
make_binary facts And a b = make_and facts a b
make_binary facts Or a b = make_or a b
make_binary facts Xor a b = make_xor a b
make_binary facts Ash a b = make_ash a b
