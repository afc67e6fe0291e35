-- Values of constant expressions, and the arithmetic that they share with the program's meaning.
use Rattle.std.specs.Prelude.{ℕ, ◌==◌, Bool, true, false, not, ◌&&◌, Option, Some, None, if◌then◌else◌}
use Rattle.gg_base.specs.Relations.{holds}
use Rattle.gg_base.specs.Arithmetic.{add32, sub32, mul32, and32, or32, xor32, neg32, com32, div32, ash32}
use Rattle.gg_base.specs.Numbers.{truth}
use Rattle.c_types.specs.declared.types.CType.{CType}
use Rattle.c_types.specs.declared.types.CType.TheVariants.{Void, Integer, Pointer}
use Rattle.c_types.specs.declared.typed.UnaryOperator.{UnaryOperator}
use Rattle.c_types.specs.declared.typed.UnaryOperator.TheVariants as unaries
use Rattle.c_types.specs.declared.typed.ArithmeticOperator.{ArithmeticOperator}
use Rattle.c_types.specs.declared.typed.ArithmeticOperator.TheVariants as ariths
use Rattle.c_types.specs.Types.{kept, size_of, target}
use Rattle.c_types.specs.Typed.{AnExpression, Constant, SizeOfExpression, SizeOf, UnaryOf, CastTo, ArithmeticOf, CompareOf}
use Rattle.c_types.specs.Typed.{BothOf, EitherOf, AdvanceOf, AdvanceByOf, RetreatOf, DistanceOf, ChoiceOf}

-- what becomes of a value that is converted to a type
unfoldable pub converted : CType → ℕ → ℕ
converted Void v = v
converted (Integer b) v = kept b v
converted (Pointer b n) v = v

abbrev pub is_zero : ℕ → Bool
is_zero v = v == 0

unfoldable pub apply_unary : UnaryOperator → ℕ → ℕ
apply_unary unaries.Plus v = v
apply_unary unaries.Minus v = neg32 v
apply_unary unaries.Complement v = com32 v
apply_unary unaries.Not v = truth (is_zero v)

-- a % b is a - (a / b) * b
abbrev pub remainder_by : Option ℕ → ℕ → ℕ → Option ℕ
remainder_by None a b = None
remainder_by (Some q) a b = Some (sub32 a (mul32 q b))

-- none where it traps; a shift count is taken modulo 32, and a shift to the right copies the sign
unfoldable pub apply : ArithmeticOperator → ℕ → ℕ → Option ℕ
apply ariths.Add a b = Some (add32 a b)
apply ariths.Subtract a b = Some (sub32 a b)
apply ariths.Multiply a b = Some (mul32 a b)
apply ariths.Divide a b = div32 a b
apply ariths.Remainder a b = remainder_by (div32 a b) a b
apply ariths.And a b = Some (and32 a b)
apply ariths.Xor a b = Some (xor32 a b)
apply ariths.Or a b = Some (or32 a b)
apply ariths.ShiftLeft a b = Some (ash32 (and32 b 31) a)
apply ariths.ShiftRight a b = Some (ash32 (neg32 (and32 b 31)) a)

-- the bytes of what a pointer points to, by which numbers are scaled
unfoldable pub scale : CType → ℕ
scale Void = 1
scale (Integer b) = 1
scale (Pointer b n) = size_of (target b n)

unfoldable pub advanced : CType → ℕ → ℕ → ℕ
advanced t p i = add32 p (mul32 i (scale t))

unfoldable pub retreated : CType → ℕ → ℕ → ℕ
retreated t p i = sub32 p (mul32 i (scale t))

unfoldable pub distance : CType → ℕ → ℕ → Option ℕ
distance t p q = div32 (sub32 p q) (scale t)

-- built of numbers, sizes and operators alone
unfoldable pub is_constant : AnExpression → Bool
is_constant (Constant n) = true
is_constant (SizeOfExpression n e) = true
is_constant (SizeOf n) = true
is_constant (UnaryOf op e) = is_constant e
is_constant (CastTo t e) = is_constant e
is_constant (ArithmeticOf op l r) = is_constant l && is_constant r
is_constant (CompareOf rel l r) = is_constant l && is_constant r
is_constant (BothOf l r) = is_constant l && is_constant r
is_constant (EitherOf l r) = is_constant l && is_constant r
is_constant (AdvanceOf t l r) = is_constant l && is_constant r
is_constant (AdvanceByOf t l r) = is_constant l && is_constant r
is_constant (RetreatOf t l r) = is_constant l && is_constant r
is_constant (DistanceOf t l r) = is_constant l && is_constant r
is_constant (ChoiceOf t c l r) = is_constant c && (is_constant l && is_constant r)
is_constant _ = false

abbrev pub option_of : {A : Type 0} → Option A → (A → Option ℕ) → Option ℕ
option_of None f = None
option_of (Some x) f = f x

-- the value, where none traps; only what is needed is evaluated
unfoldable pub value_of : AnExpression → Option ℕ
value_of (Constant n) = Some n
value_of (SizeOfExpression n e) = Some n
value_of (SizeOf n) = Some n
value_of (UnaryOf op e) = option_of (value_of e) (λ v. Some (apply_unary op v))
value_of (CastTo t e) = option_of (value_of e) (λ v. Some (converted t v))
value_of (ArithmeticOf op l r) = option_of (value_of l) (λ a. option_of (value_of r) (λ b. apply op a b))
value_of (CompareOf rel l r) = option_of (value_of l) (λ a. option_of (value_of r) (λ b. Some (truth (holds rel a b))))
value_of (BothOf l r) = option_of (value_of l) (λ a. if is_zero a then Some 0 else option_of (value_of r)
    (λ b. Some (truth (not (is_zero b)))))
value_of (EitherOf l r) = option_of (value_of l) (λ a. if is_zero a then option_of (value_of r)
    (λ b. Some (truth (not (is_zero b)))) else Some 1)
value_of (AdvanceOf t l r) = option_of (value_of l) (λ p. option_of (value_of r) (λ i. Some (advanced t p i)))
value_of (AdvanceByOf t l r) = option_of (value_of l) (λ i. option_of (value_of r) (λ p. Some (advanced t p i)))
value_of (RetreatOf t l r) = option_of (value_of l) (λ p. option_of (value_of r) (λ i. Some (retreated t p i)))
value_of (DistanceOf t l r) = option_of (value_of l) (λ p. option_of (value_of r) (λ q. distance t p q))
value_of (ChoiceOf t c l r) = option_of (value_of c) (λ a. if is_zero a then value_of r else value_of l)
value_of _ = None

-- the value of a constant expression that does not trap
unfoldable pub constant_of : AnExpression → Option ℕ
constant_of x = if is_constant x then value_of x else None
