-- What the operators of terms compute, on numbers below 2^32, and their order.
use Rattle.std.specs.Prelude.{ℕ, List, codes}
use Rattle.std.specs.Option.{unwrap_or}
use Rattle.gg_base.specs.Arithmetic.{add32, sub32, mul32, and32, or32, xor32, neg32, com32, zext8, zext16, sext8, sext16, div32, ash32}
use Rattle.term_core.specs.declared.operator.UnaryOp.{UnaryOp}
use Rattle.term_core.specs.declared.operator.UnaryOp.TheVariants.{Neg, Com, Zx8, Zx16, Sx8, Sx16}
use Rattle.term_core.specs.declared.operator.BinaryOp.{BinaryOp}
use Rattle.term_core.specs.declared.operator.BinaryOp.TheVariants.{Add, Sub, Mul, Div, And, Or, Xor, Ash}

abbrev pub unary : UnaryOp → ℕ → ℕ
unary Neg n = neg32 n
unary Com n = com32 n
unary Zx8 n = zext8 n
unary Zx16 n = zext16 n
unary Sx8 n = sext8 n
unary Sx16 n = sext16 n

-- a quotient by 0 is taken for 0: who runs a term asks apart whether a divisor is 0
abbrev pub binary : BinaryOp → ℕ → ℕ → ℕ
binary Add m n = add32 m n
binary Sub m n = sub32 m n
binary Mul m n = mul32 m n
binary Div m n = unwrap_or (div32 m n) 0
binary And m n = and32 m n
binary Or m n = or32 m n
binary Xor m n = xor32 m n
binary Ash m n = ash32 m n

abbrev pub unary_rank : UnaryOp → ℕ
unary_rank Neg = 0
unary_rank Com = 1
unary_rank Zx8 = 2
unary_rank Zx16 = 3
unary_rank Sx8 = 4
unary_rank Sx16 = 5

abbrev pub binary_rank : BinaryOp → ℕ
binary_rank Add = 0
binary_rank Sub = 1
binary_rank Mul = 2
binary_rank Div = 3
binary_rank And = 4
binary_rank Or = 5
binary_rank Xor = 6
binary_rank Ash = 7

abbrev pub unary_name : UnaryOp → List ℕ
unary_name Neg = codes "Neg"
unary_name Com = codes "Com"
unary_name Zx8 = codes "Zx8"
unary_name Zx16 = codes "Zx16"
unary_name Sx8 = codes "Sx8"
unary_name Sx16 = codes "Sx16"

abbrev pub binary_name : BinaryOp → List ℕ
binary_name Add = codes "Add"
binary_name Sub = codes "Sub"
binary_name Mul = codes "Mul"
binary_name Div = codes "Div"
binary_name And = codes "And"
binary_name Or = codes "Or"
binary_name Xor = codes "Xor"
binary_name Ash = codes "Ash"
