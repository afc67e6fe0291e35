-- The table of binary operators, on operands that have their types.
-- This is how the code computes it; the rules are the rows of Table. But fits, what a place takes, and plus, which an index takes too,
-- are rules themselves, which others cite.
use Rattle.std.specs.Prelude.{ℕ, Bool, true, false, ◌||◌, ◌&&◌, Result, Ok, if◌then◌else◌}
use Rattle.gg_base.specs.declared.relation.Rel.{Rel}
use Rattle.gg_base.specs.declared.relation.Rel.TheVariants as relations
use Rattle.c_phrases.specs.declared.operator.BinaryOperator.{BinaryOperator}
use Rattle.c_phrases.specs.declared.operator.BinaryOperator.TheVariants as binaries
use Rattle.c_types.specs.declared.types.CType.{CType}
use Rattle.c_types.specs.declared.types.CType.TheVariants.{Void, Integer, Pointer}
use Rattle.c_types.specs.declared.typed.ArithmeticOperator.{ArithmeticOperator}
use Rattle.c_types.specs.declared.typed.ArithmeticOperator.TheVariants as ariths
use Rattle.c_types.specs.declared.fault.TypeKind.TheVariants.{BadType}
use Rattle.c_types.specs.Answers.{Fault, bad}
use Rattle.c_types.specs.Types.{is_integer, is_scalar, same_type}
use Rattle.c_types.specs.Typed.{AnExpression}
use Rattle.c_types.specs.Typed.{ArithmeticOf, CompareOf, BothOf, EitherOf}
use Rattle.c_types.specs.Typed.{AdvanceOf, AdvanceByOf, RetreatOf, DistanceOf}
use Rattle.c_types.specs.Typed.{type_of, is_null}

-- whether a value may be given to a place of this type: an integer to an integer type, a pointer to its own, the null constant to a pointer
unfoldable pub fits : CType → AnExpression → Bool
fits Void x = false
fits (Integer b) x = is_integer (type_of x)
fits (Pointer b n) x = same_type (Pointer b n) (type_of x) || is_null x

-- two integers
unfoldable pub arithmetic : ArithmeticOperator → ℕ → AnExpression → AnExpression → Result AnExpression Fault
arithmetic op at x y = if is_integer (type_of x) && is_integer (type_of y) then Ok (ArithmeticOf op x y) else bad at BadType

-- two integers; a pointer and an integer in either order
abbrev pub plus_at : CType → CType → ℕ → AnExpression → AnExpression → Result AnExpression Fault
plus_at (Integer b) (Integer c) at x y = Ok (ArithmeticOf ariths.Add x y)
plus_at (Integer b) (Pointer c n) at x y = Ok (AdvanceByOf (Pointer c n) x y)
plus_at (Pointer b m) (Integer c) at x y = Ok (AdvanceOf (Pointer b m) x y)
plus_at _ _ at x y = bad at BadType

unfoldable pub plus : ℕ → AnExpression → AnExpression → Result AnExpression Fault
plus at x y = plus_at (type_of x) (type_of y) at x y

-- two integers; a pointer and an integer; two pointers of one type
abbrev pub minus_at : CType → CType → ℕ → AnExpression → AnExpression → Result AnExpression Fault
minus_at (Integer b) (Integer c) at x y = Ok (ArithmeticOf ariths.Subtract x y)
minus_at (Pointer b m) (Integer c) at x y = Ok (RetreatOf (Pointer b m) x y)
minus_at (Pointer b m) (Pointer c n) at x y = if same_type (Pointer b m) (Pointer c n) then Ok (DistanceOf (Pointer b m) x y)
    else bad at BadType
minus_at _ _ at x y = bad at BadType

unfoldable pub minus : ℕ → AnExpression → AnExpression → Result AnExpression Fault
minus at x y = minus_at (type_of x) (type_of y) at x y

-- two integers; two pointers of one type, without sign
abbrev pub order_at : CType → CType → Rel → Rel → ℕ → AnExpression → AnExpression → Result AnExpression Fault
order_at (Integer b) (Integer c) signed unsigned at x y = Ok (CompareOf signed x y)
order_at (Pointer b m) (Pointer c n) signed unsigned at x y = if same_type (Pointer b m) (Pointer c n) then Ok
    (CompareOf unsigned x y) else bad at BadType
order_at _ _ signed unsigned at x y = bad at BadType

unfoldable pub order : Rel → Rel → ℕ → AnExpression → AnExpression → Result AnExpression Fault
order signed unsigned at x y = order_at (type_of x) (type_of y) signed unsigned at x y

-- two integers; two pointers of one type; a pointer and the null constant in either order
abbrev pub are_comparable_at : CType → CType → AnExpression → AnExpression → Bool
are_comparable_at Void t x y = false
are_comparable_at (Integer b) Void x y = false
are_comparable_at (Integer b) (Integer c) x y = true
are_comparable_at (Integer b) (Pointer c n) x y = is_null x
are_comparable_at (Pointer b m) t x y = same_type (Pointer b m) t || is_null y

unfoldable pub are_comparable : AnExpression → AnExpression → Bool
are_comparable x y = are_comparable_at (type_of x) (type_of y) x y

unfoldable pub equality : Rel → ℕ → AnExpression → AnExpression → Result AnExpression Fault
equality rel at x y = if are_comparable x y then Ok (CompareOf rel x y) else bad at BadType

unfoldable pub both : ℕ → AnExpression → AnExpression → Result AnExpression Fault
both at x y = if is_scalar (type_of x) && is_scalar (type_of y) then Ok (BothOf x y) else bad at BadType

unfoldable pub either : ℕ → AnExpression → AnExpression → Result AnExpression Fault
either at x y = if is_scalar (type_of x) && is_scalar (type_of y) then Ok (EitherOf x y) else bad at BadType

unfoldable pub binary_of : BinaryOperator → ℕ → AnExpression → AnExpression → Result AnExpression Fault
binary_of binaries.OrOr at x y = either at x y
binary_of binaries.AndAnd at x y = both at x y
binary_of binaries.Or at x y = arithmetic ariths.Or at x y
binary_of binaries.Xor at x y = arithmetic ariths.Xor at x y
binary_of binaries.And at x y = arithmetic ariths.And at x y
binary_of binaries.Equal at x y = equality relations.Eq at x y
binary_of binaries.NotEqual at x y = equality relations.Ne at x y
binary_of binaries.Less at x y = order relations.Lt relations.Ltu at x y
binary_of binaries.LessEqual at x y = order relations.Le relations.Leu at x y
binary_of binaries.Greater at x y = order relations.Gt relations.Gtu at x y
binary_of binaries.GreaterEqual at x y = order relations.Ge relations.Geu at x y
binary_of binaries.ShiftLeft at x y = arithmetic ariths.ShiftLeft at x y
binary_of binaries.ShiftRight at x y = arithmetic ariths.ShiftRight at x y
binary_of binaries.Add at x y = plus at x y
binary_of binaries.Subtract at x y = minus at x y
binary_of binaries.Multiply at x y = arithmetic ariths.Multiply at x y
binary_of binaries.Divide at x y = arithmetic ariths.Divide at x y
binary_of binaries.Remainder at x y = arithmetic ariths.Remainder at x y
