-- The table of assignments, and what is given to a place, on operands that have their types.
-- assign_of is the rule of C itself, which the relation of typing in c_typed_expressions cites as it stands here.
use Rattle.std.specs.Prelude.{ℕ, ◌&&◌, Result, Ok, if◌then◌else◌}
use Rattle.c_phrases.specs.declared.operator.AssignOperator.{AssignOperator}
use Rattle.c_phrases.specs.declared.operator.AssignOperator.TheVariants as assigns
use Rattle.c_types.specs.declared.types.CType.{CType}
use Rattle.c_types.specs.declared.types.CType.TheVariants.{Integer, Pointer}
use Rattle.c_types.specs.declared.typed.ArithmeticOperator.{ArithmeticOperator}
use Rattle.c_types.specs.declared.typed.ArithmeticOperator.TheVariants as ariths
use Rattle.c_types.specs.declared.fault.TypeKind.TheVariants.{BadType}
use Rattle.c_types.specs.Answers.{Fault, bad}
use Rattle.c_types.specs.Types.{is_integer}
use Rattle.c_types.specs.Typed.{APlace, AnExpression, ReadOf}
use Rattle.c_types.specs.Typed.{ConvertTo}
use Rattle.c_types.specs.Typed.{AssignTo, ArithmeticAssignTo}
use Rattle.c_types.specs.Typed.{AdvanceAssignTo, RetreatAssignTo, place_type, type_of}
use Rattle.c_typed_operators.specs.Rules.{fits}

unfoldable pub store : ℕ → APlace → AnExpression → Result AnExpression Fault
store at p y = if fits (place_type p) y then Ok (AssignTo p y) else bad at BadType

unfoldable pub arithmetic_store : ArithmeticOperator → ℕ → APlace → AnExpression → Result AnExpression Fault
arithmetic_store op at p y = if is_integer (place_type p) && is_integer (type_of y) then Ok (ArithmeticAssignTo op p y) else bad at BadType

abbrev pub plus_store_at : CType → CType → ℕ → APlace → AnExpression → Result AnExpression Fault
plus_store_at (Integer b) (Integer c) at p y = Ok (ArithmeticAssignTo ariths.Add p y)
plus_store_at (Pointer b m) (Integer c) at p y = Ok (AdvanceAssignTo p y)
plus_store_at _ _ at p y = bad at BadType

abbrev pub minus_store_at : CType → CType → ℕ → APlace → AnExpression → Result AnExpression Fault
minus_store_at (Integer b) (Integer c) at p y = Ok (ArithmeticAssignTo ariths.Subtract p y)
minus_store_at (Pointer b m) (Integer c) at p y = Ok (RetreatAssignTo p y)
minus_store_at _ _ at p y = bad at BadType

unfoldable pub plus_store : ℕ → APlace → AnExpression → Result AnExpression Fault
plus_store at p y = plus_store_at (place_type p) (type_of y) at p y

unfoldable pub minus_store : ℕ → APlace → AnExpression → Result AnExpression Fault
minus_store at p y = minus_store_at (place_type p) (type_of y) at p y

-- a compound assignment: as its operator, then as =
unfoldable pub store_by : AssignOperator → ℕ → APlace → AnExpression → Result AnExpression Fault
store_by assigns.Assign at p y = store at p y
store_by assigns.Add at p y = plus_store at p y
store_by assigns.Subtract at p y = minus_store at p y
store_by assigns.Multiply at p y = arithmetic_store ariths.Multiply at p y
store_by assigns.Divide at p y = arithmetic_store ariths.Divide at p y
store_by assigns.Remainder at p y = arithmetic_store ariths.Remainder at p y
store_by assigns.And at p y = arithmetic_store ariths.And at p y
store_by assigns.Xor at p y = arithmetic_store ariths.Xor at p y
store_by assigns.Or at p y = arithmetic_store ariths.Or at p y
store_by assigns.ShiftLeft at p y = arithmetic_store ariths.ShiftLeft at p y
store_by assigns.ShiftRight at p y = arithmetic_store ariths.ShiftRight at p y

-- the left side is a place
unfoldable pub assign_of : AssignOperator → ℕ → AnExpression → AnExpression → Result AnExpression Fault
assign_of op at (ReadOf p) y = store_by op at p y
assign_of op at _ y = bad at BadType

-- an argument, a returned value or an initialiser; the place is its first token's
unfoldable pub given : CType → ℕ → AnExpression → Result AnExpression Fault
given t place x = if fits t x then Ok (ConvertTo t x) else bad place BadType
