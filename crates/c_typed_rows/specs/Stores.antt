-- The rows of assignments. The left side is a place.
use Rattle.std.specs.Prelude.{◌≡◌, ℕ}
use Rattle.c_phrases.specs.declared.operator.AssignOperator.{AssignOperator}
use Rattle.c_phrases.specs.declared.operator.AssignOperator.TheVariants as assigns
use Rattle.c_types.specs.declared.types.CType.TheVariants.{Integer, Pointer}
use Rattle.c_types.specs.declared.types.Integer as integers
use Rattle.c_types.specs.declared.typed.ArithmeticOperator.{ArithmeticOperator}
use Rattle.c_types.specs.declared.typed.ArithmeticOperator.TheVariants as ariths
use Rattle.c_types.specs.Typed.{APlace, AnExpression, ReadOf, AssignTo, ArithmeticAssignTo, AdvanceAssignTo, RetreatAssignTo, place_type}
use Rattle.c_typed_operators.specs.Table.{IsInteger}
use Rattle.c_typed_rows.specs.Operands.{Takes}

-- `=`: what the place takes
pub record IsAssignment (p : APlace) (y t : AnExpression) : Type 0 where
  pub taken : Takes (place_type p) y
  pub is : t ≡ AssignTo p y

-- a compound assignment of two integers
pub record IsArithmeticStore (op : ArithmeticOperator) (p : APlace) (y t : AnExpression) : Type 0 where
  pub of : integers.Integer
  pub place : place_type p ≡ Integer of
  pub value : IsInteger y
  pub is : t ≡ ArithmeticAssignTo op p y

-- `+=` and `-=` also of a pointer and an integer
pub data IsSumStore (p : APlace) (y t : AnExpression) : Type 0 where
  AddsIntegers : (row : IsArithmeticStore ariths.Add p y t) → IsSumStore p y t
  Advances : (to : integers.Integer) (stars : ℕ) (place : place_type p ≡ Pointer to stars) (value : IsInteger y)
      (is : t ≡ AdvanceAssignTo p y) → IsSumStore p y t

pub data IsDifferenceStore (p : APlace) (y t : AnExpression) : Type 0 where
  SubtractsIntegers : (row : IsArithmeticStore ariths.Subtract p y t) → IsDifferenceStore p y t
  Retreats : (to : integers.Integer) (stars : ℕ) (place : place_type p ≡ Pointer to stars) (value : IsInteger y)
      (is : t ≡ RetreatAssignTo p y) → IsDifferenceStore p y t

abbrev pub IsStore : AssignOperator → APlace → AnExpression → AnExpression → Type 0
IsStore assigns.Assign p y t = IsAssignment p y t
IsStore assigns.Add p y t = IsSumStore p y t
IsStore assigns.Subtract p y t = IsDifferenceStore p y t
IsStore assigns.Multiply p y t = IsArithmeticStore ariths.Multiply p y t
IsStore assigns.Divide p y t = IsArithmeticStore ariths.Divide p y t
IsStore assigns.Remainder p y t = IsArithmeticStore ariths.Remainder p y t
IsStore assigns.And p y t = IsArithmeticStore ariths.And p y t
IsStore assigns.Xor p y t = IsArithmeticStore ariths.Xor p y t
IsStore assigns.Or p y t = IsArithmeticStore ariths.Or p y t
IsStore assigns.ShiftLeft p y t = IsArithmeticStore ariths.ShiftLeft p y t
IsStore assigns.ShiftRight p y t = IsArithmeticStore ariths.ShiftRight p y t

pub record IsAssign (op : AssignOperator) (x y t : AnExpression) : Type 0 where
  pub place : APlace
  pub read : x ≡ ReadOf place
  pub store : IsStore op place y t
