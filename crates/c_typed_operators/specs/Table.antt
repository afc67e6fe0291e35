-- The table of binary operators, row by row.
use Rattle.std.specs.Prelude.{◌≡◌, ◌⊎◌, ℕ, true, Result, Ok, Err}
use Rattle.gg_base.specs.declared.relation.Rel.{Rel}
use Rattle.gg_base.specs.declared.relation.Rel.TheVariants as relations
use Rattle.c_phrases.specs.declared.operator.BinaryOperator.{BinaryOperator}
use Rattle.c_phrases.specs.declared.operator.BinaryOperator.TheVariants as binaries
use Rattle.c_types.specs.declared.types.CType.{CType}
use Rattle.c_types.specs.declared.types.CType.TheVariants.{Integer, Pointer}
use Rattle.c_types.specs.declared.types.Integer as integers
use Rattle.c_types.specs.declared.typed.ArithmeticOperator.{ArithmeticOperator}
use Rattle.c_types.specs.declared.typed.ArithmeticOperator.TheVariants as ariths
use Rattle.c_types.specs.declared.fault.TypeKind.{TypeKind}
use Rattle.c_types.specs.declared.fault.TypeFault.{TypeFault}
use Rattle.c_types.specs.declared.fault.TypeFault.TheVariants as type_fault
use Rattle.c_types.specs.Answers.{Fault}
use Rattle.c_types.specs.Types.{same_type}
use Rattle.c_types.specs.Typed.{AnExpression, ArithmeticOf, CompareOf, BothOf, EitherOf, AdvanceOf, AdvanceByOf}
use Rattle.c_types.specs.Typed.{RetreatOf, DistanceOf, type_of, is_null}
use Rattle.c_types.specs.Types.{is_scalar}

-- an operand of an integer type
pub record IsInteger (x : AnExpression) : Type 0 where
  pub of : integers.Integer
  pub is : type_of x ≡ Integer of

-- an operand of a pointer type
pub record IsPointer (x : AnExpression) : Type 0 where
  pub to : integers.Integer
  pub stars : ℕ
  pub is : type_of x ≡ Pointer to stars

-- two pointers of one type
pub record ArePointers (x y : AnExpression) : Type 0 where
  pub left : IsPointer x
  pub right : IsPointer y
  pub same : same_type (type_of x) (type_of y) ≡ true

pub record IsArithmetic (op : ArithmeticOperator) (x y t : AnExpression) : Type 0 where
  pub left : IsInteger x
  pub right : IsInteger y
  pub is : t ≡ ArithmeticOf op x y

-- two integers, or a pointer and an integer in either order
pub data IsSum (x y t : AnExpression) : Type 0 where
  SumOfIntegers : (row : IsArithmetic ariths.Add x y t) → IsSum x y t
  PointerPlus : (left : IsPointer x) (right : IsInteger y) (is : t ≡ AdvanceOf (type_of x) x y) → IsSum x y t
  PlusPointer : (left : IsInteger x) (right : IsPointer y) (is : t ≡ AdvanceByOf (type_of y) x y) → IsSum x y t

-- two integers, a pointer and an integer, or two pointers of one type
pub data IsDifference (x y t : AnExpression) : Type 0 where
  DifferenceOfIntegers : (row : IsArithmetic ariths.Subtract x y t) → IsDifference x y t
  PointerMinus : (left : IsPointer x) (right : IsInteger y) (is : t ≡ RetreatOf (type_of x) x y) → IsDifference x y t
  DifferenceOfPointers : (both : ArePointers x y) (is : t ≡ DistanceOf (type_of x) x y) → IsDifference x y t

-- two integers by the signed relation, or two pointers of one type by the unsigned one
pub data IsOrdered (signed unsigned : Rel) (x y t : AnExpression) : Type 0 where
  OrderOfIntegers : (left : IsInteger x) (right : IsInteger y) (is : t ≡ CompareOf signed x y) → IsOrdered signed unsigned x y t
  OrderOfPointers : (both : ArePointers x y) (is : t ≡ CompareOf unsigned x y) → IsOrdered signed unsigned x y t

-- two integers, two pointers of one type, or a pointer and the null constant in either order
pub data AreComparable (x y : AnExpression) : Type 0 where
  TwoIntegers : (left : IsInteger x) (right : IsInteger y) → AreComparable x y
  TwoPointers : (both : ArePointers x y) → AreComparable x y
  PointerAndNull : (left : IsPointer x) (right : is_null y ≡ true) → AreComparable x y
  NullAndPointer : (left : is_null x ≡ true) (integer : IsInteger x) (right : IsPointer y) → AreComparable x y

pub record IsEquality (rel : Rel) (x y t : AnExpression) : Type 0 where
  pub operands : AreComparable x y
  pub is : t ≡ CompareOf rel x y

-- each an integer or a pointer
pub record IsLogical (whole : AnExpression) (x y t : AnExpression) : Type 0 where
  pub left : is_scalar (type_of x) ≡ true
  pub right : is_scalar (type_of y) ≡ true
  pub is : t ≡ whole

abbrev pub IsBinary : BinaryOperator → AnExpression → AnExpression → AnExpression → Type 0
IsBinary binaries.OrOr x y t = IsLogical (EitherOf x y) x y t
IsBinary binaries.AndAnd x y t = IsLogical (BothOf x y) x y t
IsBinary binaries.Or x y t = IsArithmetic ariths.Or x y t
IsBinary binaries.Xor x y t = IsArithmetic ariths.Xor x y t
IsBinary binaries.And x y t = IsArithmetic ariths.And x y t
IsBinary binaries.Equal x y t = IsEquality relations.Eq x y t
IsBinary binaries.NotEqual x y t = IsEquality relations.Ne x y t
IsBinary binaries.Less x y t = IsOrdered relations.Lt relations.Ltu x y t
IsBinary binaries.LessEqual x y t = IsOrdered relations.Le relations.Leu x y t
IsBinary binaries.Greater x y t = IsOrdered relations.Gt relations.Gtu x y t
IsBinary binaries.GreaterEqual x y t = IsOrdered relations.Ge relations.Geu x y t
IsBinary binaries.ShiftLeft x y t = IsArithmetic ariths.ShiftLeft x y t
IsBinary binaries.ShiftRight x y t = IsArithmetic ariths.ShiftRight x y t
IsBinary binaries.Add x y t = IsSum x y t
IsBinary binaries.Subtract x y t = IsDifference x y t
IsBinary binaries.Multiply x y t = IsArithmetic ariths.Multiply x y t
IsBinary binaries.Divide x y t = IsArithmetic ariths.Divide x y t
IsBinary binaries.Remainder x y t = IsArithmetic ariths.Remainder x y t

-- No row of the table fits.
pub record NoRow {A : Type 0} (R : A → Type 0) (place : ℕ) (kind : TypeKind) (f : Fault) : Type 0 where
  pub none : (t : A) → R t → ⊥
  pub is : f ≡ record { place = place; kind = kind }

-- The definition's answer is what the two relations say.
pub record Means {A : Type 0} (m : Result A Fault) (R : A → Type 0) (F : Fault → Type 0) : Type 0 where
  -- what is answered is so typed
  pub found : (x : A) → m ≡ Ok x → R x
  -- what is so typed is answered
  pub only : (x : A) → R x → m ≡ Ok x
  -- the fault answered is the first one
  pub faults : (f : Fault) → m ≡ Err f → F f
  -- a first fault is answered
  pub first : (f : Fault) → F f → m ≡ Err f

-- What a refusal says: the fault is the first one, unless memory ran out.
abbrev pub Refused : (Fault → Type 0) → TypeFault → Type 0
Refused F type_fault.NoMemory = Unit {0}
Refused F (type_fault.At place kind) = F (record { place = place; kind = kind })

-- The only typed phrase is answered, unless memory ran out.
abbrev pub OnlyAnswer : {X A : Type 0} → (X → A) → Result X TypeFault → A → Type 0
OnlyAnswer view (Ok x) t = t ≡ view x
OnlyAnswer view (Err type_fault.NoMemory) t = Unit {0}
OnlyAnswer view (Err (type_fault.At place kind)) t = ⊥

-- The first fault is answered, unless memory ran out.
abbrev pub OnlyFault : {X : Type 0} → Result X TypeFault → Fault → Type 0
OnlyFault (Ok x) f = ⊥
OnlyFault (Err type_fault.NoMemory) f = Unit {0}
OnlyFault (Err (type_fault.At place kind)) f = f ≡ record { place = place; kind = kind }
