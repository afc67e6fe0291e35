-- The rows of prefixes, indexes, `++` and `--`.
use Rattle.std.specs.Prelude.{◌≡◌, ℕ, true, Some}
use Rattle.c_phrases.specs.declared.operator.PrefixOperator.{PrefixOperator}
use Rattle.c_phrases.specs.declared.operator.PrefixOperator.TheVariants as prefixes
use Rattle.c_phrases.specs.declared.operator.StepOperator.{StepOperator}
use Rattle.c_types.specs.declared.types.CType.{CType}
use Rattle.c_types.specs.declared.typed.Variable.TheVariants as variables
use Rattle.c_types.specs.declared.typed.UnaryOperator.{UnaryOperator}
use Rattle.c_types.specs.declared.typed.UnaryOperator.TheVariants as unaries
use Rattle.c_types.specs.declared.typed.Moment.{Moment}
use Rattle.c_types.specs.declared.fault.TypeKind.TheVariants.{BadType}
use Rattle.c_types.specs.Answers.{Fault}
use Rattle.c_types.specs.Types.{is_scalar, target, pointer_to}
use Rattle.c_types.specs.Typed.{APlace, VariableAt, PointedBy, ElementBy, AnExpression, ReadOf, AddressOf, StepOf, UnaryOf}
use Rattle.c_types.specs.Typed.{place_type, type_of}
use Rattle.c_typed_operators.specs.Prefixes.{direction}
use Rattle.c_typed_operators.specs.Table.{IsInteger, IsPointer, IsSum, NoRow}

-- `+`, `-` and `~` of an integer
pub record IsUnary (op : UnaryOperator) (x t : AnExpression) : Type 0 where
  pub operand : IsInteger x
  pub is : t ≡ UnaryOf op x

-- `!` of an integer or a pointer
pub record IsNegation (x t : AnExpression) : Type 0 where
  pub operand : is_scalar (type_of x) ≡ true
  pub is : t ≡ UnaryOf unaries.Not x

-- `*` of a pointer: the place that it points to
pub record IsIndirection (x t : AnExpression) : Type 0 where
  pub operand : IsPointer x
  pub is : t ≡ ReadOf (PointedBy (target operand.to operand.stars) x)

-- a place that has an address: no automatic variable and no parameter but a memory local
abbrev pub HasAddress : APlace → Type 0
HasAddress (VariableAt t (variables.Automatic n)) = ⊥
HasAddress (VariableAt t (variables.Parameter n)) = ⊥
HasAddress (VariableAt t (variables.Global n)) = Unit {0}
HasAddress (VariableAt t (variables.Static n)) = Unit {0}
HasAddress (VariableAt t (variables.InBlock o)) = Unit {0}
HasAddress (PointedBy t e) = Unit {0}
HasAddress (ElementBy t e) = Unit {0}

-- `&` of such a place
pub record IsAddress (x t : AnExpression) : Type 0 where
  pub place : APlace
  pub read : x ≡ ReadOf place
  pub fixed : HasAddress place
  pub type : CType
  pub pointer : pointer_to (place_type place) ≡ Some type
  pub is : t ≡ AddressOf type place

abbrev pub IsPrefix : PrefixOperator → AnExpression → AnExpression → Type 0
IsPrefix prefixes.Plus x t = IsUnary unaries.Plus x t
IsPrefix prefixes.Minus x t = IsUnary unaries.Minus x t
IsPrefix prefixes.Complement x t = IsUnary unaries.Complement x t
IsPrefix prefixes.Not x t = IsNegation x t
IsPrefix prefixes.Indirection x t = IsIndirection x t
IsPrefix prefixes.Address x t = IsAddress x t

abbrev pub PrefixFault : PrefixOperator → ℕ → AnExpression → Fault → Type 0
PrefixFault prefixes.Plus at x f = NoRow (IsUnary unaries.Plus x) at BadType f
PrefixFault prefixes.Minus at x f = NoRow (IsUnary unaries.Minus x) at BadType f
PrefixFault prefixes.Complement at x f = NoRow (IsUnary unaries.Complement x) at BadType f
PrefixFault prefixes.Not at x f = NoRow (IsNegation x) at BadType f
PrefixFault prefixes.Indirection at x f = NoRow (IsIndirection x) at BadType f
PrefixFault prefixes.Address at x f = NoRow (IsAddress x) at BadType f

-- `a[i]` means `*(a + i)`
pub record IsIndex (x y t : AnExpression) : Type 0 where
  pub sum : AnExpression
  pub sums : IsSum x y sum
  pub pointer : IsPointer sum
  pub is : t ≡ ReadOf (ElementBy (target pointer.to pointer.stars) sum)

-- `++` and `--` of a place of integer or pointer type
pub record IsStep (moment : Moment) (op : StepOperator) (x t : AnExpression) : Type 0 where
  pub place : APlace
  pub read : x ≡ ReadOf place
  pub scalar : is_scalar (place_type place) ≡ true
  pub is : t ≡ StepOf moment (direction op) place
