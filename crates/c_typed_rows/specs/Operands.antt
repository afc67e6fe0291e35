-- What places take, and which two values are the arms of a choice.
use Rattle.std.specs.Prelude.{◌≡◌, ℕ, true}
use Rattle.c_types.specs.declared.types.CType.{CType}
use Rattle.c_types.specs.declared.types.CType.TheVariants.{Void, Integer, Pointer}
use Rattle.c_types.specs.declared.types.Integer as integers
use Rattle.c_types.specs.declared.types.Integer.TheVariants.{Int}
use Rattle.c_types.specs.Types.{is_scalar, same_type}
use Rattle.c_types.specs.Typed.{AnExpression, ConvertTo, ChoiceOf, CastTo, SizeOfExpression, SizeOf, type_of, is_null, operand_size}
use Rattle.c_types.specs.Types.{size_of}
use Rattle.c_typed_operators.specs.Table.{IsInteger, IsPointer, ArePointers}

-- A place of a type takes a value: an integer type an integer, a pointer type a pointer of its own type or the null constant.
pub data Takes (t : CType) (x : AnExpression) : Type 0 where
  AnInteger : (place : integers.Integer) (is : t ≡ Integer place) (value : IsInteger x) → Takes t x
  ItsPointer : (to : integers.Integer) (stars : ℕ) (is : t ≡ Pointer to stars) (same : same_type t (type_of x) ≡ true) → Takes t x
  TheNull : (to : integers.Integer) (stars : ℕ) (is : t ≡ Pointer to stars) (null : is_null x ≡ true) → Takes t x

-- an argument, a returned value or an initialiser, converted to the type of its place
pub record IsGiven (t : CType) (x u : AnExpression) : Type 0 where
  pub taken : Takes t x
  pub is : u ≡ ConvertTo t x

-- both integers, both of one pointer type, a pointer and the null constant in either order, or both void
pub data AreArms (x y : AnExpression) (t : CType) : Type 0 where
  TwoIntegers : (left : IsInteger x) (right : IsInteger y) (is : t ≡ Integer Int) → AreArms x y t
  TwoPointers : (both : ArePointers x y) (is : t ≡ type_of x) → AreArms x y t
  PointerAndNull : (left : IsPointer x) (right : IsInteger y) (null : is_null y ≡ true) (is : t ≡ type_of x) → AreArms x y t
  NullAndPointer : (left : IsInteger x) (null : is_null x ≡ true) (right : IsPointer y) (is : t ≡ type_of y) → AreArms x y t
  BothVoid : (left : type_of x ≡ Void) (right : type_of y ≡ Void) (is : t ≡ Void) → AreArms x y t

-- an integer or a pointer decides between two arms
pub record IsChoice (c x y t : AnExpression) : Type 0 where
  pub condition : is_scalar (type_of c) ≡ true
  pub type : CType
  pub arms : AreArms x y type
  pub is : t ≡ ChoiceOf type c x y

-- from an integer or a pointer, to an integer or a pointer type
pub record IsCast (to : CType) (x t : AnExpression) : Type 0 where
  pub type : is_scalar to ≡ true
  pub operand : is_scalar (type_of x) ≡ true
  pub is : t ≡ CastTo to x

-- the size of an integer or a pointer, and of an integer or a pointer type
pub record IsSize (x t : AnExpression) : Type 0 where
  pub operand : is_scalar (type_of x) ≡ true
  pub is : t ≡ SizeOfExpression (operand_size x) x

pub record IsSizeOfType (of : CType) (t : AnExpression) : Type 0 where
  pub type : is_scalar of ≡ true
  pub is : t ≡ SizeOf (size_of of)
