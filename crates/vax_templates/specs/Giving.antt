-- The table of what instructions compute, on terms: one row for each function of the machine.
use Rattle.gg_base.specs.declared.size.Size.{Size}
use Rattle.gg_base.specs.declared.size.Size.TheVariants.{Byte, Word, Long}
use Rattle.sel_target.specs.term_core.specs.declared.operator.UnaryOp.TheVariants.{Neg, Com, Zx8, Zx16, Sx8, Sx16}
use Rattle.sel_target.specs.term_core.specs.declared.operator.BinaryOp.TheVariants.{Add, Sub, Mul, Div, And, Or, Xor, Ash}
use Rattle.sel_target.specs.term_core.specs.Shape.{Shape, Constant, Unary, Binary}
use Rattle.vax_machine.specs.declared.function.Function.{Function}
use Rattle.vax_machine.specs.declared.function.Function.TheVariants as functions

-- a result; a quotient with its divisor; the two numbers that are compared; or the number whose sign and zero are tested
pub data Given : Type 0 where
  Computes : (t : Shape) → Given
  Divides : (t divisor : Shape) → Given
  Compares : (a b : Shape) → Given
  Tests : (t : Shape) → Given

-- a number of this size as a longword of the same sign
abbrev pub extended : Size → Shape → Shape
extended Byte t = Unary Sx8 t
extended Word t = Unary Sx16 t
extended Long t = t

-- the low part of a number at this size: so a number or a register is read
abbrev pub truncated : Size → Shape → Shape
truncated Byte t = Unary Zx8 t
truncated Word t = Unary Zx16 t
truncated Long t = t

-- what is computed of the first and the second operand
abbrev pub given : Function → Shape → Shape → Given
given (functions.Copy size) a b = Computes a
given functions.Clear a b = Computes (Constant 0)
given functions.Negate a b = Computes (Unary Neg a)
given functions.Complement a b = Computes (Unary Com a)
given (functions.SignExtend size) a b = Computes (extended size a)
given (functions.Truncate size) a b = Computes (truncated size a)
given functions.Add a b = Computes (Binary Add a b)
given functions.Subtract a b = Computes (Binary Sub b a)
given functions.Multiply a b = Computes (Binary Mul a b)
given functions.Divide a b = Divides (Binary Div b a) a
given functions.Increment a b = Computes (Binary Add a (Constant 1))
given functions.Decrement a b = Computes (Binary Sub a (Constant 1))
given functions.BitSet a b = Computes (Binary Or a b)
given functions.BitClear a b = Computes (Binary And b (Unary Com a))
given functions.ExclusiveOr a b = Computes (Binary Xor a b)
given functions.BitTest a b = Tests (Binary And a b)
given functions.Shift a b = Computes (Binary Ash a b)
given (functions.Compare size) a b = Compares (extended size a) (extended size b)
given (functions.CompareWithZero size) a b = Compares (extended size a) (Constant 0)
