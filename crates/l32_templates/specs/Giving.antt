-- The table of what instructions compute, on terms: one row for each function of the machine.
use Rattle.vax_templates.specs.term_core.specs.declared.operator.UnaryOp.TheVariants.{Neg, Com}
use Rattle.vax_templates.specs.term_core.specs.declared.operator.BinaryOp.TheVariants.{Add, Sub, Mul, Div, And, Or, Xor, Ash}
use Rattle.vax_templates.specs.term_core.specs.Shape.{Shape, Constant, Unary, Binary}
use Rattle.vax_templates.specs.Giving.{Given, Computes, Divides, extended}
use Rattle.l32_machine.specs.declared.function.Function.{Function}
use Rattle.l32_machine.specs.declared.function.Function.TheVariants as functions

-- a shift counts modulo 32
abbrev pub count : Shape → Shape
count t = Binary And t (Constant 31)

-- what is computed of the first and the second operand that are read, in their order in the line
abbrev pub given : Function → Shape → Shape → Given
given functions.Copy x y = Computes x
given (functions.SignExtend size) x y = Computes (extended size x)
given functions.Negate x y = Computes (Unary Neg x)
given functions.Complement x y = Computes (Unary Com x)
given functions.Add x y = Computes (Binary Add x y)
given functions.Subtract x y = Computes (Binary Sub x y)
given functions.Multiply x y = Computes (Binary Mul x y)
given functions.Divide x y = Divides (Binary Div x y) y
given functions.And x y = Computes (Binary And x y)
given functions.Or x y = Computes (Binary Or x y)
given functions.ExclusiveOr x y = Computes (Binary Xor x y)
given functions.ShiftLeft x y = Computes (Binary Ash (count y) x)
given functions.ShiftRight x y = Computes (Binary Ash (Unary Neg (count y)) x)
