-- The table of operators with one operand, of indexes, casts and sizes, on operands that have their types.
-- The rows are rules of C themselves: the relation of typing in c_typed_expressions cites them as they stand here.
use Rattle.std.specs.Prelude.{ℕ, Bool, true, false, ◌&&◌, Option, Some, None, Result, Ok, if◌then◌else◌}
use Rattle.c_phrases.specs.declared.operator.PrefixOperator.{PrefixOperator}
use Rattle.c_phrases.specs.declared.operator.PrefixOperator.TheVariants as prefixes
use Rattle.c_phrases.specs.declared.operator.StepOperator.{StepOperator}
use Rattle.c_phrases.specs.declared.operator.StepOperator.TheVariants as steps
use Rattle.c_types.specs.declared.types.CType.{CType}
use Rattle.c_types.specs.declared.types.CType.TheVariants.{Pointer}
use Rattle.c_types.specs.declared.typed.Variable.TheVariants as variables
use Rattle.c_types.specs.declared.typed.UnaryOperator.{UnaryOperator}
use Rattle.c_types.specs.declared.typed.UnaryOperator.TheVariants as unaries
use Rattle.c_types.specs.declared.typed.Moment.{Moment}
use Rattle.c_types.specs.declared.typed.Direction.{Direction}
use Rattle.c_types.specs.declared.typed.Direction.TheVariants as directions
use Rattle.c_types.specs.declared.fault.TypeKind.TheVariants.{BadType}
use Rattle.c_types.specs.Answers.{Fault, bad, ◌>>=◌}
use Rattle.c_types.specs.Types.{is_integer, is_scalar, target, pointer_to, size_of}
use Rattle.c_types.specs.Typed.{APlace, VariableAt, PointedBy, ElementBy, AnExpression, ReadOf, AddressOf, SizeOfExpression}
use Rattle.c_types.specs.Typed.{SizeOf, StepOf, UnaryOf, CastTo}
use Rattle.c_types.specs.Typed.{place_type, type_of, operand_size}
use Rattle.c_typed_operators.specs.Rules.{plus}

unfoldable pub unary : UnaryOperator → ℕ → AnExpression → Result AnExpression Fault
unary op at x = if is_integer (type_of x) then Ok (UnaryOf op x) else bad at BadType

unfoldable pub negation : ℕ → AnExpression → Result AnExpression Fault
negation at x = if is_scalar (type_of x) then Ok (UnaryOf unaries.Not x) else bad at BadType

abbrev pub indirection_at : CType → ℕ → AnExpression → Result AnExpression Fault
indirection_at (Pointer b n) at x = Ok (ReadOf (PointedBy (target b n) x))
indirection_at _ at x = bad at BadType

unfoldable pub indirection : ℕ → AnExpression → Result AnExpression Fault
indirection at x = indirection_at (type_of x) at x

abbrev pub element_at : CType → ℕ → AnExpression → Result AnExpression Fault
element_at (Pointer b n) at sum = Ok (ReadOf (ElementBy (target b n) sum))
element_at _ at sum = bad at BadType

unfoldable pub element : ℕ → AnExpression → Result AnExpression Fault
element at sum = element_at (type_of sum) at sum

-- a[i] means *(a + i)
unfoldable pub index_of : ℕ → AnExpression → AnExpression → Result AnExpression Fault
index_of at x y = plus at x y >>= λ sum. element at sum

abbrev pub address_by : Option CType → ℕ → APlace → Result AnExpression Fault
address_by None at p = bad at BadType
address_by (Some t) at p = Ok (AddressOf t p)

-- a global or static variable, a memory local, *p, or a[i]; any other automatic variable or parameter has no address
unfoldable pub address_of : ℕ → APlace → Result AnExpression Fault
address_of at (VariableAt t (variables.Automatic n)) = bad at BadType
address_of at (VariableAt t (variables.Parameter n)) = bad at BadType
address_of at p = address_by (pointer_to (place_type p)) at p

unfoldable pub address : ℕ → AnExpression → Result AnExpression Fault
address at (ReadOf p) = address_of at p
address at _ = bad at BadType

unfoldable pub prefix_of : PrefixOperator → ℕ → AnExpression → Result AnExpression Fault
prefix_of prefixes.Plus at x = unary unaries.Plus at x
prefix_of prefixes.Minus at x = unary unaries.Minus at x
prefix_of prefixes.Complement at x = unary unaries.Complement at x
prefix_of prefixes.Not at x = negation at x
prefix_of prefixes.Indirection at x = indirection at x
prefix_of prefixes.Address at x = address at x

unfoldable pub direction : StepOperator → Direction
direction steps.Increment = directions.Up
direction steps.Decrement = directions.Down

abbrev pub step_at : Bool → Moment → StepOperator → ℕ → APlace → Result AnExpression Fault
step_at true moment op at p = Ok (StepOf moment (direction op) p)
step_at false moment op at p = bad at BadType

-- a place of integer or pointer type
unfoldable pub step : Moment → StepOperator → ℕ → AnExpression → Result AnExpression Fault
step moment op at (ReadOf p) = step_at (is_scalar (place_type p)) moment op at p
step moment op at _ = bad at BadType

unfoldable pub cast_of : ℕ → CType → AnExpression → Result AnExpression Fault
cast_of at t x = if is_scalar t && is_scalar (type_of x) then Ok (CastTo t x) else bad at BadType

unfoldable pub sizeof_of : ℕ → AnExpression → Result AnExpression Fault
sizeof_of at x = if is_scalar (type_of x) then Ok (SizeOfExpression (operand_size x) x) else bad at BadType

unfoldable pub sizeof_type_of : ℕ → CType → Result AnExpression Fault
sizeof_type_of at t = if is_scalar t then Ok (SizeOf (size_of t)) else bad at BadType
