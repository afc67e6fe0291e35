-- The table of ? : and the comma, and conditions, on operands that have their types.
-- choice_of and comma_of are rules of C themselves, which the relation of typing in c_typed_expressions cites as they stand here;
-- condition_of is how the code computes it, and its rule is IsCondition of c_typed_law.
use Rattle.std.specs.Prelude.{ℕ, Option, Some, None, Result, Ok, if◌then◌else◌}
use Rattle.c_types.specs.declared.types.CType.{CType}
use Rattle.c_types.specs.declared.types.CType.TheVariants.{Void, Integer, Pointer}
use Rattle.c_types.specs.declared.types.Integer.TheVariants.{Int}
use Rattle.c_types.specs.declared.fault.TypeKind.TheVariants.{BadType}
use Rattle.c_types.specs.Answers.{Fault, bad}
use Rattle.c_types.specs.Types.{is_scalar, same_type}
use Rattle.c_types.specs.Typed.{AnExpression}
use Rattle.c_types.specs.Typed.{ChoiceOf}
use Rattle.c_types.specs.Typed.{CommaOf, type_of, is_null}

-- the type of two arms: both integers, both of one pointer type, a pointer and the null constant, or both void
abbrev pub arms_at : CType → CType → AnExpression → AnExpression → Option CType
arms_at Void Void x y = Some Void
arms_at (Integer b) (Integer c) x y = Some (Integer Int)
arms_at (Integer b) (Pointer c n) x y = if is_null x then Some (Pointer c n) else None
arms_at (Pointer b m) (Integer c) x y = if is_null y then Some (Pointer b m) else None
arms_at (Pointer b m) (Pointer c n) x y = if same_type (Pointer b m) (Pointer c n) then Some (Pointer b m) else None
arms_at _ _ x y = None

unfoldable pub arms : AnExpression → AnExpression → Option CType
arms x y = arms_at (type_of x) (type_of y) x y

abbrev pub choice_by : Option CType → ℕ → AnExpression → AnExpression → AnExpression → Result AnExpression Fault
choice_by None at c x y = bad at BadType
choice_by (Some t) at c x y = Ok (ChoiceOf t c x y)

unfoldable pub choice_of : ℕ → AnExpression → AnExpression → AnExpression → Result AnExpression Fault
choice_of at c x y = if is_scalar (type_of c) then choice_by (arms x y) at c x y else bad at BadType

unfoldable pub comma_of : AnExpression → AnExpression → AnExpression
comma_of x y = CommaOf (type_of y) x y

-- a condition; the place is its first token's
unfoldable pub condition_of : ℕ → AnExpression → Result AnExpression Fault
condition_of place x = if is_scalar (type_of x) then Ok x else bad place BadType
