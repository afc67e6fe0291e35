-- How large phrases are: what a lowering of their parts goes down by.
use Rattle.std.specs.Prelude.{ℕ, ◌+◌}
use Rattle.c_types.specs.Typed.{APlace, VariableAt, PointedBy, ElementBy, AnExpression, Constant, LiteralAt, ArrayAt}
use Rattle.c_types.specs.Typed.{ReadOf, SizeOfExpression, SizeOf, AddressOf, CallOf, StepOf, UnaryOf, CastTo, ConvertTo}
use Rattle.c_types.specs.Typed.{ArithmeticOf, CompareOf, BothOf, EitherOf, AdvanceOf, AdvanceByOf, RetreatOf}
use Rattle.c_types.specs.Typed.{DistanceOf, ChoiceOf, AssignTo, ArithmeticAssignTo, AdvanceAssignTo, RetreatAssignTo}
use Rattle.c_types.specs.Typed.{CommaOf, SomeExpressions, NoExpressions, MoreExpressions}

abbrev mutual
  pub place_size : APlace → ℕ
  place_size (VariableAt t v) = 1
  place_size (PointedBy t e) = 1 + size e
  place_size (ElementBy t e) = 1 + size e

  pub size : AnExpression → ℕ
  size (Constant n) = 1
  size (LiteralAt n bytes) = 1
  size (ArrayAt t v bytes) = 1
  size (ReadOf p) = 1 + place_size p
  size (SizeOfExpression n e) = 1 + size e
  size (SizeOf n) = 1
  size (AddressOf t p) = 1 + place_size p
  size (CallOf t f to es) = 1 + all_size es
  size (StepOf m by p) = 1 + place_size p
  size (UnaryOf op e) = 1 + size e
  size (CastTo t e) = 1 + size e
  size (ConvertTo t e) = 1 + size e
  size (ArithmeticOf op a b) = 1 + size a + size b
  size (CompareOf r a b) = 1 + size a + size b
  size (BothOf a b) = 1 + size a + size b
  size (EitherOf a b) = 1 + size a + size b
  size (AdvanceOf t a b) = 1 + size a + size b
  size (AdvanceByOf t a b) = 1 + size a + size b
  size (RetreatOf t a b) = 1 + size a + size b
  size (DistanceOf t a b) = 1 + size a + size b
  size (ChoiceOf t c a b) = 1 + size c + size a + size b
  size (AssignTo p e) = 1 + place_size p + size e
  size (ArithmeticAssignTo op p e) = 1 + place_size p + size e
  size (AdvanceAssignTo p e) = 1 + place_size p + size e
  size (RetreatAssignTo p e) = 1 + place_size p + size e
  size (CommaOf t a b) = 1 + size a + size b

  pub all_size : SomeExpressions → ℕ
  all_size NoExpressions = 1
  all_size (MoreExpressions e es) = 1 + size e + all_size es
