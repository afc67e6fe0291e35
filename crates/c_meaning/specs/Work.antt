-- How many steps an expression or a statement takes until the next moment that shows.
use Rattle.std.specs.Prelude.{ℕ, ◌+◌, List, [], ◌∷◌, Option, Some, None}
use Rattle.c_types.specs.Typed.{APlace, VariableAt, PointedBy, ElementBy, AnExpression, Constant, LiteralAt, ArrayAt}
use Rattle.c_types.specs.Typed.{ReadOf, SizeOfExpression, SizeOf, AddressOf, CallOf, StepOf}
use Rattle.c_types.specs.Typed.{UnaryOf, CastTo, ConvertTo, ArithmeticOf, CompareOf, BothOf, EitherOf, AdvanceOf}
use Rattle.c_types.specs.Typed.{AdvanceByOf, RetreatOf, DistanceOf, ChoiceOf, AssignTo}
use Rattle.c_types.specs.Typed.{ArithmeticAssignTo, AdvanceAssignTo, RetreatAssignTo, CommaOf, SomeExpressions}
use Rattle.c_types.specs.Typed.{NoExpressions, MoreExpressions}
use Rattle.c_program.specs.Statements.{ADeclaration, KeepOf, ClearOf, BeginOf, StoreOf, ZerosOf, AnAction}
use Rattle.c_program.specs.Statements.{SomeActions, NoActions, MoreActions, DeclareOf, BlockOf, EvaluateOf, BreakOf, ContinueOf}
use Rattle.c_program.specs.Statements.{ReturnOf, IfOf, IfElseOf, WhileOf, DoOf, ForOf}
use Rattle.c_meaning.specs.Values.{ALoop}

-- the steps until the next moment that shows
abbrev mutual
  pub expression_work : AnExpression → ℕ
  expression_work (Constant n) = 2
  expression_work (LiteralAt n size) = 2
  expression_work (ArrayAt t v size) = 2
  expression_work (ReadOf a) = place_work a + 2
  expression_work (SizeOfExpression n e) = 2
  expression_work (SizeOf n) = 2
  expression_work (AddressOf t a) = place_work a + 2
  expression_work (CallOf t f to es) = arguments_work es
  expression_work (StepOf m by a) = place_work a + 2
  expression_work (UnaryOf op e) = expression_work e + 2
  expression_work (CastTo t e) = expression_work e + 2
  expression_work (ConvertTo t e) = expression_work e + 2
  expression_work (ArithmeticOf op l r) = expression_work l + expression_work r + 2
  expression_work (CompareOf rel l r) = expression_work l + expression_work r + 2
  expression_work (BothOf l r) = expression_work l + expression_work r + 2
  expression_work (EitherOf l r) = expression_work l + expression_work r + 2
  expression_work (AdvanceOf t l r) = expression_work l + expression_work r + 2
  expression_work (AdvanceByOf t l r) = expression_work l + expression_work r + 2
  expression_work (RetreatOf t l r) = expression_work l + expression_work r + 2
  expression_work (DistanceOf t l r) = expression_work l + expression_work r + 2
  expression_work (ChoiceOf t c l r) = expression_work c + (expression_work l + expression_work r) + 2
  expression_work (AssignTo a e) = place_work a + (expression_work e + 2)
  expression_work (ArithmeticAssignTo op a e) = place_work a + (expression_work e + 2)
  expression_work (AdvanceAssignTo a e) = place_work a + (expression_work e + 2)
  expression_work (RetreatAssignTo a e) = place_work a + (expression_work e + 2)
  expression_work (CommaOf t l r) = expression_work l + expression_work r + 2

  pub place_work : APlace → ℕ
  place_work (VariableAt t v) = 0
  place_work (PointedBy t e) = expression_work e + 2
  place_work (ElementBy t e) = expression_work e + 2

  pub arguments_work : SomeExpressions → ℕ
  arguments_work NoExpressions = 2
  arguments_work (MoreExpressions e es) = expression_work e + arguments_work es + 2

abbrev pub maybe_work : Option AnExpression → ℕ
maybe_work None = 0
maybe_work (Some e) = expression_work e

abbrev pub declarations_work : List ADeclaration → ℕ
declarations_work [] = 2
declarations_work (KeepOf object ∷ ds) = declarations_work ds + 1
declarations_work (ClearOf n ∷ ds) = declarations_work ds + 1
declarations_work (BeginOf n e ∷ ds) = expression_work e + declarations_work ds + 2
declarations_work (StoreOf t o e ∷ ds) = expression_work e + declarations_work ds + 2
declarations_work (ZerosOf t o count ∷ ds) = declarations_work ds + 1

abbrev pub loop_work : ALoop → ℕ
loop_work l = maybe_work l.condition + 2

abbrev pub again_to_do : ALoop → ℕ
again_to_do l = maybe_work l.step + loop_work l + 1

abbrev mutual
  pub act_work : AnAction → ℕ
  act_work (DeclareOf ds) = declarations_work ds + 1
  act_work (BlockOf row) = acts_work row + 1
  act_work (EvaluateOf e) = expression_work e + 2
  act_work BreakOf = 2
  act_work ContinueOf = 2
  act_work (ReturnOf e) = maybe_work e + 2
  act_work (IfOf c a) = expression_work c + act_work a + 2
  act_work (IfElseOf c a b) = expression_work c + (act_work a + act_work b) + 2
  act_work (WhileOf c a) = expression_work c + 2
  act_work (DoOf a c) = 0
  act_work (ForOf i c e a) = maybe_work i + maybe_work c + 3

  pub acts_work : SomeActions → ℕ
  acts_work NoActions = 2
  acts_work (MoreActions a row) = act_work a + acts_work row + 2
