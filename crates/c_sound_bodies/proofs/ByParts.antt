-- What holds of each expression because it holds of its parts.
use Rattle.std.proofs.Common.{◌≡◌, ℕ, ◌<◌, ◌^◌, List, length}
use Rattle.c_tokens.specs.declared.token.Token.{Token}
use Rattle.c_tokens.specs.declared.token.Token.TheVariants as token
use Rattle.gg_base.specs.declared.relation.Rel.{Rel}
use Rattle.c_types.specs.declared.types.CType.{CType}
use Rattle.c_types.specs.declared.typed.Variable.{Variable}
use Rattle.c_types.specs.declared.typed.Callee.{Callee}
use Rattle.c_types.specs.declared.typed.Moment.{Moment}
use Rattle.c_types.specs.declared.typed.Direction.{Direction}
use Rattle.c_types.specs.declared.typed.UnaryOperator.{UnaryOperator}
use Rattle.c_types.specs.declared.typed.ArithmeticOperator.{ArithmeticOperator}
use Rattle.c_types.specs.Types.{size_of}
use Rattle.c_types.specs.Typed.{APlace, VariableAt, PointedBy, ElementBy, AnExpression, Constant, LiteralAt, ArrayAt, ReadOf, SizeOfExpression, SizeOf, AddressOf, CallOf, StepOf}
use Rattle.c_types.specs.Typed.{UnaryOf, CastTo, ConvertTo, ArithmeticOf, CompareOf, BothOf, EitherOf, AdvanceOf, AdvanceByOf, RetreatOf, DistanceOf, ChoiceOf, AssignTo}
use Rattle.c_types.specs.Typed.{ArithmeticAssignTo, AdvanceAssignTo, RetreatAssignTo, CommaOf, SomeExpressions, NoExpressions, MoreExpressions, operand_size}
use Rattle.c_sound.specs.Stands.{arguments, IsAddition}

-- of each argument
abbrev pub Every : (AnExpression → Type 0) → SomeExpressions → Type 0
Every P NoExpressions = Unit {0}
Every P (MoreExpressions e es) = P e × Every P es

-- where something holds of each token, variables are known, calls have their functions, and there are so many objects; what holds of a place is what holds of reading it
pub record Closed (T : Token → Type 0) (known : Variable → ℕ → Type 0) (calls : Callee → ℕ → Type 0) (objects : ℕ) (P : AnExpression → Type 0) : Type 0 where
  pub number : (n : ℕ) → T (token.Number n) → P (Constant n)
  pub literal : (n size : ℕ) → n < objects → size < 2 ^ 32 → P (LiteralAt n size)
  pub array : (t : CType) (v : Variable) (size : ℕ) → known v size → P (ArrayAt t v size)
  pub variable : (t : CType) (v : Variable) → known v 0 → P (ReadOf (VariableAt t v))
  pub pointed : (t : CType) (x : AnExpression) → P x → P (ReadOf (PointedBy t x))
  pub element : (t : CType) (x : AnExpression) → IsAddition x → P x → P (ReadOf (ElementBy t x))
  pub size_of_expression : (x : AnExpression) → P x → P (SizeOfExpression (operand_size x) x)
  pub size : (t : CType) → P (SizeOf (size_of t))
  pub address : (t : CType) (p : APlace) → P (ReadOf p) → P (AddressOf t p)
  pub call : (t : CType) (f : Callee) (to : List CType) (es : SomeExpressions) → calls f (length to) → arguments es ≡ length to → Every P es →
      P (CallOf t f to es)
  pub step : (m : Moment) (by : Direction) (p : APlace) → P (ReadOf p) → P (StepOf m by p)
  pub unary : (op : UnaryOperator) (x : AnExpression) → P x → P (UnaryOf op x)
  pub cast : (t : CType) (x : AnExpression) → P x → P (CastTo t x)
  pub convert : (t : CType) (x : AnExpression) → P x → P (ConvertTo t x)
  pub arithmetic : (op : ArithmeticOperator) (x y : AnExpression) → P x → P y → P (ArithmeticOf op x y)
  pub compare : (rel : Rel) (x y : AnExpression) → P x → P y → P (CompareOf rel x y)
  pub both : (x y : AnExpression) → P x → P y → P (BothOf x y)
  pub either : (x y : AnExpression) → P x → P y → P (EitherOf x y)
  pub advance : (t : CType) (x y : AnExpression) → P x → P y → P (AdvanceOf t x y)
  pub advance_by : (t : CType) (x y : AnExpression) → P x → P y → P (AdvanceByOf t x y)
  pub retreat : (t : CType) (x y : AnExpression) → P x → P y → P (RetreatOf t x y)
  pub distance : (t : CType) (x y : AnExpression) → P x → P y → P (DistanceOf t x y)
  pub choice : (t : CType) (z x y : AnExpression) → P z → P x → P y → P (ChoiceOf t z x y)
  pub assign : (p : APlace) (y : AnExpression) → P (ReadOf p) → P y → P (AssignTo p y)
  pub arithmetic_assign : (op : ArithmeticOperator) (p : APlace) (y : AnExpression) → P (ReadOf p) → P y → P (ArithmeticAssignTo op p y)
  pub advance_assign : (p : APlace) (y : AnExpression) → P (ReadOf p) → P y → P (AdvanceAssignTo p y)
  pub retreat_assign : (p : APlace) (y : AnExpression) → P (ReadOf p) → P y → P (RetreatAssignTo p y)
  pub comma : (t : CType) (x y : AnExpression) → P x → P y → P (CommaOf t x y)
