-- Typed phrases as plain data.
use Rattle.std.specs.Prelude.{ℕ, Bool, false, ◌==◌, List, [], ◌∷◌}
use Rattle.gg_base.specs.declared.relation.Rel.{Rel}
use Rattle.c_types.specs.declared.types.CType.{CType}
use Rattle.c_types.specs.declared.types.CType.TheVariants as types
use Rattle.c_types.specs.declared.types.Integer.TheVariants as ints
use Rattle.c_types.specs.declared.typed.Variable.{Variable}
use Rattle.c_types.specs.declared.typed.Callee.{Callee}
use Rattle.c_types.specs.declared.typed.UnaryOperator.{UnaryOperator}
use Rattle.c_types.specs.declared.typed.ArithmeticOperator.{ArithmeticOperator}
use Rattle.c_types.specs.declared.typed.Moment.{Moment}
use Rattle.c_types.specs.declared.typed.Direction.{Direction}
use Rattle.c_types.specs.declared.typed.Place.{Place}
use Rattle.c_types.specs.declared.typed.Place.TheVariants as places
use Rattle.c_types.specs.declared.typed.Expression.{Expression, Row_of-Expression, end_of-Expression, more_of-Expression}
use Rattle.c_types.specs.declared.typed.Expression.TheVariants as expression
use Rattle.c_types.specs.Types.{size_of}

mutual
  pub data APlace : Type 0 where
    VariableAt : (t : CType) (v : Variable) → APlace
    PointedBy : (t : CType) (e : AnExpression) → APlace
    ElementBy : (t : CType) (sum : AnExpression) → APlace

  pub data AnExpression : Type 0 where
    Constant : (n : ℕ) → AnExpression
    LiteralAt : (object : ℕ) (size : ℕ) → AnExpression
    ArrayAt : (t : CType) (v : Variable) (size : ℕ) → AnExpression
    ReadOf : (p : APlace) → AnExpression
    SizeOfExpression : (n : ℕ) (e : AnExpression) → AnExpression
    SizeOf : (n : ℕ) → AnExpression
    AddressOf : (t : CType) (p : APlace) → AnExpression
    CallOf : (t : CType) (f : Callee) (to : List CType) (es : SomeExpressions) → AnExpression
    StepOf : (m : Moment) (by : Direction) (p : APlace) → AnExpression
    UnaryOf : (op : UnaryOperator) (e : AnExpression) → AnExpression
    CastTo : (t : CType) (e : AnExpression) → AnExpression
    ConvertTo : (t : CType) (e : AnExpression) → AnExpression
    ArithmeticOf : (op : ArithmeticOperator) (l : AnExpression) (r : AnExpression) → AnExpression
    CompareOf : (rel : Rel) (l : AnExpression) (r : AnExpression) → AnExpression
    BothOf : (l : AnExpression) (r : AnExpression) → AnExpression
    EitherOf : (l : AnExpression) (r : AnExpression) → AnExpression
    AdvanceOf : (t : CType) (l : AnExpression) (r : AnExpression) → AnExpression
    AdvanceByOf : (t : CType) (l : AnExpression) (r : AnExpression) → AnExpression
    RetreatOf : (t : CType) (l : AnExpression) (r : AnExpression) → AnExpression
    DistanceOf : (t : CType) (l : AnExpression) (r : AnExpression) → AnExpression
    ChoiceOf : (t : CType) (c : AnExpression) (l : AnExpression) (r : AnExpression) → AnExpression
    AssignTo : (p : APlace) (e : AnExpression) → AnExpression
    ArithmeticAssignTo : (op : ArithmeticOperator) (p : APlace) (e : AnExpression) → AnExpression
    AdvanceAssignTo : (p : APlace) (e : AnExpression) → AnExpression
    RetreatAssignTo : (p : APlace) (e : AnExpression) → AnExpression
    CommaOf : (t : CType) (l : AnExpression) (r : AnExpression) → AnExpression

  pub data SomeExpressions : Type 0 where
    NoExpressions : SomeExpressions
    MoreExpressions : (e : AnExpression) (rest : SomeExpressions) → SomeExpressions

abbrev mutual
  pub place_of : Place → APlace
  place_of (places.Variable t v) = VariableAt t v
  place_of (places.Indirection' t q e) = PointedBy t (expression_of e)
  place_of (places.Index' t q e) = ElementBy t (expression_of e)

  pub expression_of : Expression → AnExpression
  expression_of (expression.Number n) = Constant n
  expression_of (expression.Literal object size) = LiteralAt object size
  expression_of (expression.Array t v size) = ArrayAt t v size
  expression_of (expression.Read p) = ReadOf (place_of p)
  expression_of (expression.SizeofExpression' n q1 e) = SizeOfExpression n (expression_of e)
  expression_of (expression.SizeofType n) = SizeOf n
  expression_of (expression.Address t p) = AddressOf t (place_of p)
  expression_of (expression.Call' t f to shape row) = CallOf t f to (expressions_in row)
  expression_of (expression.Step m by p) = StepOf m by (place_of p)
  expression_of (expression.Unary' op q1 e) = UnaryOf op (expression_of e)
  expression_of (expression.Cast' t q1 e) = CastTo t (expression_of e)
  expression_of (expression.Convert' t q1 e) = ConvertTo t (expression_of e)
  expression_of (expression.Arithmetic' op q1 l q2 r) = ArithmeticOf op (expression_of l) (expression_of r)
  expression_of (expression.Compare' rel q1 l q2 r) = CompareOf rel (expression_of l) (expression_of r)
  expression_of (expression.AndAnd' q1 l q2 r) = BothOf (expression_of l) (expression_of r)
  expression_of (expression.OrOr' q1 l q2 r) = EitherOf (expression_of l) (expression_of r)
  expression_of (expression.Advance' t q1 l q2 r) = AdvanceOf t (expression_of l) (expression_of r)
  expression_of (expression.AdvanceBy' t q1 l q2 r) = AdvanceByOf t (expression_of l) (expression_of r)
  expression_of (expression.Retreat' t q1 l q2 r) = RetreatOf t (expression_of l) (expression_of r)
  expression_of (expression.Distance' t q1 l q2 r) = DistanceOf t (expression_of l) (expression_of r)
  expression_of (expression.Choice' t q1 c q2 l q3 r) = ChoiceOf t (expression_of c) (expression_of l) (expression_of r)
  expression_of (expression.Assign' p q1 e) = AssignTo (place_of p) (expression_of e)
  expression_of (expression.ArithmeticAssign' op p q1 e) = ArithmeticAssignTo op (place_of p) (expression_of e)
  expression_of (expression.AdvanceAssign' p q1 e) = AdvanceAssignTo (place_of p) (expression_of e)
  expression_of (expression.RetreatAssign' p q1 e) = RetreatAssignTo (place_of p) (expression_of e)
  expression_of (expression.Comma' t q1 l q2 r) = CommaOf t (expression_of l) (expression_of r)

  pub expressions_in : {m : _} → Row_of-Expression m → SomeExpressions
  expressions_in end_of-Expression = NoExpressions
  expressions_in (more_of-Expression e rest) = MoreExpressions (expression_of e) (expressions_in rest)

abbrev pub expressions_of : List Expression → SomeExpressions
expressions_of [] = NoExpressions
expressions_of (e ∷ rest) = MoreExpressions (expression_of e) (expressions_of rest)

-- the type of what is kept in a place
unfoldable pub place_type : APlace → CType
place_type (VariableAt t v) = t
place_type (PointedBy t e) = t
place_type (ElementBy t e) = t

-- the type of a value
unfoldable pub type_of : AnExpression → CType
type_of (Constant n) = types.Integer ints.Int
type_of (LiteralAt object size) = types.Pointer ints.Char 0
type_of (ArrayAt t v size) = t
type_of (ReadOf p) = place_type p
type_of (SizeOfExpression n e) = types.Integer ints.Int
type_of (SizeOf n) = types.Integer ints.Int
type_of (AddressOf t p) = t
type_of (CallOf t f to es) = t
type_of (StepOf m by p) = place_type p
type_of (UnaryOf op e) = types.Integer ints.Int
type_of (CastTo t e) = t
type_of (ConvertTo t e) = t
type_of (ArithmeticOf op l r) = types.Integer ints.Int
type_of (CompareOf rel l r) = types.Integer ints.Int
type_of (BothOf l r) = types.Integer ints.Int
type_of (EitherOf l r) = types.Integer ints.Int
type_of (AdvanceOf t l r) = t
type_of (AdvanceByOf t l r) = t
type_of (RetreatOf t l r) = t
type_of (DistanceOf t l r) = types.Integer ints.Int
type_of (ChoiceOf t c l r) = t
type_of (AssignTo p e) = place_type p
type_of (ArithmeticAssignTo op p e) = place_type p
type_of (AdvanceAssignTo p e) = place_type p
type_of (RetreatAssignTo p e) = place_type p
type_of (CommaOf t l r) = t

-- the number 0 as it is written
unfoldable pub is_null : AnExpression → Bool
is_null (Constant n) = n == 0
is_null _ = false

-- what `sizeof` makes of an operand
unfoldable pub operand_size : AnExpression → ℕ
operand_size (ArrayAt t v size) = size
operand_size (LiteralAt object size) = size
operand_size e = size_of (type_of e)
