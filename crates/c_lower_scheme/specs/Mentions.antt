-- Where an expression names a local.
use Rattle.std.specs.Prelude.{ℕ, ◌==◌, Bool, false, ◌||◌}
use Rattle.c_types.specs.declared.typed.Variable.{Variable}
use Rattle.c_types.specs.declared.typed.Variable.TheVariants as variables
use Rattle.c_types.specs.Typed.{APlace, VariableAt, PointedBy, ElementBy, AnExpression, Constant, LiteralAt, ArrayAt}
use Rattle.c_types.specs.Typed.{ReadOf, SizeOfExpression, SizeOf, AddressOf, CallOf, StepOf, UnaryOf, CastTo, ConvertTo}
use Rattle.c_types.specs.Typed.{ArithmeticOf, CompareOf, BothOf, EitherOf, AdvanceOf, AdvanceByOf, RetreatOf}
use Rattle.c_types.specs.Typed.{DistanceOf, ChoiceOf, AssignTo, ArithmeticAssignTo, AdvanceAssignTo, RetreatAssignTo}
use Rattle.c_types.specs.Typed.{CommaOf, SomeExpressions, NoExpressions, MoreExpressions}

-- an automatic local stands in an expression
abbrev pub is_local : ℕ → Variable → Bool
is_local n (variables.Automatic m) = m == n
is_local n (variables.Parameter m) = false
is_local n (variables.Global m) = false
is_local n (variables.Static m) = false
is_local n (variables.InBlock o) = false

abbrev mutual
  pub place_mentions : ℕ → APlace → Bool
  place_mentions n (VariableAt t v) = is_local n v
  place_mentions n (PointedBy t e) = mentions n e
  place_mentions n (ElementBy t e) = mentions n e

  pub mentions : ℕ → AnExpression → Bool
  mentions n (Constant v) = false
  mentions n (LiteralAt object size) = false
  mentions n (ArrayAt t v size) = is_local n v
  mentions n (ReadOf p) = place_mentions n p
  mentions n (SizeOfExpression v e) = false
  mentions n (SizeOf v) = false
  mentions n (AddressOf t p) = place_mentions n p
  mentions n (CallOf t f to es) = any_mentions n es
  mentions n (StepOf m by p) = place_mentions n p
  mentions n (UnaryOf op e) = mentions n e
  mentions n (CastTo t e) = mentions n e
  mentions n (ConvertTo t e) = mentions n e
  mentions n (ArithmeticOf op l r) = mentions n l || mentions n r
  mentions n (CompareOf rel l r) = mentions n l || mentions n r
  mentions n (BothOf l r) = mentions n l || mentions n r
  mentions n (EitherOf l r) = mentions n l || mentions n r
  mentions n (AdvanceOf t l r) = mentions n l || mentions n r
  mentions n (AdvanceByOf t l r) = mentions n l || mentions n r
  mentions n (RetreatOf t l r) = mentions n l || mentions n r
  mentions n (DistanceOf t l r) = mentions n l || mentions n r
  mentions n (ChoiceOf t c l r) = mentions n c || (mentions n l || mentions n r)
  mentions n (AssignTo p e) = place_mentions n p || mentions n e
  mentions n (ArithmeticAssignTo op p e) = place_mentions n p || mentions n e
  mentions n (AdvanceAssignTo p e) = place_mentions n p || mentions n e
  mentions n (RetreatAssignTo p e) = place_mentions n p || mentions n e
  mentions n (CommaOf t l r) = mentions n l || mentions n r

  pub any_mentions : ℕ → SomeExpressions → Bool
  any_mentions n NoExpressions = false
  any_mentions n (MoreExpressions e es) = mentions n e || any_mentions n es
