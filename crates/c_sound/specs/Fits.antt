-- Expressions and statements in which each automatic local is in scope, each number is a longword, and each jump has a loop around it.
use Rattle.std.specs.Prelude.{◌≡◌, ◌⊎◌, ℕ, ◌<◌, ◌≤◌, ◌^◌, List, [], ◌∷◌, Option, Some, None, Bool, true}
use Rattle.std.specs.List.{AllByRecursion}
use Rattle.c_types.specs.declared.types.CType.{CType}
use Rattle.c_types.specs.Types.{is_scalar}
use Rattle.c_types.specs.declared.typed.Variable.{Variable}
use Rattle.c_types.specs.declared.typed.Variable.TheVariants as variables
use Rattle.c_types.specs.Typed.{APlace, VariableAt, PointedBy, ElementBy, AnExpression, Constant, LiteralAt, ArrayAt}
use Rattle.c_types.specs.Typed.{ReadOf, SizeOfExpression, SizeOf, AddressOf, CallOf, StepOf}
use Rattle.c_types.specs.Typed.{UnaryOf, CastTo, ConvertTo, ArithmeticOf, CompareOf, BothOf, EitherOf, AdvanceOf}
use Rattle.c_types.specs.Typed.{AdvanceByOf, RetreatOf, DistanceOf, ChoiceOf, AssignTo}
use Rattle.c_types.specs.Typed.{ArithmeticAssignTo, AdvanceAssignTo, RetreatAssignTo, CommaOf, SomeExpressions}
use Rattle.c_types.specs.Typed.{NoExpressions, MoreExpressions}
use Rattle.c_program.specs.Statements.{ADeclaration, KeepOf, ClearOf, BeginOf, StoreOf, ZerosOf, AnAction}
use Rattle.c_program.specs.Statements.{SomeActions, NoActions, MoreActions, DeclareOf, BlockOf, EvaluateOf, BreakOf, ContinueOf}
use Rattle.c_program.specs.Statements.{ReturnOf, IfOf, IfElseOf, WhileOf, DoOf, ForOf}

-- bytes, and longwords
abbrev pub AreBytes : List ℕ → Type 0
AreBytes bs = AllByRecursion (λ (b : ℕ). b < 256) bs

-- a variable's automatic local is in scope
abbrev pub StandsIn : (ℕ → Type 0) → Variable → Type 0
StandsIn scope (variables.Automatic n) = scope n
StandsIn scope (variables.Parameter n) = Unit {0}
StandsIn scope (variables.Global n) = Unit {0}
StandsIn scope (variables.Static n) = Unit {0}
StandsIn scope (variables.InBlock o) = Unit {0}

-- Each automatic local that an expression names is in scope, each number is a longword, and each call has as many arguments as parameters.
abbrev mutual
  pub FitsAt : (ℕ → Type 0) → APlace → Type 0
  FitsAt scope (VariableAt t v) = StandsIn scope v
  FitsAt scope (PointedBy t e) = Fits scope e
  FitsAt scope (ElementBy t e) = Fits scope e

  pub Fits : (ℕ → Type 0) → AnExpression → Type 0
  Fits scope (Constant n) = n < 2 ^ 32
  Fits scope (LiteralAt n size) = Unit {0}
  Fits scope (ArrayAt t v size) = Unit {0}
  Fits scope (ReadOf a) = FitsAt scope a
  Fits scope (SizeOfExpression n e) = n < 2 ^ 32
  Fits scope (SizeOf n) = n < 2 ^ 32
  Fits scope (AddressOf t a) = FitsAt scope a
  Fits scope (CallOf t f to es) = FitsAll scope es to
  Fits scope (StepOf m by a) = FitsAt scope a
  Fits scope (UnaryOf op e) = Fits scope e
  Fits scope (CastTo t e) = Fits scope e
  Fits scope (ConvertTo t e) = Fits scope e
  Fits scope (ArithmeticOf op l r) = Fits scope l × Fits scope r
  Fits scope (CompareOf rel l r) = Fits scope l × Fits scope r
  Fits scope (BothOf l r) = Fits scope l × Fits scope r
  Fits scope (EitherOf l r) = Fits scope l × Fits scope r
  Fits scope (AdvanceOf t l r) = Fits scope l × Fits scope r
  Fits scope (AdvanceByOf t l r) = Fits scope l × Fits scope r
  Fits scope (RetreatOf t l r) = Fits scope l × Fits scope r
  Fits scope (DistanceOf t l r) = Fits scope l × Fits scope r
  Fits scope (ChoiceOf t c l r) = Fits scope c × Fits scope l × Fits scope r
  Fits scope (AssignTo a e) = FitsAt scope a × Fits scope e
  Fits scope (ArithmeticAssignTo op a e) = FitsAt scope a × Fits scope e
  Fits scope (AdvanceAssignTo a e) = FitsAt scope a × Fits scope e
  Fits scope (RetreatAssignTo a e) = FitsAt scope a × Fits scope e
  Fits scope (CommaOf t l r) = Fits scope l × Fits scope r

  pub FitsAll : (ℕ → Type 0) → SomeExpressions → List CType → Type 0
  FitsAll scope NoExpressions to = Unit {0}
  FitsAll scope (MoreExpressions e es) [] = ⊥
  FitsAll scope (MoreExpressions e es) (t ∷ to) = Fits scope e × FitsAll scope es to

abbrev pub FitsMaybe : (ℕ → Type 0) → Option AnExpression → Type 0
FitsMaybe scope None = Unit {0}
FitsMaybe scope (Some e) = Fits scope e

-- one more local is in scope
abbrev pub more : (ℕ → Type 0) → ℕ → ℕ → Type 0
more scope n m = scope m ⊎ (m ≡ n)

-- behind declarations and statements
abbrev pub declaring : (ℕ → Type 0) → List ADeclaration → ℕ → Type 0
declaring scope [] = scope
declaring scope (KeepOf object ∷ ds) = declaring scope ds
declaring scope (ClearOf n ∷ ds) = declaring (more scope n) ds
declaring scope (BeginOf n e ∷ ds) = declaring (more scope n) ds
declaring scope (StoreOf t o e ∷ ds) = declaring scope ds
declaring scope (ZerosOf t o count ∷ ds) = declaring scope ds

abbrev pub behind_act : (ℕ → Type 0) → AnAction → ℕ → Type 0
behind_act scope (DeclareOf ds) = declaring scope ds
behind_act scope (BlockOf row) = scope
behind_act scope (EvaluateOf e) = scope
behind_act scope BreakOf = scope
behind_act scope ContinueOf = scope
behind_act scope (ReturnOf e) = scope
behind_act scope (IfOf c a) = scope
behind_act scope (IfElseOf c a b) = scope
behind_act scope (WhileOf c a) = scope
behind_act scope (DoOf a c) = scope
behind_act scope (ForOf i c e a) = scope

-- what is stored in the block has bytes
abbrev pub HasSize : CType → Type 0
HasSize t = is_scalar t ≡ true

-- in a function with so many automatic locals
abbrev pub FitsDeclared : ℕ → (ℕ → Type 0) → List ADeclaration → Type 0
FitsDeclared size scope [] = Unit {0}
FitsDeclared size scope (KeepOf object ∷ ds) = FitsDeclared size scope ds
FitsDeclared size scope (ClearOf n ∷ ds) = (n < size) × FitsDeclared size (more scope n) ds
FitsDeclared size scope (BeginOf n e ∷ ds) = (n < size) × Fits (more scope n) e × FitsDeclared size (more scope n) ds
FitsDeclared size scope (StoreOf t o e ∷ ds) = HasSize t × Fits scope e × FitsDeclared size scope ds
FitsDeclared size scope (ZerosOf t o count ∷ ds) = HasSize t × (1 ≤ count) × FitsDeclared size scope ds

-- a statement's expressions fit, and `break` and `continue` stand in a loop; a statement below `if` or a loop declares for itself alone
abbrev mutual
  pub FitsAct : ℕ → (ℕ → Type 0) → Bool → AnAction → Type 0
  FitsAct size scope inside (DeclareOf ds) = FitsDeclared size scope ds
  FitsAct size scope inside (BlockOf row) = FitsActs size scope inside row
  FitsAct size scope inside (EvaluateOf e) = Fits scope e
  FitsAct size scope inside BreakOf = inside ≡ true
  FitsAct size scope inside ContinueOf = inside ≡ true
  FitsAct size scope inside (ReturnOf e) = FitsMaybe scope e
  FitsAct size scope inside (IfOf c a) = Fits scope c × FitsAct size scope inside a
  FitsAct size scope inside (IfElseOf c a b) = Fits scope c × FitsAct size scope inside a × FitsAct size scope inside b
  FitsAct size scope inside (WhileOf c a) = Fits scope c × FitsAct size scope true a
  FitsAct size scope inside (DoOf a c) = FitsAct size scope true a × Fits scope c
  FitsAct size scope inside (ForOf i c e a) = FitsMaybe scope i × FitsMaybe scope c × FitsMaybe scope e × FitsAct size scope true a

  pub FitsActs : ℕ → (ℕ → Type 0) → Bool → SomeActions → Type 0
  FitsActs size scope inside NoActions = Unit {0}
  FitsActs size scope inside (MoreActions a row) = FitsAct size scope inside a × FitsActs size (behind_act scope a) inside row

-- no local is in scope where a function begins
abbrev pub no_local : ℕ → Type 0
no_local n = ⊥
