-- Expressions and statements in which each object and parameter that is named is there, each element's address is a sum, and each call
-- has its function and as many arguments as that has parameters.
use Rattle.std.specs.Prelude.{◌≡◌, ℕ, ◌<◌, ◌+◌, ◌*◌, ◌-◌, List, [], ◌∷◌, length, Option, Some, None, slice_get}
use Rattle.c_types.specs.Types.{size_of}
use Rattle.c_types.specs.declared.typed.Variable.{Variable}
use Rattle.c_types.specs.declared.typed.Variable.TheVariants as variables
use Rattle.c_types.specs.declared.typed.Callee.{Callee}
use Rattle.c_types.specs.declared.typed.Callee.TheVariants as callees
use Rattle.c_types.specs.declared.typed.ArithmeticOperator.TheVariants as ariths
use Rattle.c_types.specs.Typed.{APlace, VariableAt, PointedBy, ElementBy, AnExpression, Constant, LiteralAt, ArrayAt}
use Rattle.c_types.specs.Typed.{ReadOf, SizeOfExpression, SizeOf, AddressOf, CallOf, StepOf}
use Rattle.c_types.specs.Typed.{UnaryOf, CastTo, ConvertTo, ArithmeticOf, CompareOf, BothOf, EitherOf, AdvanceOf}
use Rattle.c_types.specs.Typed.{AdvanceByOf, RetreatOf, DistanceOf, ChoiceOf, AssignTo}
use Rattle.c_types.specs.Typed.{ArithmeticAssignTo, AdvanceAssignTo, RetreatAssignTo, CommaOf, SomeExpressions}
use Rattle.c_types.specs.Typed.{NoExpressions, MoreExpressions}
use Rattle.c_program.specs.Statements.{ADeclaration, KeepOf, ClearOf, BeginOf, StoreOf, ZerosOf, AnAction}
use Rattle.c_program.specs.Statements.{SomeActions, NoActions, MoreActions, DeclareOf, BlockOf, EvaluateOf, BreakOf, ContinueOf}
use Rattle.c_program.specs.Statements.{ReturnOf, IfOf, IfElseOf, WhileOf, DoOf, ForOf}
use Rattle.c_program.specs.Programs.{ARoutine}

-- how many arguments a call has
abbrev pub arguments : SomeExpressions → ℕ
arguments NoExpressions = 0
arguments (MoreExpressions e es) = 1 + arguments es

-- where there are so many objects, and the function has so many parameters and bytes of memory locals
abbrev pub IsThere : (objects params block : ℕ) → Variable → Type 0
IsThere objects params block (variables.Automatic n) = Unit {0}
IsThere objects params block (variables.Parameter n) = n < params
IsThere objects params block (variables.Global n) = n < objects
IsThere objects params block (variables.Static n) = n < objects
IsThere objects params block (variables.InBlock o) = o < block

-- a call's function is one of these or a service, and takes so many arguments
pub record IsDefined (gs : List ARoutine) (n count : ℕ) : Type 0 where
  pub routine : ARoutine
  pub here : slice_get gs n ≡ Some routine
  pub takes : length routine.parameters ≡ count

abbrev pub Takes : List ARoutine → Callee → ℕ → Type 0
Takes gs (callees.Defined n) count = IsDefined gs n count
Takes gs callees.Putchar count = count ≡ 1
Takes gs callees.Getchar count = count ≡ 0

-- `a[i]` is `*(a + i)`
abbrev pub IsAddition : AnExpression → Type 0
IsAddition (ArithmeticOf op l r) = op ≡ ariths.Add
IsAddition (AdvanceOf t l r) = Unit {0}
IsAddition (AdvanceByOf t l r) = Unit {0}
IsAddition e = ⊥

-- which variables are there, and which calls are right
module _ (there : Variable → Type 0) (takes : Callee → ℕ → Type 0) (literals : ℕ) where
  abbrev mutual
    pub StandsAt : APlace → Type 0
    StandsAt (VariableAt t v) = there v
    StandsAt (PointedBy t e) = Stands e
    StandsAt (ElementBy t e) = IsAddition e × Stands e

    pub Stands : AnExpression → Type 0
    Stands (Constant n) = Unit {0}
    Stands (LiteralAt n size) = n < literals
    Stands (ArrayAt t v size) = there v
    Stands (ReadOf a) = StandsAt a
    Stands (SizeOfExpression n e) = Unit {0}
    Stands (SizeOf n) = Unit {0}
    Stands (AddressOf t a) = StandsAt a
    Stands (CallOf t f to es) = takes f (arguments es) × StandAll es
    Stands (StepOf m by a) = StandsAt a
    Stands (UnaryOf op e) = Stands e
    Stands (CastTo t e) = Stands e
    Stands (ConvertTo t e) = Stands e
    Stands (ArithmeticOf op l r) = Stands l × Stands r
    Stands (CompareOf rel l r) = Stands l × Stands r
    Stands (BothOf l r) = Stands l × Stands r
    Stands (EitherOf l r) = Stands l × Stands r
    Stands (AdvanceOf t l r) = Stands l × Stands r
    Stands (AdvanceByOf t l r) = Stands l × Stands r
    Stands (RetreatOf t l r) = Stands l × Stands r
    Stands (DistanceOf t l r) = Stands l × Stands r
    Stands (ChoiceOf t c l r) = Stands c × Stands l × Stands r
    Stands (AssignTo a e) = StandsAt a × Stands e
    Stands (ArithmeticAssignTo op a e) = StandsAt a × Stands e
    Stands (AdvanceAssignTo a e) = StandsAt a × Stands e
    Stands (RetreatAssignTo a e) = StandsAt a × Stands e
    Stands (CommaOf t l r) = Stands l × Stands r

    pub StandAll : SomeExpressions → Type 0
    StandAll NoExpressions = Unit {0}
    StandAll (MoreExpressions e es) = Stands e × StandAll es

  abbrev pub StandsMaybe : Option AnExpression → Type 0
  StandsMaybe None = Unit {0}
  StandsMaybe (Some e) = Stands e

  -- what is stored in the block lies there, its first byte and its last
  abbrev pub StandsDeclared : List ADeclaration → Type 0
  StandsDeclared [] = Unit {0}
  StandsDeclared (KeepOf object ∷ ds) = StandsDeclared ds
  StandsDeclared (ClearOf n ∷ ds) = StandsDeclared ds
  StandsDeclared (BeginOf n e ∷ ds) = Stands e × StandsDeclared ds
  StandsDeclared (StoreOf t o e ∷ ds) = there (variables.InBlock o) × Stands e × StandsDeclared ds
  StandsDeclared (ZerosOf t o count ∷ ds) =
      there (variables.InBlock o) × there (variables.InBlock (o + count * size_of t - 1)) × StandsDeclared ds

  abbrev mutual
    pub StandsAct : AnAction → Type 0
    StandsAct (DeclareOf ds) = StandsDeclared ds
    StandsAct (BlockOf row) = StandsActs row
    StandsAct (EvaluateOf e) = Stands e
    StandsAct BreakOf = Unit {0}
    StandsAct ContinueOf = Unit {0}
    StandsAct (ReturnOf e) = StandsMaybe e
    StandsAct (IfOf c a) = Stands c × StandsAct a
    StandsAct (IfElseOf c a b) = Stands c × StandsAct a × StandsAct b
    StandsAct (WhileOf c a) = Stands c × StandsAct a
    StandsAct (DoOf a c) = StandsAct a × Stands c
    StandsAct (ForOf i c e a) = StandsMaybe i × StandsMaybe c × StandsMaybe e × StandsAct a

    pub StandsActs : SomeActions → Type 0
    StandsActs NoActions = Unit {0}
    StandsActs (MoreActions a row) = StandsAct a × StandsActs row
