-- Typed statements as plain data.
use Rattle.std.specs.Prelude.{ℕ, List, [], ◌∷◌, map, Option, Some, None}
use Rattle.c_types.specs.declared.types.CType.{CType}
use Rattle.c_types.specs.declared.typed.Expression.{Expression}
use Rattle.c_types.specs.Typed.{AnExpression, expression_of}
use Rattle.c_program.specs.declared.statement.Declaration.{Declaration}
use Rattle.c_program.specs.declared.statement.Declaration.TheVariants as declarations
use Rattle.c_program.specs.declared.statement.Action.{Action, Row_of-Action, end_of-Action, more_of-Action}
use Rattle.c_program.specs.declared.statement.Action.TheVariants as actions

pub data ADeclaration : Type 0 where
  KeepOf : (object : ℕ) → ADeclaration
  ClearOf : (n : ℕ) → ADeclaration
  BeginOf : (n : ℕ) (e : AnExpression) → ADeclaration
  StoreOf : (t : CType) (offset : ℕ) (e : AnExpression) → ADeclaration
  ZerosOf : (t : CType) (offset count : ℕ) → ADeclaration

abbrev pub declaration : Declaration → ADeclaration
declaration (declarations.Keep object) = KeepOf object
declaration (declarations.Clear n) = ClearOf n
declaration (declarations.Begin n e) = BeginOf n (expression_of e)
declaration (declarations.Store t o e) = StoreOf t o (expression_of e)
declaration (declarations.Zeros t o count) = ZerosOf t o count

mutual
  pub data AnAction : Type 0 where
    DeclareOf : (ds : List ADeclaration) → AnAction
    BlockOf : (row : SomeActions) → AnAction
    EvaluateOf : (e : AnExpression) → AnAction
    BreakOf : AnAction
    ContinueOf : AnAction
    ReturnOf : (e : Option AnExpression) → AnAction
    IfOf : (c : AnExpression) (a : AnAction) → AnAction
    IfElseOf : (c : AnExpression) (a b : AnAction) → AnAction
    WhileOf : (c : AnExpression) (a : AnAction) → AnAction
    DoOf : (a : AnAction) (c : AnExpression) → AnAction
    ForOf : (i c e : Option AnExpression) (a : AnAction) → AnAction

  pub data SomeActions : Type 0 where
    NoActions : SomeActions
    MoreActions : (a : AnAction) (rest : SomeActions) → SomeActions

abbrev pub optional_expression : Option Expression → Option AnExpression
optional_expression None = None
optional_expression (Some e) = Some (expression_of e)

abbrev mutual
  pub act : Action → AnAction
  act (actions.Declare ds) = DeclareOf (map declaration ds.items)
  act (actions.Block' shape row) = BlockOf (act_row row)
  act (actions.Evaluate e) = EvaluateOf (expression_of e)
  act actions.Break = BreakOf
  act actions.Continue = ContinueOf
  act (actions.Return e) = ReturnOf (optional_expression e)
  act (actions.If' c p a) = IfOf (expression_of c) (act a)
  act (actions.IfElse' c p a q b) = IfElseOf (expression_of c) (act a) (act b)
  act (actions.While' c p a) = WhileOf (expression_of c) (act a)
  act (actions.Do' p a c) = DoOf (act a) (expression_of c)
  act (actions.For' i c e p a) = ForOf (optional_expression i) (optional_expression c) (optional_expression e) (act a)

  pub act_row : {m : _} → Row_of-Action m → SomeActions
  act_row end_of-Action = NoActions
  act_row (more_of-Action a rest) = MoreActions (act a) (act_row rest)

abbrev pub acts : List Action → SomeActions
acts [] = NoActions
acts (a ∷ rest) = MoreActions (act a) (acts rest)
