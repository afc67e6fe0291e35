-- Each operator's function is its rows: it answers what a row says, and where none fits the fault.
use Rattle.std.specs.Prelude.{◌≡◌, ℕ, true}
use Rattle.c_phrases.specs.declared.operator.PrefixOperator.{PrefixOperator}
use Rattle.c_phrases.specs.declared.operator.StepOperator.{StepOperator}
use Rattle.c_phrases.specs.declared.operator.AssignOperator.{AssignOperator}
use Rattle.c_types.specs.declared.types.CType.{CType}
use Rattle.c_types.specs.declared.typed.Moment.{Moment}
use Rattle.c_types.specs.declared.fault.TypeKind.TheVariants.{BadType}
use Rattle.c_types.specs.Typed.{AnExpression}
use Rattle.c_typed_operators.specs.Rules.{fits}
use Rattle.c_typed_operators.specs.Prefixes.{prefix_of, index_of, step, cast_of, sizeof_of, sizeof_type_of}
use Rattle.c_typed_operators.specs.Choices.{choice_of}
use Rattle.c_typed_operators.specs.Stores.{assign_of, given}
use Rattle.c_typed_operators.specs.Table.{Means, NoRow}
use Rattle.c_typed_rows.specs.Operands.{Takes, IsGiven, IsChoice, IsCast, IsSize, IsSizeOfType}
use Rattle.c_typed_rows.specs.Prefixes.{IsPrefix, PrefixFault, IsIndex, IsStep}
use Rattle.c_typed_rows.specs.Stores.{IsAssign}

pub record RowsAreAnswered : Type 0 where
  pub prefixes : (op : PrefixOperator) (at : ℕ) (x : AnExpression) → Means (prefix_of op at x) (IsPrefix op x) (PrefixFault op at x)
  pub indexes : (at : ℕ) (x y : AnExpression) → Means (index_of at x y) (IsIndex x y) (NoRow (IsIndex x y) at BadType)
  pub steps : (moment : Moment) (op : StepOperator) (at : ℕ) (x : AnExpression)
      → Means (step moment op at x) (IsStep moment op x) (NoRow (IsStep moment op x) at BadType)
  pub casts : (at : ℕ) (to : CType) (x : AnExpression) → Means (cast_of at to x) (IsCast to x) (NoRow (IsCast to x) at BadType)
  pub sizes : (at : ℕ) (x : AnExpression) → Means (sizeof_of at x) (IsSize x) (NoRow (IsSize x) at BadType)
  pub type_sizes : (at : ℕ) (of : CType) → Means (sizeof_type_of at of) (IsSizeOfType of) (NoRow (IsSizeOfType of) at BadType)
  pub choices : (at : ℕ) (c x y : AnExpression) → Means (choice_of at c x y) (IsChoice c x y) (NoRow (IsChoice c x y) at BadType)
  pub assignments : (op : AssignOperator) (at : ℕ) (x y : AnExpression)
      → Means (assign_of op at x y) (IsAssign op x y) (NoRow (IsAssign op x y) at BadType)
  -- an argument, a returned value or an initialiser, at its first token's place
  pub values : (t : CType) (place : ℕ) (x : AnExpression) → Means (given t place x) (IsGiven t x) (NoRow (IsGiven t x) place BadType)
  -- the test that these and calls use
  pub taken : (t : CType) (x : AnExpression) → fits t x ≡ true → Takes t x
  pub fit : (t : CType) (x : AnExpression) → Takes t x → fits t x ≡ true
