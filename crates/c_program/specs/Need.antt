-- How many longwords of its frame a function needs.
use Rattle.std.specs.Prelude.{ℕ, ◌+◌, ◌*◌, ◌==◌, if◌then◌else◌, max, List, [], ◌∷◌, length, Option, Some, None}
use Rattle.c_types.specs.declared.types.CType.{CType}
use Rattle.c_types.specs.Typed.{APlace, VariableAt, PointedBy, ElementBy, AnExpression, SomeExpressions, NoExpressions}
use Rattle.c_types.specs.Typed.{MoreExpressions, Constant, LiteralAt, ArrayAt, ReadOf, SizeOfExpression, SizeOf, AddressOf}
use Rattle.c_types.specs.Typed.{CallOf, StepOf, UnaryOf, CastTo, ConvertTo, ArithmeticOf, CompareOf, BothOf, EitherOf}
use Rattle.c_types.specs.Typed.{AdvanceOf, AdvanceByOf, RetreatOf, DistanceOf, ChoiceOf, AssignTo, ArithmeticAssignTo}
use Rattle.c_types.specs.Typed.{AdvanceAssignTo, RetreatAssignTo, CommaOf}
use Rattle.c_program.specs.Statements.{ADeclaration, KeepOf, ClearOf, BeginOf, StoreOf, ZerosOf, AnAction}
use Rattle.c_program.specs.Statements.{SomeActions, NoActions, MoreActions, DeclareOf, BlockOf, EvaluateOf, BreakOf, ContinueOf, ReturnOf, IfOf}
use Rattle.c_program.specs.Statements.{IfElseOf, WhileOf, DoOf, ForOf}

-- Each name, number, literal, operator, index and call is one node, and a called function's name is a name. An index's
-- sum and a conversion are none.
abbrev mutual
  pub place_nodes : APlace → ℕ
  place_nodes (VariableAt t v) = 1
  place_nodes (PointedBy t e) = 1 + nodes e
  place_nodes (ElementBy t sum) = nodes sum

  pub nodes : AnExpression → ℕ
  nodes (Constant n) = 1
  nodes (LiteralAt object size) = 1
  nodes (ArrayAt t v size) = 1
  nodes (ReadOf p) = place_nodes p
  nodes (SizeOfExpression n e) = 1 + nodes e
  nodes (SizeOf n) = 1
  nodes (AddressOf t p) = 1 + place_nodes p
  nodes (CallOf t f to es) = 2 + all_nodes es
  nodes (StepOf m op p) = 1 + place_nodes p
  nodes (UnaryOf op e) = 1 + nodes e
  nodes (CastTo t e) = 1 + nodes e
  nodes (ConvertTo t e) = nodes e
  nodes (ArithmeticOf op l r) = 1 + nodes l + nodes r
  nodes (CompareOf rel l r) = 1 + nodes l + nodes r
  nodes (BothOf l r) = 1 + nodes l + nodes r
  nodes (EitherOf l r) = 1 + nodes l + nodes r
  nodes (AdvanceOf t l r) = 1 + nodes l + nodes r
  nodes (AdvanceByOf t l r) = 1 + nodes l + nodes r
  nodes (RetreatOf t l r) = 1 + nodes l + nodes r
  nodes (DistanceOf t l r) = 1 + nodes l + nodes r
  nodes (ChoiceOf t c l r) = 1 + nodes c + nodes l + nodes r
  nodes (AssignTo p e) = 1 + place_nodes p + nodes e
  nodes (ArithmeticAssignTo op p e) = 1 + place_nodes p + nodes e
  nodes (AdvanceAssignTo p e) = 1 + place_nodes p + nodes e
  nodes (RetreatAssignTo p e) = 1 + place_nodes p + nodes e
  nodes (CommaOf t l r) = 1 + nodes l + nodes r

  pub all_nodes : SomeExpressions → ℕ
  all_nodes NoExpressions = 0
  all_nodes (MoreExpressions e es) = nodes e + all_nodes es

abbrev pub maybe_nodes : Option AnExpression → ℕ
maybe_nodes None = 0
maybe_nodes (Some e) = nodes e

-- a zero that the meaning supplies is a full expression of one node
abbrev pub returned_nodes : Option AnExpression → ℕ
returned_nodes None = 1
returned_nodes (Some e) = nodes e

abbrev pub one_declared : ADeclaration → ℕ
one_declared (KeepOf n) = 0
one_declared (ClearOf n) = 1
one_declared (BeginOf n e) = nodes e
one_declared (StoreOf t o e) = nodes e
one_declared (ZerosOf t o count) = 1

abbrev pub declared_nodes : List ADeclaration → ℕ
declared_nodes [] = 0
declared_nodes (d ∷ ds) = max (one_declared d) (declared_nodes ds)

-- the nodes of the largest full expression
abbrev mutual
  pub largest : AnAction → ℕ
  largest (DeclareOf ds) = declared_nodes ds
  largest (BlockOf row) = largest_of row
  largest (EvaluateOf e) = nodes e
  largest BreakOf = 0
  largest ContinueOf = 0
  largest (ReturnOf e) = returned_nodes e
  largest (IfOf c a) = max (nodes c) (largest a)
  largest (IfElseOf c a b) = max (nodes c) (max (largest a) (largest b))
  largest (WhileOf c a) = max (nodes c) (largest a)
  largest (DoOf a c) = max (largest a) (nodes c)
  largest (ForOf i c e a) = max (maybe_nodes i) (max (maybe_nodes c) (max (maybe_nodes e) (largest a)))

  pub largest_of : SomeActions → ℕ
  largest_of NoActions = 0
  largest_of (MoreActions a rest) = max (largest a) (largest_of rest)

-- what a function keeps for its block of memory locals
abbrev pub block_words : ℕ → ℕ
block_words block = if block == 0 then 0 else 8

-- The automatic locals that are no memory locals, 8 where the function has memory locals, and three for each node of the largest full
-- expression; the end of the body supplies a zero.
unfoldable pub need_of : List CType → ℕ → SomeActions → ℕ
need_of locals block body = length locals + (block_words block + 3 * max 1 (largest_of body))
