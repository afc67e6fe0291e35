-- How many zeros the declarations of a program set: one for each element of its automatic arrays that a declaration gives no value.
use Rattle.std.specs.Prelude.{ℕ, ◌+◌, ◌*◌, List, [], ◌∷◌}
use Rattle.c_program.specs.Statements.{ADeclaration, KeepOf, ClearOf, BeginOf, StoreOf, ZerosOf, AnAction, SomeActions, NoActions}
use Rattle.c_program.specs.Statements.{MoreActions, DeclareOf, BlockOf, EvaluateOf, BreakOf, ContinueOf, ReturnOf, IfOf, IfElseOf}
use Rattle.c_program.specs.Statements.{WhileOf, DoOf, ForOf}
use Rattle.c_program.specs.Programs.{ARoutine, AProgram}

-- the zeros of declarations, each passed once
abbrev pub declared_zeros : List ADeclaration → ℕ
declared_zeros [] = 0
declared_zeros (KeepOf object ∷ ds) = declared_zeros ds
declared_zeros (ClearOf n ∷ ds) = declared_zeros ds
declared_zeros (BeginOf n e ∷ ds) = declared_zeros ds
declared_zeros (StoreOf t offset e ∷ ds) = declared_zeros ds
declared_zeros (ZerosOf t offset count ∷ ds) = count + declared_zeros ds

-- the zeros of all declarations in a statement, and in a row of statements
abbrev mutual
  pub act_zeros : AnAction → ℕ
  act_zeros (DeclareOf ds) = declared_zeros ds
  act_zeros (BlockOf row) = row_zeros row
  act_zeros (EvaluateOf e) = 0
  act_zeros BreakOf = 0
  act_zeros ContinueOf = 0
  act_zeros (ReturnOf e) = 0
  act_zeros (IfOf c a) = act_zeros a
  act_zeros (IfElseOf c a b) = act_zeros a + act_zeros b
  act_zeros (WhileOf c a) = act_zeros a
  act_zeros (DoOf a c) = act_zeros a
  act_zeros (ForOf i c e a) = act_zeros a

  pub row_zeros : SomeActions → ℕ
  row_zeros NoActions = 0
  row_zeros (MoreActions a rest) = act_zeros a + row_zeros rest

-- the zeros of all functions
abbrev pub all_zeros : List ARoutine → ℕ
all_zeros [] = 0
all_zeros (g ∷ gs) = row_zeros g.body + all_zeros gs

abbrev pub zeros_of : AProgram → ℕ
zeros_of p = all_zeros p.routines

-- n turns and calls that are counted, and the zeros that are set before the first of these and behind each
abbrev pub with_zeros : AProgram → ℕ → ℕ
with_zeros p n = n + zeros_of p * (n + 1)
