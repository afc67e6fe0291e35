-- How large a program is: its nodes, branches and loops, its runs of zeros and its blocks.
use Rattle.std.specs.Prelude.{ℕ, zero, suc, ◌+◌, ◌-◌, List, [], ◌∷◌}
use Rattle.c_program.specs.Need.{nodes, maybe_nodes}
use Rattle.c_program.specs.Programs.{ARoutine, AProgram}
use Rattle.c_program.specs.Statements.{ADeclaration, KeepOf, ClearOf, BeginOf, StoreOf, ZerosOf, AnAction}
use Rattle.c_program.specs.Statements.{SomeActions, NoActions, MoreActions, DeclareOf, BlockOf, EvaluateOf, BreakOf, ContinueOf}
use Rattle.c_program.specs.Statements.{ReturnOf, IfOf, IfElseOf, WhileOf, DoOf, ForOf}

-- the nodes of all initialisers, but one for each value that is stored in a block, so that a character of a string is none; a run of zeros
-- is one
abbrev pub declared_size : List ADeclaration → ℕ
declared_size [] = 0
declared_size (KeepOf object ∷ ds) = declared_size ds
declared_size (ClearOf n ∷ ds) = declared_size ds
declared_size (BeginOf n e ∷ ds) = nodes e + declared_size ds
declared_size (StoreOf t o e ∷ ds) = (nodes e - 1) + declared_size ds
declared_size (ZerosOf t o count ∷ ds) = 1 + declared_size ds

-- the nodes of all expressions of a statement, and one for each branch and each loop
abbrev mutual
  pub act_size : AnAction → ℕ
  act_size (DeclareOf ds) = declared_size ds
  act_size (BlockOf row) = row_size row
  act_size (EvaluateOf e) = nodes e
  act_size BreakOf = 0
  act_size ContinueOf = 0
  act_size (ReturnOf e) = maybe_nodes e
  act_size (IfOf c a) = 1 + nodes c + act_size a
  act_size (IfElseOf c a b) = 1 + nodes c + act_size a + act_size b
  act_size (WhileOf c a) = 1 + nodes c + act_size a
  act_size (DoOf a c) = 1 + act_size a + nodes c
  act_size (ForOf i c e a) = 1 + maybe_nodes i + maybe_nodes c + maybe_nodes e + act_size a

  pub row_size : SomeActions → ℕ
  row_size NoActions = 0
  row_size (MoreActions a row) = act_size a + row_size row

-- a block of memory locals is one
abbrev pub block_size : ℕ → ℕ
block_size zero = 0
block_size (suc n) = 1

-- the same of all functions of a program
abbrev pub routines_size : List ARoutine → ℕ
routines_size [] = 0
routines_size (g ∷ gs) = block_size g.block + row_size g.body + routines_size gs

abbrev pub program_size : AProgram → ℕ
program_size p = routines_size p.routines
