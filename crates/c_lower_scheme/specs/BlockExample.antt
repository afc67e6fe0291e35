-- What a function with a memory local is lowered to. It is written as typed phrases, and stands as C beside them.
use Rattle.std.specs.Prelude.{List, [], ◌∷◌, Some}
use Rattle.gg_base.specs.declared.relation.Rel.TheVariants as relations
use Rattle.c_types.specs.declared.types.CType.{CType}
use Rattle.c_types.specs.declared.types.CType.TheVariants as types
use Rattle.c_types.specs.declared.types.Integer.TheVariants as ints
use Rattle.c_types.specs.declared.typed.Variable.TheVariants as variables
use Rattle.c_types.specs.declared.typed.ArithmeticOperator.TheVariants as ariths
use Rattle.c_types.specs.Typed.{VariableAt, ElementBy, Constant, ArrayAt, ReadOf, AdvanceOf}
use Rattle.c_program.specs.Statements.{StoreOf, ZerosOf, NoActions, MoreActions, DeclareOf, ReturnOf}
use Rattle.c_program.specs.Programs.{ARoutine}
use Rattle.c_lower_scheme.specs.Trees.{Num, Gaddr, Loc, Arg, Indir, Bin, Item, Label, AssignLoc, AssignMem, Cbr, Ret}

-- int f(int n) { char b[8] = {n}; return b[0]; }, where the stack's pointer is the object 0
abbrev int : CType
int = types.Integer ints.Int

abbrev char : CType
char = types.Integer ints.Char

abbrev byte_pointer : CType
byte_pointer = types.Pointer ints.Char 0

abbrev pub holding : ARoutine
holding = record {
  name = [];
  result = int;
  parameters = int ∷ [];
  locals = [];
  registers = [];
  block = 8;
  body = MoreActions (DeclareOf (StoreOf char 0 (ReadOf (VariableAt int (variables.Parameter 0))) ∷ ZerosOf char 1 7 ∷ []))
      (MoreActions (ReturnOf (Some (ReadOf (ElementBy char (AdvanceOf byte_pointer (ArrayAt byte_pointer (variables.InBlock 0) 8)
      (Constant 0)))))) NoActions);
  need = 0;
}

abbrev pub holding_items : List Item
holding_items =
    AssignLoc 0 (Indir ints.Int (Gaddr 0))
    ∷ Cbr relations.Geu 0 (Bin ariths.Subtract (Bin ariths.Add (Gaddr 1) (Num 262144)) (Loc 0)) (Num 8)
    ∷ AssignLoc 0 (Bin ariths.Divide (Num 0) (Num 0))
    ∷ Label 0
    ∷ AssignMem ints.Int (Gaddr 0) (Bin ariths.Add (Loc 0) (Num 8))
    ∷ AssignMem ints.Char (Loc 0) (Arg 0)
    ∷ AssignLoc 1 (Bin ariths.Add (Loc 0) (Num 1))
    ∷ Label 1
    ∷ AssignMem ints.Char (Loc 1) (Num 0)
    ∷ AssignLoc 1 (Bin ariths.Add (Loc 1) (Num 1))
    ∷ Cbr relations.Ne 1 (Loc 1) (Bin ariths.Add (Loc 0) (Num 8))
    ∷ AssignLoc 1 (Indir ints.Char (Bin ariths.Add (Loc 0) (Num 0)))
    ∷ AssignMem ints.Int (Gaddr 0) (Loc 0)
    ∷ Ret (Loc 1)
    ∷ AssignMem ints.Int (Gaddr 0) (Loc 0)
    ∷ Ret (Num 0)
    ∷ []
