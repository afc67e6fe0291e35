-- What some functions are lowered to. Each is written as typed phrases, and stands as C beside them.
use Rattle.std.specs.Prelude.{◌≡◌, ℕ, List, [], ◌∷◌, Some}
use Rattle.gg_base.specs.declared.relation.Rel.TheVariants as relations
use Rattle.c_types.specs.declared.types.CType.{CType}
use Rattle.c_types.specs.declared.types.CType.TheVariants as types
use Rattle.c_types.specs.declared.types.Integer.TheVariants as ints
use Rattle.c_types.specs.declared.typed.Variable.TheVariants as variables
use Rattle.c_types.specs.declared.typed.Callee.TheVariants as callees
use Rattle.c_types.specs.declared.typed.UnaryOperator.TheVariants as unaries
use Rattle.c_types.specs.declared.typed.ArithmeticOperator.TheVariants as ariths
use Rattle.c_types.specs.declared.typed.Moment.TheVariants as moments
use Rattle.c_types.specs.declared.typed.Direction.TheVariants as directions
use Rattle.c_types.specs.Typed.{APlace, VariableAt, PointedBy, ElementBy, AnExpression, Constant, ArrayAt, ReadOf}
use Rattle.c_types.specs.Typed.{CallOf, StepOf, UnaryOf, CastTo, ArithmeticOf, CompareOf, BothOf}
use Rattle.c_types.specs.Typed.{AdvanceOf, ChoiceOf, AssignTo, ArithmeticAssignTo, NoExpressions, MoreExpressions}
use Rattle.c_program.specs.Statements.{ClearOf, BeginOf, AnAction, SomeActions, NoActions, MoreActions, DeclareOf, EvaluateOf, ReturnOf}
use Rattle.c_lower_scheme.specs.Trees.{Tree, Num, Gaddr, Loc, Indir, Conv, Bin, Item, Label, AssignLoc, AssignMem, Cbr}
use Rattle.c_lower_scheme.specs.Trees.{Push, Call, Save, Ret}
use Rattle.c_lower_scheme.specs.Parts.{AsResult}
use Rattle.c_lower_scheme.specs.Statements.{lower_row}
use Rattle.c_lower_scheme.specs.Programs.{body_of}
use Rattle.c_lower_scheme.specs.BlockExample.{holding, holding_items}

abbrev int : CType
int = types.Integer ints.Int

abbrev char : CType
char = types.Integer ints.Char

abbrev pointer : CType
pointer = types.Pointer ints.Int 0

abbrev local : CType → ℕ → APlace
local t n = VariableAt t (variables.Automatic n)

abbrev global : CType → ℕ → APlace
global t n = VariableAt t (variables.Global n)

abbrev array : ℕ → AnExpression
array n = ArrayAt pointer (variables.Global n) 16

abbrev element : ℕ → AnExpression → APlace
element n i = ElementBy int (AdvanceOf pointer (array n) i)

abbrev incremented : APlace → AnExpression
incremented p = StepOf moments.Before directions.Up p

abbrev block : List AnAction → SomeActions
block [] = NoActions
block (a ∷ rest) = MoreActions a (block rest)

-- int z; int g(int a, int b); int main() { return g(1/z, *(int*)0); }
abbrev calling : SomeActions
calling = block (ReturnOf (Some (CallOf int (callees.Defined 0) (int ∷ int ∷ [])
    (MoreExpressions (ArithmeticOf ariths.Divide (Constant 1) (ReadOf (global int 0)))
    (MoreExpressions (ReadOf (PointedBy int (CastTo pointer (Constant 0)))) NoExpressions)))) ∷ [])

abbrev calling_items : List Item
calling_items =
    AssignLoc 0 (Bin ariths.Divide (Num 1) (Indir ints.Int (Gaddr 0)))
    ∷ Push (Indir ints.Int (Num 0))
    ∷ Push (Loc 0)
    ∷ Call 0 2
    ∷ Save 1
    ∷ Ret (Loc 1)
    ∷ []

-- int a[4]; int main() { int i; char c; i = 0; c = a[i++] + i; a[i] += i++; return i < c && !a[c]; }
abbrev indexing : SomeActions
indexing = block (
    DeclareOf (ClearOf 0 ∷ [])
    ∷ DeclareOf (ClearOf 1 ∷ [])
    ∷ EvaluateOf (AssignTo (local int 0) (Constant 0))
    ∷ EvaluateOf (AssignTo (local char 1) (ArithmeticOf ariths.Add (ReadOf (element 0 (incremented (local int 0)))) (ReadOf (local int 0))))
    ∷ EvaluateOf (ArithmeticAssignTo ariths.Add (element 0 (ReadOf (local int 0))) (incremented (local int 0)))
    ∷ ReturnOf (Some (BothOf (CompareOf relations.Lt (ReadOf (local int 0)) (ReadOf (local char 1)))
    (UnaryOf unaries.Not (ReadOf (element 0 (ReadOf (local char 1)))))))
    ∷ [])

abbrev at_index : Tree → Tree
at_index w = Bin ariths.Add (Gaddr 0) (Bin ariths.Multiply (Num 4) w)

abbrev indexing_items : List Item
indexing_items =
    AssignLoc 0 (Num 0)
    ∷ AssignLoc 2 (Loc 0)
    ∷ AssignLoc 0 (Bin ariths.Add (Loc 2) (Num 1))
    ∷ AssignLoc 1 (Conv ints.Char (Bin ariths.Add (Indir ints.Int (at_index (Loc 2))) (Loc 0)))
    ∷ AssignLoc 3 (at_index (Loc 0))
    ∷ AssignLoc 4 (Indir ints.Int (Loc 3))
    ∷ AssignLoc 2 (Loc 0)
    ∷ AssignLoc 0 (Bin ariths.Add (Loc 2) (Num 1))
    ∷ AssignMem ints.Int (Loc 3) (Bin ariths.Add (Loc 4) (Loc 2))
    ∷ AssignLoc 2 (Num 0)
    ∷ Cbr relations.Ge 0 (Loc 0) (Loc 1)
    ∷ Cbr relations.Ne 0 (Indir ints.Int (at_index (Loc 1))) (Num 0)
    ∷ AssignLoc 2 (Num 1)
    ∷ Label 0
    ∷ Ret (Loc 2)
    ∷ []

-- char h; int *p; int f(); int main() { int x = (h = 300); *p++ = f(); h += f(); return x ? h : *p; }
abbrev storing : SomeActions
storing = block (
    DeclareOf (BeginOf 0 (AssignTo (global char 0) (Constant 300)) ∷ [])
    ∷ EvaluateOf (AssignTo (PointedBy int (incremented (global pointer 1))) (CallOf int (callees.Defined 0) [] NoExpressions))
    ∷ EvaluateOf (ArithmeticAssignTo ariths.Add (global char 0) (CallOf int (callees.Defined 0) [] NoExpressions))
    ∷ ReturnOf (Some (ChoiceOf int (ReadOf (local int 0)) (ReadOf (global char 0)) (ReadOf (PointedBy int (ReadOf (global pointer 1))))))
    ∷ [])

abbrev storing_items : List Item
storing_items =
    AssignLoc 1 (Conv ints.Char (Num 300))
    ∷ AssignMem ints.Char (Gaddr 0) (Loc 1)
    ∷ AssignLoc 0 (Loc 1)
    ∷ AssignLoc 1 (Indir ints.Int (Gaddr 1))
    ∷ AssignMem ints.Int (Gaddr 1) (Bin ariths.Add (Loc 1) (Num 4))
    ∷ Call 0 0
    ∷ Save 2
    ∷ AssignMem ints.Int (Loc 1) (Loc 2)
    ∷ AssignLoc 2 (Indir ints.Char (Gaddr 0))
    ∷ Call 0 0
    ∷ Save 1
    ∷ AssignMem ints.Char (Gaddr 0) (Bin ariths.Add (Loc 2) (Loc 1))
    ∷ Cbr relations.Eq 0 (Loc 0) (Num 0)
    ∷ Ret (Indir ints.Char (Gaddr 0))
    ∷ Label 0
    ∷ Ret (Indir ints.Int (Indir ints.Int (Gaddr 1)))
    ∷ []

pub record Examples : Type 0 where
  pub calling : (lower_row 0 2 0 AsResult calling 0 0 0).items ≡ calling_items
  pub indexing : (lower_row 2 1 2 AsResult indexing 0 0 0).items ≡ indexing_items
  pub storing : (lower_row 1 2 1 AsResult storing 0 0 0).items ≡ storing_items
  pub holding : (body_of 0 1 holding 0).items ≡ holding_items
