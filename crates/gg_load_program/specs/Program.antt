-- The typed program of a generated source.
use Rattle.std.specs.Prelude.{◌≤◌, ℕ, zero, suc, ◌+◌, ◌*◌, List, [], ◌∷◌, ◌++◌, codes, replicate, Some}
use Rattle.gg_base.specs.declared.limits.TheConstants.{AREA_START, NEED_LIMIT}
use Rattle.tree_core.specs.declared.program.Object.{Object}
use Rattle.c_types.specs.declared.types.CType.{CType}
use Rattle.c_types.specs.declared.types.CType.TheVariants as types
use Rattle.c_types.specs.declared.types.Integer.TheVariants as ints
use Rattle.c_types.specs.declared.typed.Variable.TheVariants.{Global, Automatic, Parameter}
use Rattle.c_types.specs.declared.typed.Callee.TheVariants.{Defined, Putchar}
use Rattle.c_types.specs.declared.typed.ArithmeticOperator.TheVariants.{Add, Multiply, And, Xor, ShiftRight}
use Rattle.c_types.specs.Typed.{APlace, VariableAt, ElementBy, AnExpression, Constant, ArrayAt, ReadOf, CallOf, ConvertTo}
use Rattle.c_types.specs.Typed.{ArithmeticOf, AdvanceOf, AssignTo, NoExpressions, MoreExpressions}
use Rattle.c_program.specs.Statements.{ClearOf, AnAction, SomeActions, NoActions, MoreActions, DeclareOf, BlockOf}
use Rattle.c_program.specs.Statements.{EvaluateOf, ReturnOf, WhileOf}
use Rattle.c_program.specs.Programs.{ARoutine, AProgram}
use Rattle.c_program.specs.Need.{need_of}
use Rattle.gg_load_tokens.specs.Lines.{function_name}

abbrev pub int : CType
int = types.Integer ints.Int

abbrev pub int_pointer : CType
int_pointer = types.Pointer ints.Int 0

-- the variables: the parameter of a function and its local, and the local of main
abbrev pub x : APlace
x = VariableAt int (Parameter 0)

abbrev pub y : APlace
y = VariableAt int (Automatic 0)

abbrev pub s : APlace
s = VariableAt int (Automatic 0)

-- the table of 64 longwords, each 0 at first
abbrev pub table : Object
table = record { label = codes "_t"; address = AREA_START; size = 256; align = 4; bytes = replicate 256 0; links = [] }

-- its element of a number that is reduced to one of 64
abbrev pub element : APlace → APlace
element n = ElementBy int (AdvanceOf int_pointer (ArrayAt int_pointer (Global 0) 256) (ArithmeticOf And (ReadOf n) (Constant 63)))

-- y=x*2i+1+i
abbrev pub product : ℕ → AnExpression
product i = AssignTo y (ArithmeticOf Add (ArithmeticOf Multiply (ReadOf x) (Constant (2 * i + 1))) (Constant i))

-- t[x&63]=t[y&63]+y
abbrev pub exchange : AnExpression
exchange = AssignTo (element x) (ArithmeticOf Add (ReadOf (element y)) (ReadOf y))

-- y^(y>>3)
abbrev pub answer : AnExpression
answer = ArithmeticOf Xor (ReadOf y) (ArithmeticOf ShiftRight (ReadOf y) (Constant 3))

abbrev pub function_body : ℕ → SomeActions
function_body i =
    MoreActions (DeclareOf (ClearOf 0 ∷ []))
    (MoreActions (EvaluateOf (product i))
    (MoreActions (EvaluateOf exchange)
    (MoreActions (ReturnOf (Some (ConvertTo int answer))) NoActions)))

abbrev pub function_routine : ℕ → ARoutine
function_routine i =
    record {
      name = function_name i;
      result = int;
      parameters = int ∷ [];
      locals = int ∷ [];
      registers = [];
      block = 0;
      body = function_body i;
      need = need_of (int ∷ []) 0 (function_body i);
    }

abbrev pub function_routines : ℕ → List ARoutine
function_routines zero = []
function_routines (suc n) = function_routines n ++ function_routine n ∷ []

-- s=f(s+i)
abbrev pub call_action : ℕ → AnAction
call_action i =
    EvaluateOf (AssignTo s (CallOf int (Defined i) (int ∷ []) (MoreExpressions (ArithmeticOf Add (ReadOf s) (Constant i)) NoExpressions)))

-- the calls of the functions 0, 1, .. n - 1, in front of what follows
abbrev pub onto_calls : ℕ → SomeActions → SomeActions
onto_calls zero rest = rest
onto_calls (suc n) rest = onto_calls n (MoreActions (call_action n) rest)

abbrev pub put_character : AnExpression → AnExpression
put_character e = CallOf int Putchar (int ∷ []) (MoreExpressions e NoExpressions)

-- putchar(65+(s&15))
abbrev pub put_letter : AnExpression
put_letter = put_character (ArithmeticOf Add (Constant 65) (ArithmeticOf And (ReadOf s) (Constant 15)))

-- s=(s>>4)&268435455
abbrev pub shift : AnExpression
shift = AssignTo s (ArithmeticOf And (ArithmeticOf ShiftRight (ReadOf s) (Constant 4)) (Constant 268435455))

abbrev pub letters : AnAction
letters = WhileOf (ReadOf s) (BlockOf (MoreActions (EvaluateOf put_letter) (MoreActions (EvaluateOf shift) NoActions)))

abbrev pub last_actions : SomeActions
last_actions =
    MoreActions letters
    (MoreActions (EvaluateOf (put_character (Constant 10)))
    (MoreActions (ReturnOf (Some (ConvertTo int (Constant 0)))) NoActions))

abbrev pub main_body : ℕ → SomeActions
main_body k =
    MoreActions (DeclareOf (ClearOf 0 ∷ [])) (MoreActions (EvaluateOf (AssignTo s (Constant 1))) (onto_calls k last_actions))

abbrev pub main_routine : ℕ → ARoutine
main_routine k =
    record {
      name = codes "main";
      result = int;
      parameters = [];
      locals = int ∷ [];
      registers = [];
      block = 0;
      body = main_body k;
      need = need_of (int ∷ []) 0 (main_body k);
    }

abbrev pub source_program : ℕ → AProgram
source_program k = record { objects = table ∷ []; routines = function_routines k ++ main_routine k ∷ []; main = k }

-- a function fits its frame
abbrev pub IsSmall : ARoutine → Type 0
IsSmall r = need_of r.locals r.block r.body ≤ NEED_LIMIT
