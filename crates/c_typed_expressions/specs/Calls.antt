-- What a name stands for, as an expression and where it is called, and the call of a function.
use Rattle.std.specs.Prelude.{ℕ, ◌+◌, ◌-◌, ◌==◌, Bool, true, false, List, [], ◌∷◌, length, slice_get, Option, Some}
use Rattle.std.specs.Prelude.{None, Result, Ok, if◌then◌else◌}
use Rattle.c_types.specs.declared.types.CType.{CType}
use Rattle.c_types.specs.declared.typed.Callee.{Callee}
use Rattle.c_types.specs.declared.typed.Callee.TheVariants as callees
use Rattle.c_types.specs.declared.fault.TypeKind.TheVariants.{UnknownName, BadType, BadCall}
use Rattle.c_types.specs.Answers.{Fault, bad}
use Rattle.c_types.specs.Typed.{AnExpression, SomeExpressions, NoExpressions, MoreExpressions, ReadOf, ArrayAt}
use Rattle.c_types.specs.Typed.{CallOf, VariableAt}
use Rattle.c_typed_operators.specs.Rules.{fits}
use Rattle.c_typed_scope.specs.declared.entry.Entry.{Entry}
use Rattle.c_typed_scope.specs.declared.entry.Entry.TheVariants as entries
use Rattle.c_typed_scope.specs.declared.entry.Signature.{Signature}
use Rattle.c_phrases.specs.Phrases.{SomeExps, no_exps, exps}
use Rattle.c_typed_expressions.specs.Phrases.{first}

-- a name that is in no block: a function of the text, or unknown
abbrev pub named_function : Option Entry → ℕ → Result AnExpression Fault
named_function None at = bad at UnknownName
named_function (Some e) at = bad at BadType

abbrev pub named_by : Option Entry → Option Entry → ℕ → Result AnExpression Fault
named_by None f at = named_function f at
named_by (Some (entries.Variable t v)) f at = Ok (ReadOf (VariableAt t v))
named_by (Some (entries.Array t v n)) f at = Ok (ArrayAt t v n)
named_by (Some (entries.Function n)) f at = bad at BadType

abbrev pub is_function_by : Option Entry → Option Entry → Bool
is_function_by None None = false
is_function_by None (Some e) = true
is_function_by (Some (entries.Variable t v)) f = false
is_function_by (Some (entries.Array t v n)) f = false
is_function_by (Some (entries.Function n)) f = true

abbrev pub function_number : Option Entry → ℕ → Result (Option ℕ) Fault
function_number (Some (entries.Function n)) at = Ok (Some n)
function_number (Some (entries.Variable t v)) at = bad at UnknownName
function_number (Some (entries.Array t v n)) at = bad at UnknownName
function_number None at = bad at UnknownName

-- a called name: none where it is a variable's
abbrev pub callee_by : Option Entry → Option Entry → ℕ → Result (Option ℕ) Fault
callee_by (Some (entries.Variable t v)) f at = Ok None
callee_by (Some (entries.Array t v n)) f at = Ok None
callee_by (Some (entries.Function n)) f at = function_number f at
callee_by None f at = function_number f at

-- the two services come first, and then the functions in order of definition
unfoldable pub callee_of : ℕ → Callee
callee_of n = if n == 0 then callees.Putchar else if n == 1 then callees.Getchar else callees.Defined (n - 2)

-- the place of the first argument that its parameter does not take
abbrev pub unfit : List CType → SomeExps → SomeExpressions → Option ℕ
unfit [] es xs = None
unfit (t ∷ ts) no_exps xs = None
unfit (t ∷ ts) (exps e es) NoExpressions = None
unfit (t ∷ ts) (exps e es) (MoreExpressions x xs) = if fits t x then unfit ts es xs else Some (first e)

abbrev pub count : SomeExps → ℕ
count no_exps = 0
count (exps e es) = count es + 1

abbrev pub call_unless : Option ℕ → Signature → ℕ → SomeExpressions → Result AnExpression Fault
call_unless None s n xs = Ok (CallOf s.result (callee_of n) s.parameters xs)
call_unless (Some at) s n xs = bad at BadType

abbrev pub called_by : Option Signature → ℕ → ℕ → SomeExps → SomeExpressions → Result AnExpression Fault
called_by None n opened es xs = bad opened BadCall
called_by (Some s) n opened es xs = if length s.parameters == count es then call_unless (unfit s.parameters es xs) s n xs
    else bad opened BadCall

abbrev pub called : List Signature → Option ℕ → ℕ → SomeExps → SomeExpressions → Result AnExpression Fault
called signatures None opened es xs = bad opened BadCall
called signatures (Some n) opened es xs = called_by (slice_get signatures n) n opened es xs
