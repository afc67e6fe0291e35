-- The rows of calls.
use Rattle.std.specs.Prelude.{◌≡◌, ◌⊎◌, ℕ, List, [], ◌∷◌, length, slice_get, Option, Some, None}
use Rattle.c_types.specs.declared.types.CType.{CType}
use Rattle.c_types.specs.declared.fault.TypeKind.TheVariants.{UnknownName, BadType, BadCall}
use Rattle.c_types.specs.Answers.{Fault}
use Rattle.c_types.specs.Typed.{AnExpression, SomeExpressions, NoExpressions, MoreExpressions, CallOf}
use Rattle.c_typed_rows.specs.Operands.{Takes}
use Rattle.c_typed_scope.specs.declared.entry.Entry.{Entry}
use Rattle.c_typed_scope.specs.declared.entry.Entry.TheVariants as entries
use Rattle.c_typed_scope.specs.declared.entry.Signature.{Signature}
use Rattle.c_typed_scope.specs.Scopes.{Scope, find, lookup}
use Rattle.c_phrases.specs.Phrases.{SomeExps, no_exps, exps}
use Rattle.c_typed_expressions.specs.Phrases.{first}
use Rattle.c_typed_expressions.specs.Calls.{callee_of, count}

-- a name's entry is a variable's
abbrev pub IsVariable : Option Entry → Type 0
IsVariable None = ⊥
IsVariable (Some (entries.Function k)) = ⊥
IsVariable (Some (entries.Variable t v)) = Unit {0}
IsVariable (Some (entries.Array t v size)) = Unit {0}

-- it is the function of this number that the text defines
abbrev pub IsFunction : Option Entry → ℕ → Type 0
IsFunction None k = ⊥
IsFunction (Some (entries.Function n)) k = n ≡ k
IsFunction (Some (entries.Variable t v)) k = ⊥
IsFunction (Some (entries.Array t v size)) k = ⊥

-- What is called: a variable, which no call may have, or a function that the text defines.
pub data IsCallee (names : List (List ℕ × Entry)) (scope : Scope) (n : List ℕ) (c : Option ℕ) : Type 0 where
  OfVariable : (variable : IsVariable (lookup scope n)) (is : c ≡ None) → IsCallee names scope n c
  OfFunction : (none : IsVariable (lookup scope n) → ⊥) (k : ℕ) (defined : IsFunction (find names n) k) (is : c ≡ Some k)
      → IsCallee names scope n c

-- a name that is no variable's and no function's that the text defines
pub record CalleeFault (names : List (List ℕ × Entry)) (scope : Scope) (at : ℕ) (n : List ℕ) (f : Fault) : Type 0 where
  pub none : IsVariable (lookup scope n) → ⊥
  pub undefined : (k : ℕ) → IsFunction (find names n) k → ⊥
  pub is : f ≡ record { place = at; kind = UnknownName }

-- each argument is taken by its parameter
abbrev pub AreTaken : List CType → SomeExps → SomeExpressions → Type 0
AreTaken [] es xs = Unit {0}
AreTaken (t ∷ ts) no_exps xs = Unit {0}
AreTaken (t ∷ ts) (exps e es) NoExpressions = Unit {0}
AreTaken (t ∷ ts) (exps e es) (MoreExpressions x xs) = Takes t x × AreTaken ts es xs

-- the first that isn't begins there
abbrev pub FirstUntaken : List CType → SomeExps → SomeExpressions → ℕ → Type 0
FirstUntaken [] es xs at = ⊥
FirstUntaken (t ∷ ts) no_exps xs at = ⊥
FirstUntaken (t ∷ ts) (exps e es) NoExpressions at = ⊥
FirstUntaken (t ∷ ts) (exps e es) (MoreExpressions x xs) at =
    ((Takes t x → ⊥) × (first e ≡ at)) ⊎ (Takes t x × FirstUntaken ts es xs at)

-- a function with this number and as many parameters as there are arguments
pub record IsCalled (signatures : List Signature) (c : Option ℕ) (es : SomeExps) : Type 0 where
  pub number : ℕ
  pub callee : c ≡ Some number
  pub signature : Signature
  pub found : slice_get signatures number ≡ Some signature
  pub many : length signature.parameters ≡ count es

pub record IsCall (signatures : List Signature) (c : Option ℕ) (es : SomeExps) (xs : SomeExpressions) (t : AnExpression) : Type 0 where
  pub called : IsCalled signatures c es
  pub taken : AreTaken called.signature.parameters es xs
  pub is : t ≡ CallOf called.signature.result (callee_of called.number) called.signature.parameters xs

-- a call of a variable, or with another number of arguments; or an argument that its parameter doesn't take
pub data CallFault (signatures : List Signature) (c : Option ℕ) (opened : ℕ) (es : SomeExps) (xs : SomeExpressions) (f : Fault)
    : Type 0 where
  NotCalled : (none : IsCalled signatures c es → ⊥) (is : f ≡ record { place = opened; kind = BadCall })
      → CallFault signatures c opened es xs f
  NotTaken : (called : IsCalled signatures c es) (at : ℕ) (untaken : FirstUntaken called.signature.parameters es xs at)
      (is : f ≡ record { place = at; kind = BadType }) → CallFault signatures c opened es xs f
