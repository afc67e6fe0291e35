-- What the relations of typing say is what the rows say.
use Rattle.std.specs.Prelude.{ℕ, List}
use Rattle.c_types.specs.Answers.{Fault}
use Rattle.c_types.specs.Typed.{AnExpression}
use Rattle.c_typed_scope.specs.declared.entry.Entry.{Entry}
use Rattle.c_typed_scope.specs.declared.entry.Signature.{Signature}
use Rattle.c_typed_scope.specs.Scopes.{Scope}
use Rattle.c_typed_scope.specs.Layout.{Area}
use Rattle.c_phrases.specs.Phrases.{AnExp}
use Rattle.c_typed_expressions.specs.Relations.{IsTyped, FirstFault}
use Rattle.c_typed_table.specs.Rows.{HasType, HasFault}

-- of one expression, beside a data area
pub record IsByRows (names : List (List ℕ × Entry)) (signatures : List Signature) (scope : Scope) (e : AnExp) (a : Area) : Type 0 where
  pub rows : (t : AnExpression × Area) → IsTyped names signatures scope e a t → HasType names signatures scope e a t
  pub typed : (t : AnExpression × Area) → HasType names signatures scope e a t → IsTyped names signatures scope e a t
  pub faults : (f : Fault) → FirstFault names signatures scope e a f → HasFault names signatures scope e a f
  pub first : (f : Fault) → HasFault names signatures scope e a f → FirstFault names signatures scope e a f

abbrev pub TypesAreRows : Type 0
TypesAreRows =
    (names : List (List ℕ × Entry)) (signatures : List Signature) (scope : Scope) (e : AnExp) (a : Area)
    → IsByRows names signatures scope e a
