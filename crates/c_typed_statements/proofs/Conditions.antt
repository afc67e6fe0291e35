-- Full expressions and conditions: what the code answers, once the expression is typed.
use Rattle.std.proofs.Common.{◌≡◌, ℕ, List, Result, Ok, Err, refl}
use Rattle.c_phrases.specs.Phrases.{AnExp}
use Rattle.c_types.specs.declared.fault.TypeFault.{TypeFault}
use Rattle.c_types.specs.declared.fault.TypeFault.TheVariants.{NoMemory, At}
use Rattle.c_types.specs.declared.typed.Expression.{Expression}
use Rattle.c_types.specs.Answers.{Fails, Gives}
use Rattle.c_types.specs.Typed.{AnExpression, expression_of}
use Rattle.c_typed_operators.specs.Choices.{condition_of}
use Rattle.c_typed_scope.specs.declared.entry.Entry.{Entry}
use Rattle.c_typed_scope.specs.declared.entry.Signature.{Signature}
use Rattle.c_typed_scope.specs.Answers.{Turns}
use Rattle.c_typed_scope.specs.Layout.{Area}
use Rattle.c_typed_expressions.specs.Phrases.{first}
use Rattle.c_typed_expressions.specs.Expressions.{type_exp}
use Rattle.c_typed_definition.specs.State.{State, with_area}
use Rattle.c_typed_definition.specs.Statements.{type_full, type_condition}

module _ (names : List (List ℕ × Entry)) (signatures : List Signature) where
  pub full_turns : (e : AnExp) (s : State) (b : Area) (result : Result Expression TypeFault) → Turns (λ t. expression_of t) result b (type_exp names signatures s.scope e s.area)
      → Turns (λ t. expression_of t) result (with_area b s) (type_full names signatures e s)
  unfolding type_full
  full_turns e s b (Ok x) h = rw h refl
  full_turns e s b (Err NoMemory) h = tt
  full_turns e s b (Err (At place kind)) h = rw h refl

  pub condition_turns : (e : AnExp) (s t : State) (x : AnExpression) (place : ℕ) (result : Result Expression TypeFault) → type_full names signatures e s ≡ Ok (x, t) → place ≡ first e
      → Gives (λ y. expression_of y) result (condition_of place x) → Turns (λ y. expression_of y) result t (type_condition names signatures e s)
  unfolding type_condition
  condition_turns e s t x place (Ok y) typed at h = rw (typed, ← at, h) refl
  condition_turns e s t x place (Err NoMemory) typed at h = tt
  condition_turns e s t x place (Err (At p kind)) typed at h = rw (typed, ← at, h) refl

  pub condition_fails : (e : AnExp) (s : State) (f : TypeFault) → Fails f (type_full names signatures e s) → Fails f (type_condition names signatures e s)
  unfolding type_condition
  condition_fails e s NoMemory failed = tt
  condition_fails e s (At place kind) failed = rw failed refl
