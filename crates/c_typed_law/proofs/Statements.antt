-- Statements: the definition's answer is what the relations say, by one induction over statements.
use Rattle.std.proofs.Common.{◌≡◌, ℕ, Bool, true, false, List, [], Option, Some, None}
use Rattle.c_types.specs.declared.types.CType.{CType}
use Rattle.c_types.specs.declared.fault.TypeKind.TheVariants.{BadJump, BadType}
use Rattle.c_types.specs.Types.{is_scalar}
use Rattle.c_types.specs.Typed.{AnExpression, type_of}
use Rattle.c_typed_definition.specs.c_typed_operators.specs.Choices.{condition_of}
use Rattle.c_typed_definition.specs.c_typed_operators.specs.Table.{Means}
use Rattle.c_typed_scope.specs.declared.entry.Entry.{Entry}
use Rattle.c_typed_scope.specs.declared.entry.Signature.{Signature}
use Rattle.c_phrases.specs.Phrases.{AnExp}
use Rattle.c_phrases.specs.Units.{local_item, statement_item, AStatement, block, empty, expression, break_off}
use Rattle.c_phrases.specs.Units.{continue_on, give_back, if_then, if_else, while_loop, do_loop, for_loop, SomeItems}
use Rattle.c_phrases.specs.Units.{no_items}
use Rattle.c_typed_definition.specs.c_program.specs.Statements.{AnAction, NoActions, MoreActions, DeclareOf, BlockOf, EvaluateOf, BreakOf, ContinueOf, ReturnOf, IfOf, IfElseOf, WhileOf, DoOf, ForOf}
use Rattle.c_typed_definition.specs.c_typed_expressions.specs.Phrases.{first}
use Rattle.c_typed_definition.specs.c_typed_expressions.proofs.Law.{means_then, means_ok, exp_means}
use Rattle.c_typed_definition.specs.State.{State, with_area}
use Rattle.c_typed_definition.specs.Statements.{entered, left, jump, type_full, type_condition, type_maybe, type_maybe_condition, type_return, type_statement, type_items}
use Rattle.c_typed_law.specs.Tests.{With, Lacking, Never}
use Rattle.c_typed_law.specs.Statements.{IsFull, FullFault, IsCondition, ConditionFault, IsPart, PartFault, IsTurn, TurnFault, IsReturn, ReturnFault, IsStatement, StatementFault, AreItems, ItemsFault}
use Rattle.c_typed_law.proofs.Combined.{with_means}
use Rattle.c_typed_law.proofs.Objects.{given_means}
use Rattle.c_typed_law.proofs.Automatics.{locals_mean}

jump_means : (looping : Bool) (at : ℕ) (a : AnAction) (s : State) → Means (jump looping at a s) (With looping (λ u. u ≡ (a, s))) (Lacking looping at BadJump Never)
jump_means true at a s = with_means true at BadJump _ _ _ (means_ok (a, s))
jump_means false at a s = with_means false at BadJump _ _ _ (means_ok (a, s))

scalar_means : (place : ℕ) (x : AnExpression) → Means (condition_of place x) (With (is_scalar (type_of x)) (λ c. c ≡ x)) (Lacking (is_scalar (type_of x)) place BadType Never)
unfolding condition_of
scalar_means place x = with_means (is_scalar (type_of x)) place BadType _ _ _ (means_ok x)

module _ (names : List (List ℕ × Entry)) (signatures : List Signature) where
  full_means : (e : AnExp) (s : State) → Means (type_full names signatures e s) (IsFull names signatures e s) (FullFault names signatures e s)
  unfolding type_full
  full_means e s = means_then _ _ _ _ _ _ (exp_means names signatures s.scope e s.area) (λ x. means_ok (x.0, with_area x.1 s))

  condition_means : (e : AnExp) (s : State) → Means (type_condition names signatures e s) (IsCondition names signatures e s) (ConditionFault names signatures e s)
  unfolding type_condition
  condition_means e s = means_then _ _ _ _ _ _ (full_means e s) (λ x. means_then _ _ _ _ _ _ (scalar_means (first e) x.0) (λ c. means_ok (c, x.1)))

  part_means : (e : Option AnExp) (s : State) → Means (type_maybe names signatures e s) (IsPart names signatures e s) (PartFault names signatures e s)
  part_means None s = means_ok (None, s)
  part_means (Some e) s = means_then _ _ _ _ _ _ (full_means e s) (λ x. means_ok (Some x.0, x.1))

  turn_means : (e : Option AnExp) (s : State) → Means (type_maybe_condition names signatures e s) (IsTurn names signatures e s) (TurnFault names signatures e s)
  turn_means None s = means_ok (None, s)
  turn_means (Some e) s = means_then _ _ _ _ _ _ (condition_means e s) (λ x. means_ok (Some x.0, x.1))

module _ (names : List (List ℕ × Entry)) (signatures : List Signature) (result_type : CType) where
  return_means : (e : Option AnExp) (s : State) → Means (type_return names signatures result_type e s) (IsReturn names signatures result_type e s) (ReturnFault names signatures result_type e s)
  return_means None s = means_ok (ReturnOf None, s)
  return_means (Some e) s = means_then _ _ _ _ _ _ (full_means names signatures e s) (λ x. means_then _ _ _ _ _ _ (given_means result_type (first e) x.0) (λ y. means_ok (ReturnOf (Some y), x.1)))

  mutual
    pub statement_means : (looping : Bool) (a : AStatement) (s : State)
        → Means (type_statement names signatures result_type looping a s) (IsStatement names signatures result_type looping a s) (StatementFault names signatures result_type looping a s)
    statement_means looping (block row) s = means_then _ _ _ _ _ _ (items_mean looping row (entered s)) (λ x. means_ok (BlockOf x.0, left x.1))
    statement_means looping empty s = means_ok (BlockOf NoActions, s)
    statement_means looping (expression e) s = means_then _ _ _ _ _ _ (full_means names signatures e s) (λ x. means_ok (EvaluateOf x.0, x.1))
    statement_means looping (break_off at) s = jump_means looping at BreakOf s
    statement_means looping (continue_on at) s = jump_means looping at ContinueOf s
    statement_means looping (give_back at e) s = return_means e s
    statement_means looping (if_then at o c a) s = means_then _ _ _ _ _ _ (condition_means names signatures c s)
        (λ x. means_then _ _ _ _ _ _ (statement_means looping a x.1) (λ y. means_ok (IfOf x.0 y.0, y.1)))
    statement_means looping (if_else at o c a other b) s = means_then _ _ _ _ _ _ (condition_means names signatures c s)
        (λ x. means_then _ _ _ _ _ _ (statement_means looping a x.1) (λ y. means_then _ _ _ _ _ _ (statement_means looping b y.1) (λ z. means_ok (IfElseOf x.0 y.0 z.0, z.1))))
    statement_means looping (while_loop at o c a) s = means_then _ _ _ _ _ _ (condition_means names signatures c s)
        (λ x. means_then _ _ _ _ _ _ (statement_means true a x.1) (λ y. means_ok (WhileOf x.0 y.0, y.1)))
    statement_means looping (do_loop at a again o c) s = means_then _ _ _ _ _ _ (statement_means true a s)
        (λ y. means_then _ _ _ _ _ _ (condition_means names signatures c y.1) (λ x. means_ok (DoOf y.0 x.0, x.1)))
    statement_means looping (for_loop at o i c e a) s = means_then _ _ _ _ _ _ (part_means names signatures i s)
        (λ x. means_then _ _ _ _ _ _ (turn_means names signatures c x.1)
        (λ y. means_then _ _ _ _ _ _ (part_means names signatures e y.1) (λ z. means_then _ _ _ _ _ _ (statement_means true a z.1) (λ w. means_ok (ForOf x.0 y.0 z.0 w.0, w.1)))))

    pub items_mean : (looping : Bool) (row : SomeItems) (s : State) → Means (type_items names signatures result_type looping row s) (AreItems names signatures result_type looping row s)
        (ItemsFault names signatures result_type looping row s)
    items_mean looping no_items s = means_ok (NoActions, s)
    items_mean looping (local_item l rest) s = means_then _ _ _ _ _ _ (locals_mean names signatures l.storage l.spec l.declarators [] s)
        (λ x. means_then _ _ _ _ _ _ (items_mean looping rest x.1) (λ y. means_ok (MoreActions (DeclareOf x.0) y.0, y.1)))
    items_mean looping (statement_item a rest) s = means_then _ _ _ _ _ _ (statement_means looping a s)
        (λ x. means_then _ _ _ _ _ _ (items_mean looping rest x.1) (λ y. means_ok (MoreActions x.0 y.0, y.1)))
