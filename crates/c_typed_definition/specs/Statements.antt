-- The types of statements. What a declaration declares is in scope up to the end of its block.
-- This is how the code computes it; the rules of typing are the relations of c_typed_law.
use Rattle.std.specs.Prelude.{ℕ, Bool, true, false, List, [], Option, Some, None, Result, Ok}
use Rattle.c_types.specs.declared.types.CType.{CType}
use Rattle.c_types.specs.declared.fault.TypeKind.TheVariants.{BadJump}
use Rattle.c_types.specs.Answers.{Fault, bad, ◌>>=◌}
use Rattle.c_types.specs.Typed.{AnExpression}
use Rattle.c_typed_operators.specs.Stores.{given}
use Rattle.c_typed_operators.specs.Choices.{condition_of}
use Rattle.c_typed_addressed.specs.c_typed_scope.specs.declared.entry.Entry.{Entry}
use Rattle.c_typed_addressed.specs.c_typed_scope.specs.declared.entry.Signature.{Signature}
use Rattle.c_typed_addressed.specs.c_phrases.specs.Phrases.{AnExp}
use Rattle.c_typed_addressed.specs.c_phrases.specs.Units.{local_item, statement_item, AStatement, block, empty, expression, break_off}
use Rattle.c_typed_addressed.specs.c_phrases.specs.Units.{continue_on, give_back, if_then, if_else, while_loop, do_loop, for_loop, SomeItems}
use Rattle.c_typed_addressed.specs.c_phrases.specs.Units.{no_items}
use Rattle.c_typed_addressed.specs.c_typed_expressions.specs.Phrases.{first}
use Rattle.c_typed_addressed.specs.c_typed_scope.specs.Scopes.{enter, leave}
use Rattle.c_typed_addressed.specs.c_typed_expressions.specs.Expressions.{type_exp}
use Rattle.c_typed_definition.specs.State.{State, with_area}
use Rattle.c_typed_definition.specs.Automatics.{type_locals}
use Rattle.c_program.specs.Statements.{AnAction, SomeActions, NoActions, MoreActions, DeclareOf, BlockOf, EvaluateOf}
use Rattle.c_program.specs.Statements.{BreakOf, ContinueOf, ReturnOf, IfOf, IfElseOf, WhileOf, DoOf, ForOf}

abbrev pub entered : State → State
entered s = record { scope = enter s.scope; locals = s.locals; registers = s.registers; room = s.room; area = s.area }

abbrev pub left : State → State
left s = record { scope = leave s.scope; locals = s.locals; registers = s.registers; room = s.room; area = s.area }

abbrev pub jump : Bool → ℕ → AnAction → State → Result (AnAction × State) Fault
jump true at a s = Ok (a, s)
jump false at a s = bad at BadJump

-- names and signatures of the functions of the text
module _ (names : List (List ℕ × Entry)) (signatures : List Signature) where
  -- a full expression
  unfoldable pub type_full : AnExp → State → Result (AnExpression × State) Fault
  type_full e s = type_exp names signatures s.scope e s.area >>= λ x. Ok (x.0, with_area x.1 s)

  -- a full expression that is a condition
  unfoldable pub type_condition : AnExp → State → Result (AnExpression × State) Fault
  type_condition e s = type_full e s >>= λ x. condition_of (first e) x.0 >>= λ c. Ok (c, x.1)

  abbrev pub type_maybe : Option AnExp → State → Result (Option AnExpression × State) Fault
  type_maybe None s = Ok (None, s)
  type_maybe (Some e) s = type_full e s >>= λ x. Ok (Some x.0, x.1)

  abbrev pub type_maybe_condition : Option AnExp → State → Result (Option AnExpression × State) Fault
  type_maybe_condition None s = Ok (None, s)
  type_maybe_condition (Some e) s = type_condition e s >>= λ x. Ok (Some x.0, x.1)

-- names and signatures of the functions of the text, and the result of the one that is read
module _ (names : List (List ℕ × Entry)) (signatures : List Signature) (result_type : CType) where
  -- a value is converted to the result, which is not void
  abbrev pub type_return : Option AnExp → State → Result (AnAction × State) Fault
  type_return None s = Ok (ReturnOf None, s)
  type_return (Some e) s = type_full names signatures e s >>= λ x. given result_type (first e) x.0 >>= λ y. Ok (ReturnOf (Some y), x.1)

  -- whether a loop is around
  abbrev mutual
    pub type_statement : Bool → AStatement → State → Result (AnAction × State) Fault
    type_statement looping (block row) s = type_items looping row (entered s) >>= λ r. Ok (BlockOf r.0, left r.1)
    type_statement looping empty s = Ok (BlockOf NoActions, s)
    type_statement looping (expression e) s = type_full names signatures e s >>= λ x. Ok (EvaluateOf x.0, x.1)
    type_statement looping (break_off at) s = jump looping at BreakOf s
    type_statement looping (continue_on at) s = jump looping at ContinueOf s
    type_statement looping (give_back at e) s = type_return e s
    type_statement looping (if_then at o c a) s = type_condition names signatures c s >>= λ x. type_statement looping a x.1 >>=
        λ r. Ok (IfOf x.0 r.0, r.1)
    type_statement looping (if_else at o c a other b) s = type_condition names signatures c s >>= λ x.
        type_statement looping a x.1 >>= λ r. type_statement looping b r.1 >>= λ q. Ok (IfElseOf x.0 r.0 q.0, q.1)
    type_statement looping (while_loop at o c a) s = type_condition names signatures c s >>= λ x. type_statement true a x.1 >>=
        λ r. Ok (WhileOf x.0 r.0, r.1)
    type_statement looping (do_loop at a again o c) s = type_statement true a s >>= λ r.
        type_condition names signatures c r.1 >>= λ x. Ok (DoOf r.0 x.0, x.1)
    type_statement looping (for_loop at o i c e a) s = type_maybe names signatures i s >>= λ x.
        type_maybe_condition names signatures c x.1 >>= λ y. type_maybe names signatures e y.1 >>= λ z.
        type_statement true a z.1 >>= λ r. Ok (ForOf x.0 y.0 z.0 r.0, r.1)

    -- the first of these
    pub type_item : Bool → SomeItems → State → Result (AnAction × State) Fault
    type_item looping no_items s = Ok (BlockOf NoActions, s)
    type_item looping (local_item l rest) s = type_locals names signatures l.storage l.spec l.declarators [] s >>= λ r.
        Ok (DeclareOf r.0, r.1)
    type_item looping (statement_item a rest) s = type_statement looping a s

    pub type_items : Bool → SomeItems → State → Result (SomeActions × State) Fault
    type_items looping no_items s = Ok (NoActions, s)
    type_items looping (local_item l rest) s = type_locals names signatures l.storage l.spec l.declarators [] s >>= λ r.
        type_items looping rest r.1 >>= λ q. Ok (MoreActions (DeclareOf r.0) q.0, q.1)
    type_items looping (statement_item a rest) s = type_statement looping a s >>= λ r. type_items looping rest r.1 >>= λ q.
        Ok (MoreActions r.0 q.0, q.1)
