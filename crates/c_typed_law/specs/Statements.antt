-- Statements: what each is typed as, and which fault is its first. What a declaration declares is in scope up to the end of its block.
use Rattle.std.specs.Prelude.{◌≡◌, ℕ, Bool, true, List, [], Option, Some, None}
use Rattle.c_types.specs.declared.types.CType.{CType}
use Rattle.c_types.specs.declared.fault.TypeKind.TheVariants.{BadJump, BadType}
use Rattle.c_types.specs.Answers.{Fault}
use Rattle.c_types.specs.Types.{is_scalar}
use Rattle.c_types.specs.Typed.{AnExpression, type_of, ConvertTo}
use Rattle.c_typed_definition.specs.c_typed_operators.specs.Rules.{fits}
use Rattle.c_typed_scope.specs.declared.entry.Entry.{Entry}
use Rattle.c_typed_scope.specs.declared.entry.Signature.{Signature}
use Rattle.c_phrases.specs.Phrases.{AnExp}
use Rattle.c_phrases.specs.Units.{ALocal, local_item, statement_item, AStatement, block, empty, expression, break_off}
use Rattle.c_phrases.specs.Units.{continue_on, give_back, if_then, if_else, while_loop, do_loop, for_loop, SomeItems}
use Rattle.c_phrases.specs.Units.{no_items}
use Rattle.c_typed_definition.specs.c_program.specs.Statements.{ADeclaration, AnAction, SomeActions, NoActions, MoreActions, DeclareOf, BlockOf}
use Rattle.c_typed_definition.specs.c_program.specs.Statements.{EvaluateOf, BreakOf, ContinueOf, ReturnOf, IfOf, IfElseOf, WhileOf, DoOf, ForOf}
use Rattle.c_typed_definition.specs.c_typed_expressions.specs.Phrases.{first}
use Rattle.c_typed_definition.specs.c_typed_expressions.specs.Relations.{Joint, FirstOf, IsTyped, FirstFault}
use Rattle.c_typed_definition.specs.State.{State, with_area}
use Rattle.c_typed_definition.specs.Statements.{entered, left}
use Rattle.c_typed_law.specs.Tests.{With, Lacking, Never}
use Rattle.c_typed_law.specs.Locals.{AreLocals, LocalsFault}

-- names and signatures of the functions of the text
module _ (names : List (List ℕ × Entry)) (signatures : List Signature) where
  -- a full expression
  abbrev pub IsFull : AnExp → State → AnExpression × State → Type 0
  IsFull e s r = Joint (IsTyped names signatures s.scope e s.area) (λ x u. u ≡ (x.0, with_area x.1 s)) r

  abbrev pub FullFault : AnExp → State → Fault → Type 0
  FullFault e s f = FirstOf (IsTyped names signatures s.scope e s.area) (FirstFault names signatures s.scope e s.area) (λ x. Never) f

  -- a condition is an integer or a pointer
  abbrev pub IsCondition : AnExp → State → AnExpression × State → Type 0
  IsCondition e s r = Joint (IsFull e s) (λ x. Joint (With (is_scalar (type_of x.0)) (λ c. c ≡ x.0)) (λ c u. u ≡ (c, x.1))) r

  abbrev pub ConditionFault : AnExp → State → Fault → Type 0
  ConditionFault e s f = FirstOf (IsFull e s) (FullFault e s) (λ x. FirstOf (With (is_scalar (type_of x.0)) (λ c. c ≡ x.0))
      (Lacking (is_scalar (type_of x.0)) (first e) BadType Never) (λ c. Never)) f

  -- a part of a for that may be left out
  abbrev pub IsPart : Option AnExp → State → Option AnExpression × State → Type 0
  IsPart None s r = r ≡ (None, s)
  IsPart (Some e) s r = Joint (IsFull e s) (λ x u. u ≡ (Some x.0, x.1)) r

  abbrev pub PartFault : Option AnExp → State → Fault → Type 0
  PartFault None s f = ⊥
  PartFault (Some e) s f = FirstOf (IsFull e s) (FullFault e s) (λ x. Never) f

  abbrev pub IsTurn : Option AnExp → State → Option AnExpression × State → Type 0
  IsTurn None s r = r ≡ (None, s)
  IsTurn (Some e) s r = Joint (IsCondition e s) (λ x u. u ≡ (Some x.0, x.1)) r

  abbrev pub TurnFault : Option AnExp → State → Fault → Type 0
  TurnFault None s f = ⊥
  TurnFault (Some e) s f = FirstOf (IsCondition e s) (ConditionFault e s) (λ x. Never) f

  -- a declaration in a block
  abbrev pub IsDeclared : ALocal → State → List ADeclaration × State → Type 0
  IsDeclared l s r = AreLocals names signatures l.storage l.spec l.declarators [] s r

  abbrev pub DeclaredFault : ALocal → State → Fault → Type 0
  DeclaredFault l s f = LocalsFault names signatures l.storage l.spec l.declarators [] s f

-- names and signatures of the functions of the text, and the result of the one that is read
module _ (names : List (List ℕ × Entry)) (signatures : List Signature) (result_type : CType) where
  -- what is given back is converted to the function's result
  abbrev pub IsReturn : Option AnExp → State → AnAction × State → Type 0
  IsReturn None s r = r ≡ (ReturnOf None, s)
  IsReturn (Some e) s r = Joint (IsFull names signatures e s) (λ x. Joint
      (With (fits result_type x.0) (λ y. y ≡ ConvertTo result_type x.0)) (λ y u. u ≡ (ReturnOf (Some y), x.1))) r

  abbrev pub ReturnFault : Option AnExp → State → Fault → Type 0
  ReturnFault None s f = ⊥
  ReturnFault (Some e) s f = FirstOf (IsFull names signatures e s) (FullFault names signatures e s)
      (λ x. FirstOf (With (fits result_type x.0) (λ y. y ≡ ConvertTo result_type x.0))
      (Lacking (fits result_type x.0) (first e) BadType Never) (λ y. Never)) f

  -- whether a loop is around: only there stand break and continue
  abbrev mutual
    pub IsStatement : Bool → AStatement → State → AnAction × State → Type 0
    IsStatement looping (block row) s r = Joint (AreItems looping row (entered s)) (λ x u. u ≡ (BlockOf x.0, left x.1)) r
    IsStatement looping empty s r = r ≡ (BlockOf NoActions, s)
    IsStatement looping (expression e) s r = Joint (IsFull names signatures e s) (λ x u. u ≡ (EvaluateOf x.0, x.1)) r
    IsStatement looping (break_off at) s r = With looping (λ u. u ≡ (BreakOf, s)) r
    IsStatement looping (continue_on at) s r = With looping (λ u. u ≡ (ContinueOf, s)) r
    IsStatement looping (give_back at e) s r = IsReturn e s r
    IsStatement looping (if_then at o c a) s r = Joint (IsCondition names signatures c s)
        (λ x. Joint (IsStatement looping a x.1) (λ y u. u ≡ (IfOf x.0 y.0, y.1))) r
    IsStatement looping (if_else at o c a other b) s r = Joint (IsCondition names signatures c s)
        (λ x. Joint (IsStatement looping a x.1) (λ y. Joint (IsStatement looping b y.1) (λ z u. u ≡ (IfElseOf x.0 y.0 z.0, z.1)))) r
    IsStatement looping (while_loop at o c a) s r = Joint (IsCondition names signatures c s)
        (λ x. Joint (IsStatement true a x.1) (λ y u. u ≡ (WhileOf x.0 y.0, y.1))) r
    IsStatement looping (do_loop at a again o c) s r = Joint (IsStatement true a s)
        (λ y. Joint (IsCondition names signatures c y.1) (λ x u. u ≡ (DoOf y.0 x.0, x.1))) r
    IsStatement looping (for_loop at o i c e a) s r = Joint (IsPart names signatures i s)
        (λ x. Joint (IsTurn names signatures c x.1) (λ y. Joint (IsPart names signatures e y.1)
        (λ z. Joint (IsStatement true a z.1) (λ w u. u ≡ (ForOf x.0 y.0 z.0 w.0, w.1))))) r

    pub AreItems : Bool → SomeItems → State → SomeActions × State → Type 0
    AreItems looping no_items s r = r ≡ (NoActions, s)
    AreItems looping (local_item l rest) s r = Joint (IsDeclared names signatures l s)
        (λ x. Joint (AreItems looping rest x.1) (λ y u. u ≡ (MoreActions (DeclareOf x.0) y.0, y.1))) r
    AreItems looping (statement_item a rest) s r = Joint (IsStatement looping a s)
        (λ x. Joint (AreItems looping rest x.1) (λ y u. u ≡ (MoreActions x.0 y.0, y.1))) r

  abbrev mutual
    pub StatementFault : Bool → AStatement → State → Fault → Type 0
    StatementFault looping (block row) s f = FirstOf (AreItems looping row (entered s)) (ItemsFault looping row (entered s)) (λ x. Never) f
    StatementFault looping empty s f = ⊥
    StatementFault looping (expression e) s f = FirstOf (IsFull names signatures e s) (FullFault names signatures e s) (λ x. Never) f
    StatementFault looping (break_off at) s f = Lacking looping at BadJump Never f
    StatementFault looping (continue_on at) s f = Lacking looping at BadJump Never f
    StatementFault looping (give_back at e) s f = ReturnFault e s f
    StatementFault looping (if_then at o c a) s f = FirstOf (IsCondition names signatures c s) (ConditionFault names signatures c s)
        (λ x. FirstOf (IsStatement looping a x.1) (StatementFault looping a x.1) (λ y. Never)) f
    StatementFault looping (if_else at o c a other b) s f = FirstOf (IsCondition names signatures c s) (ConditionFault names signatures c s)
        (λ x. FirstOf (IsStatement looping a x.1) (StatementFault looping a x.1)
        (λ y. FirstOf (IsStatement looping b y.1) (StatementFault looping b y.1) (λ z. Never))) f
    StatementFault looping (while_loop at o c a) s f = FirstOf (IsCondition names signatures c s) (ConditionFault names signatures c s)
        (λ x. FirstOf (IsStatement true a x.1) (StatementFault true a x.1) (λ y. Never)) f
    StatementFault looping (do_loop at a again o c) s f = FirstOf (IsStatement true a s) (StatementFault true a s)
        (λ y. FirstOf (IsCondition names signatures c y.1) (ConditionFault names signatures c y.1) (λ x. Never)) f
    StatementFault looping (for_loop at o i c e a) s f = FirstOf (IsPart names signatures i s) (PartFault names signatures i s)
        (λ x. FirstOf (IsTurn names signatures c x.1) (TurnFault names signatures c x.1)
        (λ y. FirstOf (IsPart names signatures e y.1) (PartFault names signatures e y.1)
        (λ z. FirstOf (IsStatement true a z.1) (StatementFault true a z.1) (λ w. Never)))) f

    pub ItemsFault : Bool → SomeItems → State → Fault → Type 0
    ItemsFault looping no_items s f = ⊥
    ItemsFault looping (local_item l rest) s f = FirstOf (IsDeclared names signatures l s) (DeclaredFault names signatures l s)
        (λ x. FirstOf (AreItems looping rest x.1) (ItemsFault looping rest x.1) (λ y. Never)) f
    ItemsFault looping (statement_item a rest) s f = FirstOf (IsStatement looping a s) (StatementFault looping a s)
        (λ x. FirstOf (AreItems looping rest x.1) (ItemsFault looping rest x.1) (λ y. Never)) f
