-- What a program does, phrase by phrase, from left to right: the manual of the language.
use Rattle.std.specs.Prelude.{ℕ, List, [], ◌∷◌, Option, Some, None}
use Rattle.gg_base.specs.Runs.{Runs, counted}
use Rattle.gg_base.specs.Relations.{holds}
use Rattle.gg_base.specs.Numbers.{truth}
use Rattle.c_types.specs.declared.types.CType.{CType}
use Rattle.c_types.specs.Constants.{converted, apply_unary, apply, advanced, retreated, distance}
use Rattle.c_types.specs.Typed.{APlace, VariableAt, PointedBy, ElementBy, AnExpression, Constant, LiteralAt, ArrayAt}
use Rattle.c_types.specs.Typed.{ReadOf, SizeOfExpression, SizeOf, AddressOf, CallOf, StepOf}
use Rattle.c_types.specs.Typed.{UnaryOf, CastTo, ConvertTo, ArithmeticOf, CompareOf, BothOf, EitherOf, AdvanceOf}
use Rattle.c_types.specs.Typed.{AdvanceByOf, RetreatOf, DistanceOf, ChoiceOf, AssignTo}
use Rattle.c_types.specs.Typed.{ArithmeticAssignTo, AdvanceAssignTo, RetreatAssignTo, CommaOf, SomeExpressions}
use Rattle.c_types.specs.Typed.{NoExpressions, MoreExpressions}
use Rattle.c_program.specs.Statements.{ADeclaration, KeepOf, ClearOf, BeginOf, StoreOf, ZerosOf, AnAction}
use Rattle.c_program.specs.Statements.{SomeActions, NoActions, MoreActions, DeclareOf, BlockOf, EvaluateOf, BreakOf, ContinueOf}
use Rattle.c_program.specs.Statements.{ReturnOf, IfOf, IfElseOf, WhileOf, DoOf, ForOf}
use Rattle.c_program.specs.Programs.{AProgram}
use Rattle.c_meaning.specs.declared.store.Spot.TheVariants.{Memory}
use Rattle.c_meaning.specs.declared.flow.Flow.TheVariants.{Onward, Broke, Continued, Returned}
use Rattle.c_meaning.specs.State.{State, address, spot_of, put_local}
use Rattle.c_meaning.specs.Values.{Rest, RestAll, RestAt, Behind, ALoop, plain_loop, for_loop, Look, Body, Next}
use Rattle.c_meaning.specs.Values.{chosen, logical, or_wild, or_trap, written, read_at, store_at, step_at, address_of}
use Rattle.c_meaning.specs.Values.{located, array_address}
use Rattle.c_meaning.specs.Blocks.{block_set, zeros_set}
use Rattle.c_meaning.specs.Calls.{passed, call}

-- the program, and what the tasks mean
module _ (p : AProgram) (next : Next) where
  abbrev mutual
    -- an expression
    pub expr : AnExpression → Rest → State → Runs
    expr (Constant n) κ = κ n
    expr (LiteralAt n size) κ = or_wild (address p.objects n) κ
    expr (ArrayAt t v size) κ = array_address p v κ
    expr (ReadOf a) κ = place a (λ t s. read_at t s κ)
    expr (SizeOfExpression n e) κ = κ n
    expr (SizeOf n) κ = κ n
    expr (AddressOf t a) κ = place a (λ t s. address_of s κ)
    expr (CallOf t f to es) κ = arguments es to (λ vs. call p next f vs κ)
    expr (StepOf m by a) κ = place a (λ t s. step_at m by t s κ)
    expr (UnaryOf op e) κ = expr e (λ v. κ (apply_unary op v))
    expr (CastTo t e) κ = expr e (λ v. κ (converted t v))
    expr (ConvertTo t e) κ = expr e (λ v. κ (converted t v))
    expr (ArithmeticOf op l r) κ = expr l (λ x. expr r (λ y. or_trap (apply op x y) κ))
    expr (CompareOf rel l r) κ = expr l (λ x. expr r (λ y. κ (truth (holds rel x y))))
    expr (BothOf l r) κ = expr l (λ x st. chosen x (expr r (λ y. κ (logical y)) st) (κ 0 st))
    expr (EitherOf l r) κ = expr l (λ x st. chosen x (κ 1 st) (expr r (λ y. κ (logical y)) st))
    expr (AdvanceOf t l r) κ = expr l (λ x. expr r (λ i. κ (advanced t x i)))
    expr (AdvanceByOf t l r) κ = expr l (λ i. expr r (λ x. κ (advanced t x i)))
    expr (RetreatOf t l r) κ = expr l (λ x. expr r (λ i. κ (retreated t x i)))
    expr (DistanceOf t l r) κ = expr l (λ x. expr r (λ y. or_trap (distance t x y) κ))
    expr (ChoiceOf t c l r) κ = expr c (λ x st. chosen x (expr l κ st) (expr r κ st))
    expr (AssignTo a e) κ = place a (λ t s. expr e (λ v. store_at t s v κ))
    expr (ArithmeticAssignTo op a e) κ = place a (λ t s. read_at t s (λ x. expr e (λ y. or_trap (apply op x y) (λ v. store_at t s v κ))))
    expr (AdvanceAssignTo a e) κ = place a (λ t s. read_at t s (λ x. expr e (λ i. store_at t s (advanced t x i) κ)))
    expr (RetreatAssignTo a e) κ = place a (λ t s. read_at t s (λ x. expr e (λ i. store_at t s (retreated t x i) κ)))
    expr (CommaOf t l r) κ = expr l (λ x. expr r κ)

    -- the place of a variable, `*e`, and `a[i]`, by the sum of its parts
    pub place : APlace → RestAt → State → Runs
    place (VariableAt t v) κ = located (spot_of p.objects v) (κ t)
    place (PointedBy t e) κ = expr e (λ a. κ t (Memory a))
    place (ElementBy t e) κ = expr e (λ a. κ t (Memory a))

    -- the arguments of a call, whose parameters have these types
    pub arguments : SomeExpressions → List CType → RestAll → State → Runs
    arguments NoExpressions ts κ = κ []
    arguments (MoreExpressions e es) ts κ = expr e (λ v. passed ts v (λ x us. arguments es us (λ xs. κ (x ∷ xs))))

  -- what is evaluated for its effect alone, if there is something
  abbrev pub dropped : Option AnExpression → (State → Runs) → State → Runs
  dropped None κ = κ
  dropped (Some e) κ = expr e (λ v. κ)

  -- a condition, which is true where it is left out
  abbrev pub tested : Option AnExpression → (State → Runs) → (State → Runs) → State → Runs
  tested None onward out = onward
  tested (Some e) onward out = expr e (λ v st. chosen v (onward st) (out st))

  -- behind a turn of a loop
  abbrev pub turned : Behind → (State → Runs) → Behind
  turned κ again Onward st = again st
  turned κ again Continued st = again st
  turned κ again Broke st = κ Onward st
  turned κ again (Returned v) st = κ (Returned v) st

  -- A turn of a loop is counted. What its body means is given.
  abbrev pub turn_by : ALoop → (Behind → State → Runs) → Behind → State → Runs
  turn_by l body κ st = counted (body (turned κ (dropped l.step (next (Look l) κ))) st)

  abbrev pub look_by : ALoop → (Behind → State → Runs) → Behind → State → Runs
  look_by l body κ = tested l.condition (turn_by l body κ) (κ Onward)

  -- a `return`
  abbrev pub returned : Option AnExpression → Behind → State → Runs
  returned None κ = κ (Returned 0)
  returned (Some e) κ = expr e (λ v. κ (Returned v))

  -- an automatic local becomes a value
  abbrev pub local_set : ℕ → ℕ → (State → Runs) → State → Runs
  local_set n v κ st = written (put_local n v st) v (λ v. κ)

  -- Declarations: a static local keeps its value, and an automatic one is 0 before its initialiser is evaluated.
  abbrev pub declared : List ADeclaration → Behind → State → Runs
  declared [] κ = κ Onward
  declared (KeepOf object ∷ ds) κ = declared ds κ
  declared (ClearOf n ∷ ds) κ = local_set n 0 (declared ds κ)
  declared (BeginOf n e ∷ ds) κ = local_set n 0 (expr e (λ v. local_set n v (declared ds κ)))
  declared (StoreOf t o e ∷ ds) κ = expr e (λ v. block_set t o v (declared ds κ))
  declared (ZerosOf t o count ∷ ds) κ = zeros_set t o count (declared ds κ)

  -- behind a statement of a block
  abbrev pub followed : Behind → (State → Runs) → Behind
  followed κ go Onward st = go st
  followed κ go Broke st = κ Broke st
  followed κ go Continued st = κ Continued st
  followed κ go (Returned v) st = κ (Returned v) st

  abbrev mutual
    -- a statement
    pub stmt : AnAction → Behind → State → Runs
    stmt (DeclareOf ds) κ = declared ds κ
    stmt (BlockOf row) κ = stmts row κ
    stmt (EvaluateOf e) κ = expr e (λ v. κ Onward)
    stmt BreakOf κ = κ Broke
    stmt ContinueOf κ = κ Continued
    stmt (ReturnOf e) κ = returned e κ
    stmt (IfOf c a) κ = expr c (λ v st. chosen v (stmt a κ st) (κ Onward st))
    stmt (IfElseOf c a b) κ = expr c (λ v st. chosen v (stmt a κ st) (stmt b κ st))
    stmt (WhileOf c a) κ = look_by (plain_loop c a) (stmt a) κ
    stmt (DoOf a c) κ = turn_by (plain_loop c a) (stmt a) κ
    stmt (ForOf i c e a) κ = dropped i (look_by (for_loop c e a) (stmt a) κ)

    -- the statements of a block
    pub stmts : SomeActions → Behind → State → Runs
    stmts NoActions κ = κ Onward
    stmts (MoreActions a row) κ = stmt a (followed κ (stmts row κ))

  -- a loop
  abbrev pub turn_at : ALoop → Behind → State → Runs
  turn_at l = turn_by l (stmt l.body)

  abbrev pub look_at : ALoop → Behind → State → Runs
  look_at l = look_by l (stmt l.body)

  abbrev pub task : Next
  task (Look l) κ = look_at l κ
  task (Body row) κ = stmts row κ
