-- How the items of a function's statements are laid out. Nothing stands among them but each statement's own items, and what tests, first
-- and third parts of `for`, labels and jumps give.
use Rattle.std.specs.Prelude.{◌≡◌, ℕ, ◌-◌, List, [], ◌∷◌, ◌++◌, Bool, Option, Some, None, length, slice_get}
use Rattle.tree_core.specs.declared.program.TreeFn.{TreeFn}
use Rattle.tree_core.specs.declared.program.TreeProgram.{TreeProgram}
use Rattle.c_types.specs.Typed.{AnExpression}
use Rattle.c_program.specs.Statements.{AnAction, SomeActions, NoActions, MoreActions, DeclareOf, BlockOf, EvaluateOf}
use Rattle.c_program.specs.Statements.{BreakOf, ContinueOf, ReturnOf, IfOf, IfElseOf, WhileOf, DoOf, ForOf}
use Rattle.c_program.specs.Programs.{ARoutine, AProgram}
use Rattle.c_lower_scheme.specs.Trees.{Item, Num, Label, Jump}
use Rattle.c_lower_scheme.specs.Parts.{Destination, due, delivered}
use Rattle.c_lower_scheme.specs.Expressions.{way}
use Rattle.c_lower_scheme.specs.Statements.{going, effect}
use Rattle.c_lower_scheme.specs.Spelling.{spelled_all}
use Rattle.c_lower_scheme.specs.Programs.{first_temporary, way_in, way_out, lowered}
use Rattle.c_lower_calm.specs.Claim.{SpellsCalm, IsPlainOne}

-- a declaration, an expression statement, or a `return`
abbrev pub IsSingle : AnAction → Type 0
IsSingle (DeclareOf ds) = Unit {0}
IsSingle (EvaluateOf e) = Unit {0}
IsSingle (ReturnOf e) = Unit {0}
IsSingle _ = ⊥

-- In a function with so many automatic locals, a first temporary, so many bytes of memory locals, and a destination of its result, of a
-- program with so many functions.
module _ (size count first bytes : ℕ) (out : Destination) where
  -- the items of a test: it goes to a label where the expression has that truth, and else falls through
  pub record IsTest (c : AnExpression) (items : List Item) : Type 0 where
    pub sense : Bool
    pub to : ℕ
    pub from : ℕ
    pub is : items ≡ ((way size count c).branch sense to first from).items

  -- those of an expression for its effect alone
  pub record IsEffect (e : Option AnExpression) (items : List Item) : Type 0 where
    pub from : ℕ
    pub is : items ≡ (effect size count first out e from).items

  -- no more than a `break` or `continue`, also alone in a block
  pub record IsAway (a : AnAction) : Type 0 where
    pub break_label : ℕ
    pub continue_label : ℕ
    pub to : ℕ
    pub goes : going a break_label continue_label ≡ Some to

  mutual
    -- the items of a statement
    pub data Lies : AnAction → List Item → Type 0 where
      -- a plain `return e` or `a = e` whose tree is calm gives that one root, and no other item
      single : (a : AnAction) (items : List Item) → IsSingle a → ((i : Item) → IsPlainOne size bytes a i → SpellsCalm i → items ≡ i ∷ [])
          → Lies a items
      breaks : (to : ℕ) → Lies BreakOf (Jump to ∷ [])
      continues : (to : ℕ) → Lies ContinueOf (Jump to ∷ [])
      block : (row : SomeActions) (items : List Item) → LieInTurn row items → Lies (BlockOf row) items
      -- a test that goes itself where the `break` or `continue` would
      if_away : (c : AnExpression) (a : AnAction) (test : List Item) → IsAway a → IsTest c test → Lies (IfOf c a) test
      if_alone : (c : AnExpression) (a : AnAction) (test own : List Item) (end : ℕ) → IsTest c test → Lies a own
          → Lies (IfOf c a) (test ++ (own ++ (Label end ∷ [])))
      if_else : (c : AnExpression) (a b : AnAction) (test own other : List Item) (behind end : ℕ) → IsTest c test
          → Lies a own → Lies b other → Lies (IfElseOf c a b) (test ++ (own ++ (Jump end ∷ Label behind ∷ (other ++ (Label end ∷ [])))))
      -- a loop's test stands behind its body; a constant one in front
      while_loop : (c : AnExpression) (a : AnAction) (items : List Item) → IsLoop c a items → Lies (WhileOf c a) items
      while_constant : (c : AnExpression) (a : AnAction) (test own : List Item) (top end : ℕ) → IsTest c test → Lies a own
          → Lies (WhileOf c a) (Label top ∷ (test ++ (own ++ (Jump top ∷ Label end ∷ []))))
      do_while : (a : AnAction) (c : AnExpression) (items : List Item) → IsLoop c a items → Lies (DoOf a c) items
      for_loop : (i c e : Option AnExpression) (a : AnAction) (begin items : List Item) → IsEffect i begin → LiesRound c e a items
          → Lies (ForOf i c e a) (begin ++ items)

    -- a jump to its begin, a body, and a test behind it
    pub data IsLoop : AnExpression → AnAction → List Item → Type 0 where
      loop : (c : AnExpression) (a : AnAction) (own test : List Item) (begin top again end : ℕ) → Lies a own → IsTest c test
          → IsLoop c a (Jump begin ∷ Label top ∷ (own ++ (Label again ∷ (test ++ (Label end ∷ [])))))

    -- a `for` behind its first part: with a test behind the step, with a constant test in front, and without a test
    pub data LiesRound : Option AnExpression → Option AnExpression → AnAction → List Item → Type 0 where
      turns : (c : AnExpression) (e : Option AnExpression) (a : AnAction) (own step test : List Item) (top again tests end : ℕ)
          → Lies a own → IsEffect e step → IsTest c test
          → LiesRound (Some c) e a
          (Jump tests ∷ Label top ∷ (own ++ (Label again ∷ (step ++ (Label tests ∷ (test ++ (Label end ∷ [])))))))
      constant : (c : AnExpression) (e : Option AnExpression) (a : AnAction) (test own step : List Item) (top again end : ℕ)
          → IsTest c test → Lies a own → IsEffect e step
          → LiesRound (Some c) e a (Label top ∷ (test ++ (own ++ (Label again ∷ (step ++ (Jump top ∷ Label end ∷ []))))))
      ever : (e : Option AnExpression) (a : AnAction) (own step : List Item) (top again end : ℕ) → Lies a own → IsEffect e step
          → LiesRound None e a (Jump top ∷ Label top ∷ (own ++ (Label again ∷ (step ++ (Jump top ∷ Label end ∷ [])))))

    -- the items of statements, one statement's behind another's
    pub data LieInTurn : SomeActions → List Item → Type 0 where
      none : LieInTurn NoActions []
      next : (a : AnAction) (row : SomeActions) (own behind : List Item) → Lies a own → LieInTurn row behind
          → LieInTurn (MoreActions a row) (own ++ behind)

-- a function's first temporary, and where its result goes; the pointer is that of the second stack
abbrev pub first_of : ARoutine → ℕ
first_of g = first_temporary (length g.locals) g.block

abbrev pub out_of : ℕ → ARoutine → Destination
out_of pointer g = way_out pointer (length g.locals) g.block

-- The items of a function are those of its statements. Before them its block is taken, if it has one; behind them it answers 0, and gives
-- the block back.
pub record IsLaid (pointer count : ℕ) (g : ARoutine) (f : TreeFn) : Type 0 where
  pub begin : ℕ
  pub end : ℕ
  pub body : List Item
  pub lies : LieInTurn (length g.locals) count (first_of g) g.block (out_of pointer g) g.body body
  pub items : f.items ≡ spelled_all ((way_in (length g.locals) (first_of g) pointer g.block begin).items
      ++ (body ++ (delivered (out_of pointer g) (due (Num 0) (first_of g) end)).items))

-- the functions of the trees are laid out so, each for the program's
abbrev pub FunctionsAreLaid : AProgram → TreeProgram → Type 0
FunctionsAreLaid p q =
    (n : ℕ) (g : ARoutine) (f : TreeFn) → slice_get p.routines n ≡ Some g → slice_get q.functions n ≡ Some f
    → IsLaid (length p.objects - 2) (length p.routines) g f

-- So it is for each program.
abbrev pub EachFunctionIsLaid : Type 0
EachFunctionIsLaid = (p : AProgram) → FunctionsAreLaid p (lowered p)
