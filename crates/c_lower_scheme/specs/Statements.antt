-- How statements are lowered. Temporaries begin anew at each full expression; labels are numbered over the whole program.
use Rattle.std.specs.Prelude.{ℕ, suc, List, [], ◌∷◌, true, false, Option, Some, None}
use Rattle.c_types.specs.Constants.{constant_of}
use Rattle.c_types.specs.Typed.{AnExpression}
use Rattle.c_lower_scheme.specs.Trees.{Num, Jump}
use Rattle.c_program.specs.Statements.{ADeclaration, KeepOf, ClearOf, BeginOf, StoreOf, ZerosOf, AnAction, SomeActions}
use Rattle.c_program.specs.Statements.{NoActions, MoreActions, DeclareOf, BlockOf, EvaluateOf, BreakOf, ContinueOf, ReturnOf, IfOf}
use Rattle.c_program.specs.Statements.{IfElseOf, WhileOf, DoOf, ForOf}
use Rattle.c_lower_scheme.specs.Expressions.{way}
use Rattle.c_lower_scheme.specs.Parts.{Emitted, Destination, InLocal, nothing, due, delivered}
use Rattle.c_lower_scheme.specs.Mentions.{mentions}
use Rattle.c_lower_scheme.specs.Zeros.{is_zeroed}
use Rattle.c_lower_scheme.specs.Flow.{two_done, done_by, clearing, begin_of, stored_in_block, zeros_in_block, if_of, if_else_of}
use Rattle.c_lower_scheme.specs.Flow.{loop_of, while_of, turns_by, for_by, ever_by}

-- Where a statement goes that is no more than a `break` or `continue`, also alone in a block, by their labels.
abbrev pub if_last : SomeActions → Option ℕ → Option ℕ
if_last NoActions o = o
if_last (MoreActions a row) o = None

abbrev mutual
  pub going : AnAction → ℕ → ℕ → Option ℕ
  going (DeclareOf ds) lb lc = None
  going (BlockOf row) lb lc = going_alone row lb lc
  going (EvaluateOf e) lb lc = None
  going BreakOf lb lc = Some lb
  going ContinueOf lb lc = Some lc
  going (ReturnOf e) lb lc = None
  going (IfOf c a) lb lc = None
  going (IfElseOf c a b) lb lc = None
  going (WhileOf c a) lb lc = None
  going (DoOf a c) lb lc = None
  going (ForOf i c e a) lb lc = None

  pub going_alone : SomeActions → ℕ → ℕ → Option ℕ
  going_alone NoActions lb lc = None
  going_alone (MoreActions a row) lb lc = if_last row (going a lb lc)

-- the number of automatic locals, of functions, and of the first temporary, and where a function's result goes
module _ (size count first : ℕ) (out : Destination) where
  -- a condition that falls through where it holds, and else goes to a label; and one that goes there where it holds
  abbrev pub unless : AnExpression → ℕ → ℕ → Emitted
  unless c to l = (way size count c).branch false to first l

  abbrev pub when : AnExpression → ℕ → ℕ → Emitted
  when c to l = (way size count c).branch true to first l

  abbrev pub effect : Option AnExpression → ℕ → Emitted
  effect None l = nothing first l
  effect (Some e) l = (way size count e).drop first l

  abbrev pub returning : Option AnExpression → ℕ → Emitted
  returning None l = delivered out (due (Num 0) first l)
  returning (Some e) l = (way size count e).deliver out first l

  -- declarations, before the statements behind them
  abbrev pub declare : List ADeclaration → SomeActions → ℕ → Emitted
  declare [] rest l = nothing first l
  declare (KeepOf object ∷ ds) rest l = declare ds rest l
  declare (ClearOf n ∷ ds) rest l =
      two_done (record { items = clearing (is_zeroed n ds rest) n; temps = first; labels = l }) (declare ds rest l)
  declare (BeginOf n e ∷ ds) rest l =
      done_by (begin_of (mentions n e) n ((way size count e).deliver (InLocal n) first l)) (declare ds rest)
  declare (StoreOf t o e ∷ ds) rest l = done_by (stored_in_block size t o ((way size count e).low first l)) (declare ds rest)
  declare (ZerosOf t o n ∷ ds) rest l = done_by (zeros_in_block size first t o n l) (declare ds rest)

  -- An `if` alone, by its statement: where that is a `break` or `continue`, the branch goes there.
  abbrev pub if_by : Option ℕ → AnExpression → (ℕ → Emitted) → ℕ → Emitted
  if_by (Some to) c f l = when c to l
  if_by None c f l = if_of l (unless c l (suc l)) f

  -- A `while`, by its body, behind the labels of `break` and `continue`: where the test is a constant, it stands in front.
  abbrev pub while_by : Option ℕ → AnExpression → (ℕ → ℕ → ℕ → Emitted) → ℕ → Emitted
  while_by (Some v) c f l = while_of l (unless c (suc l) (suc (suc l))) (f (suc l) l)
  while_by None c f l = loop_of (suc l) l (f (suc (suc l)) (suc l) (suc (suc (suc l)))) (when c l)

  -- the test, the body and the step of a `for`
  abbrev pub for_tested : Option ℕ → ℕ → AnExpression → Option AnExpression → (ℕ → Emitted) → Emitted
  for_tested (Some v) l c e f = for_by l (unless c (suc (suc l)) (suc (suc (suc l))))
      (f (unless c (suc (suc l)) (suc (suc (suc l)))).labels) (effect e)
  for_tested None l c e f = turns_by l (f (suc (suc (suc (suc l))))) (effect e) (when c l)

  abbrev pub for_of : ℕ → Option AnExpression → Option AnExpression → (ℕ → Emitted) → Emitted
  for_of l None e f = ever_by l (f (suc (suc (suc l)))) (effect e)
  for_of l (Some c) e f = for_tested (constant_of c) l c e f

  abbrev mutual
    -- a statement, before the others of its block, whose `break` and `continue` go to two labels
    pub lower : AnAction → SomeActions → ℕ → ℕ → ℕ → Emitted
    lower (DeclareOf ds) rest lb lc l = declare ds rest l
    lower (BlockOf row) rest lb lc l = lower_row row lb lc l
    lower (EvaluateOf e) rest lb lc l = (way size count e).drop first l
    lower BreakOf rest lb lc l = record { items = Jump lb ∷ []; temps = first; labels = l }
    lower ContinueOf rest lb lc l = record { items = Jump lc ∷ []; temps = first; labels = l }
    lower (ReturnOf e) rest lb lc l = returning e l
    lower (IfOf c a) rest lb lc l = if_by (going a lb lc) c (lower a NoActions lb lc) l
    lower (IfElseOf c a b) rest lb lc l =
        if_else_of l (unless c l (suc (suc l))) (lower a NoActions lb lc) (lower b NoActions lb lc)
    lower (WhileOf c a) rest lb lc l = while_by (constant_of c) c (lower a NoActions) l
    lower (DoOf a c) rest lb lc l =
        loop_of l l (lower a NoActions (suc (suc l)) (suc l) (suc (suc (suc l)))) (when c l)
    lower (ForOf i c e a) rest lb lc l =
        done_by (effect i l) (λ m. for_of m c e (lower a NoActions (suc (suc m)) (suc m)))

    pub lower_row : SomeActions → ℕ → ℕ → ℕ → Emitted
    lower_row NoActions lb lc l = nothing first l
    lower_row (MoreActions a row) lb lc l = done_by (lower a row lb lc l) (lower_row row lb lc)
