-- What is claimed of the trees of lowering, whatever the program.
use Rattle.std.specs.Prelude.{◌≡◌, ℕ, List, [], ◌∷◌, ◌++◌, length, Some, slice_get}
use Rattle.tree_core.specs.declared.tree.Leaf.{Leaf}
use Rattle.tree_core.specs.declared.program.TreeItem.{TreeItem}
use Rattle.tree_core.specs.declared.program.TreeItem.TheVariants as tree_item
use Rattle.tree_core.specs.declared.program.TreeFn.{TreeFn}
use Rattle.tree_core.specs.declared.program.TreeProgram.{TreeProgram}
use Rattle.tree_core.specs.Calm.{Calm}
use Rattle.c_types.specs.Typed.{APlace, AnExpression, AssignTo, place_type}
use Rattle.c_program.specs.Statements.{AnAction, SomeActions, NoActions, MoreActions, DeclareOf, BlockOf, EvaluateOf}
use Rattle.c_program.specs.Statements.{BreakOf, ContinueOf, ReturnOf, IfOf, IfElseOf, WhileOf, DoOf, ForOf}
use Rattle.c_program.specs.Programs.{ARoutine, AProgram}
use Rattle.c_lower_scheme.specs.Trees.{Item, Ret}
use Rattle.c_lower_scheme.specs.Parts.{Emitted, Destination, AsResult}
use Rattle.c_lower_scheme.specs.Places.{assign_to}
use Rattle.c_lower_scheme.specs.Statements.{lower}
use Rattle.c_lower_scheme.specs.Spelling.{spelled}
use Rattle.c_lower_scheme.specs.Programs.{lowered}
use Rattle.c_lower_calm.specs.Plain.{PlainPlace, Plain, place_at, plain_tree}

-- In none of a program's trees is memory read behind a division.
abbrev pub TreesAreCalm : TreeProgram → Type 0
TreesAreCalm q = (f n : ℕ) (tf : TreeFn) (w : List Leaf) → slice_get q.functions f ≡ Some tf → slice_get tf.items n
    ≡ Some (tree_item.Root w) → Calm w

-- The trees that a program is lowered to are calm.
abbrev pub EachTreeIsCalm : Type 0
EachTreeIsCalm = (p : AProgram) → TreesAreCalm (lowered p)

-- an item whose tree is calm
abbrev pub SpellsCalm : Item → Type 0
SpellsCalm i = (w : List Leaf) → spelled i ≡ tree_item.Root w → Calm w

-- a statement becomes one item, and takes neither a temporary nor a label
abbrev pub only : Item → ℕ → ℕ → Emitted
only i size l = record { items = i ∷ []; temps = size; labels = l }

-- the items of `return e`, and of `a = e`, where place and value are plain, in a function with so many automatic locals
abbrev pub returned : ℕ → AnExpression → Item
returned size e = Ret (plain_tree size e)

abbrev pub stored : ℕ → APlace → AnExpression → Item
stored size p e = assign_to (place_type p) (place_at size p) (plain_tree size e)

-- the statements of a body in the order of the text, but for blocks, `if` and loops, whose parts stand in their place
abbrev mutual
  pub simple : AnAction → List AnAction
  simple (DeclareOf ds) = DeclareOf ds ∷ []
  simple (BlockOf row) = simple_of row
  simple (EvaluateOf e) = EvaluateOf e ∷ []
  simple BreakOf = BreakOf ∷ []
  simple ContinueOf = ContinueOf ∷ []
  simple (ReturnOf e) = ReturnOf e ∷ []
  simple (IfOf c a) = simple a
  simple (IfElseOf c a b) = simple a ++ simple b
  simple (WhileOf c a) = simple a
  simple (DoOf a c) = simple a
  simple (ForOf i c e a) = simple a

  pub simple_of : SomeActions → List AnAction
  simple_of NoActions = []
  simple_of (MoreActions a row) = simple a ++ simple_of row

-- The item of a plain `return e` or `a = e`, in a function with so many automatic locals and so many bytes of memory locals. Where it has
-- any, a `return` gives them back too.
pub data IsPlainOne (size block : ℕ) : AnAction → Item → Type 0 where
  Returns : (e : AnExpression) → block ≡ 0 → Plain e → IsPlainOne size block (ReturnOf (Some e)) (returned size e)
  Stores : (p : APlace) (e : AnExpression) → PlainPlace p → Plain e → IsPlainOne size block (EvaluateOf (AssignTo p e)) (stored size p e)

-- Each of these statements has its items among a function's, one statement's behind another's; those of a plain
-- `return` or assignment whose tree is calm are that one root.
pub data HaveItems (size block : ℕ) : List AnAction → List TreeItem → Type 0 where
  Ended : (items : List TreeItem) → HaveItems size block [] items
  Next : (a : AnAction) (acts : List AnAction) (before own behind : List TreeItem) →
      ((i : Item) → IsPlainOne size block a i → SpellsCalm i → own ≡ spelled i ∷ []) → HaveItems size block acts behind
      → HaveItems size block (a ∷ acts) (before ++ (own ++ behind))

-- In each function of the trees the plain statements of the program's function are one root each, in the order of the text.
abbrev pub PlainStatementsStand : AProgram → TreeProgram → Type 0
PlainStatementsStand p q =
    (n : ℕ) (g : ARoutine) (f : TreeFn) → slice_get p.routines n ≡ Some g → slice_get q.functions n ≡ Some f
    → HaveItems (length g.locals) g.block (simple_of g.body) f.items

-- So it is for each program.
abbrev pub PlainStatementsAreOneTree : Type 0
PlainStatementsAreOneTree = (p : AProgram) → PlainStatementsStand p (lowered p)

-- A plain statement whose tree is calm is that one tree, a `return` in a function that has no memory locals.
pub record PlainIsOneTree : Type 0 where
  pub returns : (size count first lb lc l : ℕ) (rest : SomeActions) (e : AnExpression) → Plain e → SpellsCalm (returned size e)
      → lower size count first AsResult (ReturnOf (Some e)) rest lb lc l ≡ only (returned size e) first l
  pub stores : (size count first : ℕ) (out : Destination) (lb lc l : ℕ) (rest : SomeActions) (p : APlace) (e : AnExpression)
      → PlainPlace p → Plain e → SpellsCalm (stored size p e)
      → lower size count first out (EvaluateOf (AssignTo p e)) rest lb lc l ≡ only (stored size p e) first l
