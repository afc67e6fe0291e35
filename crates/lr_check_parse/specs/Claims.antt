-- What is said of every parse.
use Rattle.std.specs.Prelude.{◌≡◌, ◌↔◌, ℕ, suc, ◌+◌, ◌*◌, ◌≤◌, List, [], ◌∷◌, ◌++◌, Bool, length, map}
use Rattle.tree_core.specs.declared.token.Sort.TheVariants as sort
use Rattle.tree_core.specs.declared.tree.Leaf.{Leaf}
use Rattle.tree_core.specs.Attributes.{end_leaf}
use Rattle.tree_core.specs.Trees.{IsTyped}
use Rattle.md_reader.specs.declared.types.Rule.{Rule}
use Rattle.md_reader.specs.declared.types.Sym.{Sym}
use Rattle.md_reader.specs.State.{Content}
use Rattle.md_reader.specs.Valid.{IsValid}
use Rattle.lr_tables.specs.Statements.{stmt_of}
use Rattle.lr_tables.specs.View.{TableView}
use Rattle.lr_tables.specs.Promises.{IsNumbered}
use Rattle.lr_check.specs.declared.sample.Outcome.{Outcome}
use Rattle.lr_check.specs.Tree.{Token}
use Rattle.lr_check.specs.Parse.{Part, symbols, Ends}
use Rattle.lr_check_parse.specs.Moves.{Answering, Move, Ending, Parses}
use Rattle.lr_check_parse.specs.Lists.{Lists, by_lists, answers_of, EndsSo}
use Rattle.lr_check_parse.specs.Typed.{IsStatement}

-- ---- whoever answers

-- The moves and the end are no choice. So a refusal comes exactly where a reduction is refused.
abbrev pub IsOneWay : {L X : Type 0} → Answering L X → Type 0
IsOneWay {L = L} {X = X} of =
    (rules : List Rule) (stmt at : ℕ) (before : List (List Sym)) (w : List L) (a : List Sym) (x : X) (log log' : List (Move L))
    (e e' : Ending X)
    → Parses of rules stmt at before w a x log e → Parses of rules stmt at before w a x log' e' → (log ≡ log') × (e ≡ e')

-- it makes at most so many moves: what a loop over them needs
abbrev pub IsBounded : {L X : Type 0} → Answering L X → Type 0
IsBounded {L = L} {X = X} of =
    (d : Content) → IsValid d → (w : List L) (x : X) (log : List (Move L)) (e : Ending X)
    → Parses of d.rules (stmt_of d.classes) 0 [] w [] x log e → length log ≤ 2 * length w * (length d.classes + 1) + length d.classes

-- by the tables of a description each list of leaves has a parse
abbrev pub HasEnd : {L X : Type 0} → Answering L X → Type 0
HasEnd {L = L} {X = X} of =
    (t : TableView) → IsValid t.content → IsNumbered t → (w : List L) (x : X)
    → (log : List (Move L)) × (e : Ending X) × Parses of t.content.rules (stmt_of t.content.classes) 0 [] w [] x log e

-- ---- by lists of answers

-- its moves
pub record HasMoves (rules : List Rule) (stmt at : ℕ) (before : List (List Sym)) (ws : List Token) (s : List Part)
    (o : Outcome) : Type 0 where
  pub log : List (Move Token)
  pub end : Ending Lists
  pub same : EndsSo end o
  pub parses : Parses by_lists rules stmt at before ws (symbols s) (answers_of s) log end

-- The parse that `replay` makes, whose symbols carry lists of answers, is the parse that is answered by lists.
abbrev pub IsByLists : Type 0
IsByLists =
    (rules : List Rule) (stmt at : ℕ) (before : List (List Sym)) (ws : List Token) (s : List Part) (o : Outcome)
    → Ends rules stmt at before ws s o ↔ HasMoves rules stmt at before ws s o

-- ---- the answers that a parse gave

-- a stack of symbols, each with answers: those for the top first
abbrev pub labelled : List Sym → (ℕ → List Bool) → List Part
labelled [] f = []
labelled (X ∷ a) f = record { symbol = X; answers = f 0 } ∷ labelled a (λ i. f (suc i))

-- leaves as tokens with answers
abbrev pub questioned : {L X : Type 0} → Answering L X → List L → (ℕ → List Bool) → List Token
questioned of [] f = []
questioned of (l ∷ ws) f = record { tok = of.token l; answers = f 0 } ∷ questioned of ws (λ i. f (suc i))

-- some answers lead the parse to this end: those of the stack's nodes and those of the leaves to come
pub record HasAnswers {L X : Type 0} (of : Answering L X) (rules : List Rule) (stmt at : ℕ) (before : List (List Sym)) (ws : List L)
    (a : List Sym) (o : Outcome) : Type 0 where
  pub left : ℕ → List Bool
  pub to_come : ℕ → List Bool
  pub ends : Ends rules stmt at before (questioned of ws to_come) (labelled a left) o

-- Each parse that isn't refused is the parse by the answers that it gave.
abbrev pub IsAnswered : {L X : Type 0} → Answering L X → Type 0
IsAnswered {L = L} {X = X} of =
    (d : Content) → IsValid d → (at : ℕ) (before : List (List Sym)) (w : List L) (a : List Sym) (x : X) (log : List (Move L))
    (e : Ending X) (o : Outcome)
    → Parses of d.rules (stmt_of d.classes) at before w a x log e → EndsSo e o → HasAnswers of d.rules (stmt_of d.classes) at before w a o

-- ---- typed statement trees

-- leaves of a typed statement tree have tokens of one
abbrev pub LeavesAreTokens : Type 0
LeavesAreTokens = (w : List Leaf) → IsTyped (w ++ end_leaf ∷ []) sort.Stmt → IsStatement (map (λ (l : Leaf). l.tok) w)
