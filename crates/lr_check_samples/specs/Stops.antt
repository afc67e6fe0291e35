-- The parse of tokens over a description's rules, of whatever length, step by step, and where it stops: it knows no table.
use Rattle.std.specs.Prelude.{◌≡◌, ℕ, List, [], ◌∷◌, Some, None, map, slice_get}
use Rattle.tree_core.specs.declared.token.Tok.{Tok}
use Rattle.tree_core.specs.declared.token.Tok.TheVariants as tok
use Rattle.md_reader.specs.declared.types.Rule.{Rule}
use Rattle.md_reader.specs.declared.types.Sym.TheVariants as grammar_symbol
use Rattle.md_reader.specs.State.{Content}
use Rattle.lr_tables.specs.Statements.{stmt_of}
use Rattle.lr_tables.specs.Candidates.{StandsBefore}
use Rattle.lr_check.specs.Tree.{Token}
use Rattle.lr_check.specs.declared.sample.Outcome.TheVariants as outcome
use Rattle.lr_check.specs.Parse.{Part, symbols, reduced, Reduction, Ends}
use Rattle.lr_check_parse.specs.Typed.{IsStatement}

-- the tokens without their answers
abbrev pub tokens : List Token → List Tok
tokens w = map (λ (l : Token). l.tok) w

-- a token is shifted where an item stands before it, or a rule is taken
pub data Moves (rules : List Rule) (stmt : ℕ) : List Token → List Part → List Token → List Part → Type 0 where
  by_shift : {w : Token} {ws : List Token} {s : List Part} →
      (w.tok ≡ tok.End → ⊥) → StandsBefore rules stmt (symbols s) (grammar_symbol.Tok w.tok) →
      Moves rules stmt (w ∷ ws) s ws (record { symbol = grammar_symbol.Tok w.tok; answers = w.answers } ∷ s)
  by_rule : {n : ℕ} {ws : List Token} {s s' : List Part} (r : Rule) →
      Reduction rules stmt ws s (Some n) s' → slice_get rules n ≡ Some r →
      Moves rules stmt ws s ws (reduced s' r)

-- some moves
pub data Comes (rules : List Rule) (stmt : ℕ) : List Token → List Part → List Token → List Part → Type 0 where
  at_once : {ws : List Token} {s : List Part} → Comes rules stmt ws s ws s
  by_move : {ws us vs : List Token} {s a b : List Part} → Moves rules stmt ws s us a → Comes rules stmt us a vs b →
      Comes rules stmt ws s vs b

-- some reductions, at least one, and no shift
pub data Turns (rules : List Rule) (stmt : ℕ) (ws : List Token) : List Part → List Part → Type 0 where
  one_turn : {s a : List Part} → Moves rules stmt ws s ws a → Turns rules stmt ws s a
  more_turns : {s a b : List Part} → Moves rules stmt ws s ws a → Turns rules stmt ws a b → Turns rules stmt ws s b

-- the parse comes to a stack at which nothing is taken
pub record Blocks (d : Content) (w : List Token) : Type 0 where
  pub rest : List Token
  pub stack : List Part
  pub behind : List Part
  pub comes : Comes d.rules (stmt_of d.classes) w [] rest stack
  pub nothing : Reduction d.rules (stmt_of d.classes) rest stack None behind

-- the same stack comes twice without a shift between
pub record Loops (d : Content) (w : List Token) : Type 0 where
  pub rest : List Token
  pub first : List Part
  pub second : List Part
  pub comes : Comes d.rules (stmt_of d.classes) w [] rest first
  pub turns : Turns d.rules (stmt_of d.classes) rest first second
  pub same : symbols first ≡ symbols second

-- a typed statement whose parse blocks by its own answers
pub record Blocking (d : Content) (w : List Token) : Type 0 where
  pub statement : IsStatement (tokens w)
  pub blocks : Blocks d w

-- a typed statement whose parse turns by its own answers
pub record Looping (d : Content) (w : List Token) : Type 0 where
  pub statement : IsStatement (tokens w)
  pub loops : Loops d w

-- how the parse of `lr_check` ends, which stops at the first stack that comes twice
pub data EndsAt (d : Content) (w : List Token) : Type 0 where
  ends_blocked : (at : ℕ) → Ends d.rules (stmt_of d.classes) 0 [] w [] (outcome.Blocks at) → EndsAt d w
  ends_turning : (at : ℕ) → Ends d.rules (stmt_of d.classes) 0 [] w [] (outcome.Loops at) → EndsAt d w

-- it ends with turning
pub record EndsTurning (d : Content) (w : List Token) : Type 0 where
  pub at : ℕ
  pub ends : Ends d.rules (stmt_of d.classes) 0 [] w [] (outcome.Loops at)
