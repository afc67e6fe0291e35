-- The parse of a tree by the rules of a description, over whole stacks of symbols: it knows no table.
use Rattle.std.specs.Prelude.{◌≡◌, ℕ, zero, suc, ◌+◌, ◌-◌, ◌<◌, ◌≤◌, List, [], ◌∷◌, Option, Some, None, Bool, true}
use Rattle.std.specs.Prelude.{false, Contains, length, map, drop, slice_get, slice_index_or}
use Rattle.std.specs.Option.{option_map_or}
use Rattle.tree_core.specs.declared.token.Tok.{Tok}
use Rattle.tree_core.specs.declared.token.Tok.TheVariants as tok
use Rattle.md_reader.specs.declared.types.Rule.{Rule}
use Rattle.md_reader.specs.declared.types.Sym.{Sym}
use Rattle.md_reader.specs.declared.types.Sym.TheVariants as grammar_symbol
use Rattle.md_reader.specs.State.{Content}
use Rattle.lr_tables.specs.Statements.{stmt_of}
use Rattle.lr_tables.specs.Candidates.{StandsBefore, AreReductions}
use Rattle.lr_check.specs.declared.sample.Outcome.{Outcome}
use Rattle.lr_check.specs.declared.sample.Outcome.TheVariants as outcome
use Rattle.lr_check.specs.Tree.{Node, Token, IsTree}

-- a symbol on the stack, and the answers not yet used of the node with whose token its part of the tree
-- begins
pub record Part : Type 0 where
  pub symbol : Sym
  pub answers : List Bool

-- a stack has its top first
abbrev pub symbols : List Part → List Sym
symbols s = map (λ (p : Part). p.symbol) s

-- the token that comes next: `End` behind the last
abbrev pub coming : List Token → Tok
coming [] = tok.End
coming (w ∷ ws) = w.tok

abbrev pub answers_at : List Part → ℕ → List Bool
answers_at s depth = option_map_or (λ (p : Part). p.answers) (slice_get s depth) []

-- the answers of the node that a right side covers on the stack: it begins where the first symbol does
abbrev pub owner_answers : List Part → Rule → List Bool
owner_answers s r = answers_at s (length r.right - 1)

-- a question takes the next answer; a missing answer is no
abbrev pub answer : List Bool → Bool
answer answers = slice_index_or answers 0 false

abbrev pub used_at : ℕ → List Part → List Part
used_at depth [] = []
used_at zero (p ∷ s) = record { symbol = p.symbol; answers = drop 1 p.answers } ∷ s
used_at (suc depth) (p ∷ s) = p ∷ used_at depth s

-- the stack behind a question of the node that a right side covers
abbrev pub asked : List Part → Rule → List Part
asked s r = used_at (length r.right - 1) s

-- of the rules, in order, the first is taken that is not restricted or is answered yes; and the stack
-- behind the questions
pub data Takes (rules : List Rule) : List Part → List ℕ → Option ℕ → List Part → Type 0 where
  nothing : {s : List Part} → Takes rules s [] None s
  unrestricted : {s : List Part} {n : ℕ} {ns : List ℕ} (r : Rule) →
      slice_get rules n ≡ Some r → length r.restrictions ≡ 0 →
      Takes rules s (n ∷ ns) (Some n) s
  answered_yes : {s : List Part} {n : ℕ} {ns : List ℕ} (r : Rule) →
      slice_get rules n ≡ Some r → 0 < length r.restrictions → answer (owner_answers s r) ≡ true →
      Takes rules s (n ∷ ns) (Some n) (asked s r)
  answered_no : {s s' : List Part} {n : ℕ} {ns : List ℕ} {taken : Option ℕ} (r : Rule) →
      slice_get rules n ≡ Some r → 0 < length r.restrictions → answer (owner_answers s r) ≡ false → Takes rules (asked s r) ns taken s' →
      Takes rules s (n ∷ ns) taken s'

-- the class in the place of the right side, with the node that the right side covers
abbrev pub reduced : List Part → Rule → List Part
reduced s r = record { symbol = grammar_symbol.Class r.left; answers = owner_answers s r } ∷ drop (length r.right) s

-- which rule is taken, if any, where nothing is shifted
pub record Reduction (rules : List Rule) (stmt : ℕ) (ws : List Token) (s : List Part) (taken : Option ℕ) (s' : List Part) : Type 0 where
  pub no_shift : StandsBefore rules stmt (symbols s) (grammar_symbol.Tok (coming ws)) → ⊥
  pub candidates : List ℕ
  pub in_order : AreReductions rules stmt (symbols s) (coming ws) candidates
  pub takes : Takes rules s candidates taken s'

-- how the parse ends: at an offset, with the stacks that stood since the last shift, the tokens to come
-- and the stack
pub data Ends (rules : List Rule) (stmt : ℕ) : ℕ → List (List Sym) → List Token → List Part → Outcome → Type 0 where
  -- the same stack comes twice without a shift between
  loops : {at : ℕ} {before : List (List Sym)} {ws : List Token} {s : List Part} →
      Contains before (symbols s) →
      Ends rules stmt at before ws s (outcome.Loops at)
  -- the stack is a statement, and the end comes next
  accepts : {at : ℕ} {before : List (List Sym)} {ws : List Token} {s : List Part} →
      (Contains before (symbols s) → ⊥) → symbols s ≡ grammar_symbol.Class stmt ∷ [] → coming ws ≡ tok.End →
      Ends rules stmt at before ws s outcome.Done
  -- a token is shifted where an item stands before it
  shifts : {at : ℕ} {before : List (List Sym)} {w : Token} {ws : List Token} {s : List Part} {o : Outcome} →
      (Contains before (symbols s) → ⊥) → (w.tok ≡ tok.End → ⊥) → StandsBefore rules stmt (symbols s) (grammar_symbol.Tok w.tok) →
      Ends rules stmt (at + 1) [] ws (record { symbol = grammar_symbol.Tok w.tok; answers = w.answers } ∷ s) o →
      Ends rules stmt at before (w ∷ ws) s o
  -- a rule is taken
  reduces : {at n : ℕ} {before : List (List Sym)} {ws : List Token} {s s' : List Part} {o : Outcome} (r : Rule) →
      (Contains before (symbols s) → ⊥) → Reduction rules stmt ws s (Some n) s' → slice_get rules n ≡ Some r →
      Ends rules stmt at (symbols s ∷ before) ws (reduced s' r) o →
      Ends rules stmt at before ws s o
  -- nothing is taken
  blocks : {at : ℕ} {before : List (List Sym)} {ws : List Token} {s s' : List Part} →
      (Contains before (symbols s) → ⊥) → Reduction rules stmt ws s None s' →
      Ends rules stmt at before ws s (outcome.Blocks at)

-- how the parse of the nodes' tree ends by a description, or that it has more than 100,000 tokens
pub data Replays (d : Content) (nodes : List Node) : Outcome → Type 0 where
  is_long : (w : List Token) → IsTree nodes w → 100000 < length w → Replays d nodes outcome.Long
  is_parsed : {o : Outcome} (w : List Token) →
      IsTree nodes w → length w ≤ 100000 → Ends d.rules (stmt_of d.classes) 0 [] w [] o →
      Replays d nodes o
