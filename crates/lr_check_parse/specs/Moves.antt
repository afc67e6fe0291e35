-- The parse of a list of leaves by the rules of a description, over whole stacks of symbols, whoever answers its
-- questions. It knows no table.
use Rattle.std.specs.Prelude.{◌≡◌, ℕ, ◌+◌, ◌==◌, List, [], ◌∷◌, Option, Some, None, Bool, Contains, length, drop, slice_get, if◌then◌else◌}
use Rattle.tree_core.specs.declared.token.Tok.{Tok}
use Rattle.tree_core.specs.declared.token.Tok.TheVariants as tok
use Rattle.md_reader.specs.declared.types.Rule.{Rule}
use Rattle.md_reader.specs.declared.types.Sym.{Sym}
use Rattle.md_reader.specs.declared.types.Sym.TheVariants as grammar_symbol
use Rattle.lr_tables.specs.Candidates.{StandsBefore, AreReductions}

-- Who answers. L is a leaf, which has a token, and X what is kept beside the stack of symbols: what a question about a
-- rule is answered, and what is kept behind it; behind a shift; and behind a reduction by the rule with a number,
-- unless that is refused.
pub record Answering (L X : Type 0) : Type 0 where
  pub token : L → Tok
  pub says : Rule → X → Bool
  pub asked : Rule → X → X
  pub shifted : L → X → X
  pub reduced : ℕ → Rule → X → Option X

-- a step of a parse: a leaf is shifted, or the rule with this number is taken
pub data Move (L : Type 0) : Type 0 where
  Shift : (l : L) → Move L
  Reduce : (n : ℕ) → Move L

-- how a parse ends: accepted, with no candidate at an offset, in a circle at an offset, or refused
pub data Ending (X : Type 0) : Type 0 where
  Accepts : (x : X) → Ending X
  Blocks : (at : ℕ) → Ending X
  Loops : (at : ℕ) → Ending X
  Refuses : Ending X

-- which rule is taken, if any, and what is kept behind the questions
pub record Taken (X : Type 0) : Type 0 where
  pub rule : Option ℕ
  pub kept : X

module _ {L X : Type 0} (of : Answering L X) where
  -- the token that comes next: `End` behind the last leaf
  abbrev pub coming : List L → Tok
  coming [] = tok.End
  coming (l ∷ ws) = of.token l

  -- a rule that isn't restricted is taken; else the question decides
  abbrev pub decided : ℕ → Rule → X → (X → Taken X) → Taken X
  decided n r x others =
      if length r.restrictions == 0 then record { rule = Some n; kept = x }
      else if of.says r x then record { rule = Some n; kept = of.asked r x }
      else others (of.asked r x)

  abbrev pub decided_at : ℕ → Option Rule → X → (X → Taken X) → Taken X
  decided_at n None x others = others x
  decided_at n (Some r) x others = decided n r x others

  -- the first of the candidates that isn't restricted or is answered yes
  abbrev pub taken : List Rule → List ℕ → X → Taken X
  taken rules [] x = record { rule = None; kept = x }
  taken rules (n ∷ ns) x = decided_at n (slice_get rules n) x (λ y. taken rules ns y)

module _ {L X : Type 0} (of : Answering L X) (rules : List Rule) (stmt : ℕ) where
  -- the rule that is taken, if any, where nothing is shifted, and what is kept behind the questions
  pub record Choice (ws : List L) (a : List Sym) (x : X) (n : Option ℕ) (y : X) : Type 0 where
    pub no_shift : StandsBefore rules stmt a (grammar_symbol.Tok (coming of ws)) → ⊥
    pub candidates : List ℕ
    pub in_order : AreReductions rules stmt a (coming of ws) candidates
    pub takes : taken of rules candidates x ≡ record { rule = n; kept = y }

  -- The parse from an offset, with the stacks since the last shift, the leaves to come, the stack of symbols, whose top
  -- stands first, and what is kept beside it: its moves, and how it ends.
  pub data Parses : ℕ → List (List Sym) → List L → List Sym → X → List (Move L) → Ending X → Type 0 where
    -- the same stack comes twice without a shift between
    loops : {at : ℕ} {before : List (List Sym)} {ws : List L} {a : List Sym} {x : X} →
        Contains before a →
        Parses at before ws a x [] (Loops at)
    -- the stack is a statement, and the end comes next
    accepts : {at : ℕ} {before : List (List Sym)} {ws : List L} {a : List Sym} {x : X} →
        (Contains before a → ⊥) → a ≡ grammar_symbol.Class stmt ∷ [] → coming of ws ≡ tok.End →
        Parses at before ws a x [] (Accepts x)
    -- a leaf is shifted where an item stands before its token
    shifts : {at : ℕ} {before : List (List Sym)} {l : L} {ws : List L} {a : List Sym} {x : X} {log : List (Move L)} {e : Ending X} →
        (Contains before a → ⊥) → (of.token l ≡ tok.End → ⊥) → StandsBefore rules stmt a (grammar_symbol.Tok (of.token l)) →
        Parses (at + 1) [] ws (grammar_symbol.Tok (of.token l) ∷ a) (of.shifted l x) log e →
        Parses at before (l ∷ ws) a x (Shift l ∷ log) e
    -- a rule is taken
    reduces : {at n : ℕ} {before : List (List Sym)} {ws : List L} {a : List Sym} {x y z : X} {log : List (Move L)}
        {e : Ending X} (r : Rule) →
        (Contains before a → ⊥) → Choice ws a x (Some n) y → slice_get rules n ≡ Some r → of.reduced n r y ≡ Some z →
        Parses at (a ∷ before) ws (grammar_symbol.Class r.left ∷ drop (length r.right) a) z log e →
        Parses at before ws a x (Reduce n ∷ log) e
    -- the reduction is refused
    refuses : {at n : ℕ} {before : List (List Sym)} {ws : List L} {a : List Sym} {x y : X} (r : Rule) →
        (Contains before a → ⊥) → Choice ws a x (Some n) y → slice_get rules n ≡ Some r → of.reduced n r y ≡ None →
        Parses at before ws a x [] Refuses
    -- nothing is taken
    blocks : {at : ℕ} {before : List (List Sym)} {ws : List L} {a : List Sym} {x y : X} →
        (Contains before a → ⊥) → Choice ws a x None y →
        Parses at before ws a x [] (Blocks at)
