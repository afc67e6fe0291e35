-- The items that are valid for a stack, a least set over whole stacks, and what the laws ask of an automaton.
use Rattle.std.specs.Prelude.{◌≡◌, ℕ, ◌<◌, List, [], ◌∷◌, ◌++◌, Some, Contains, map, false, slice_get}
use Rattle.tree_core.specs.declared.token.Tok.{Tok}
use Rattle.tree_core.specs.declared.token.Tok.TheVariants as tok
use Rattle.md_reader.specs.declared.types.Sym.{Sym}
use Rattle.md_reader.specs.declared.types.Sym.TheVariants as grammar_symbol
use Rattle.lr_check_sets.specs.Automaton.{Production, Automaton, Candidate, shift, reduce, walk, size_of}

-- the start, `stmt End`
abbrev pub start_of : ℕ → Production
start_of stmt = record { left = stmt; right = grammar_symbol.Class stmt ∷ grammar_symbol.Tok tok.End ∷ []; asks = false }

-- the rule is valid for the stack with the dot before the rest of its right side; the stack's top stands first
pub data Item (G : List Production) (stmt : ℕ) : List Sym → Production → List Sym → Type 0 where
  starts : {r : Production} {rest : List Sym} → r ≡ start_of stmt → r.right ≡ rest → Item G stmt [] r rest
  opens : {a : List Sym} {s : Production} {c : ℕ} {after : List Sym} {r : Production} {rest : List Sym}
      → Item G stmt a s (grammar_symbol.Class c ∷ after) →
      Contains G r → r.left ≡ c → r.right ≡ rest → Item G stmt a r rest
  moves : {a : List Sym} {r : Production} {X : Sym} {rest : List Sym} → Item G stmt a r (X ∷ rest) → Item G stmt (X ∷ a) r rest

-- longer right sides go first
abbrev pub IsLongestFirst : List Production → Type 0
IsLongestFirst rs = (i j : ℕ) (r s : Production) → i < j → slice_get rs i ≡ Some r → slice_get rs j ≡ Some s → (size_of r < size_of s → ⊥)

-- complete rules, longer ones first
pub record AreReductions (G : List Production) (stmt : ℕ) (a : List Sym) (rs : List Production) : Type 0 where
  pub ordered : IsLongestFirst rs
  pub each : (r : Production) → Contains rs r → Item G stmt a r [] × Contains G r

-- the candidates at a stack and a next token: the shift alone where an item stands before the token, else reductions
pub data AreCandidates (G : List Production) (stmt : ℕ) (a : List Sym) (t : Tok) : List Candidate → Type 0 where
  the_shift : {after : List Sym} (r : Production) → Item G stmt a r (grammar_symbol.Tok t ∷ after) → AreCandidates G stmt a t (shift ∷ [])
  the_reductions : {cs : List Candidate} (rs : List Production) →
      ((r : Production) (after : List Sym) → Item G stmt a r (grammar_symbol.Tok t ∷ after) → ⊥) → AreReductions G stmt a rs
      → cs ≡ map reduce rs →
      AreCandidates G stmt a t cs

-- at each stack that leads to a state: the state leads on exactly where an item stands before the symbol, and its
-- candidates are those of the items
pub record IsAutomatonOf (G : List Production) (A : Automaton) : Type 0 where
  pub goes_where : (a : List Sym) (p : ℕ) (X : Sym) (r : Production) (after : List Sym) →
      walk A 0 a ≡ Some p → Item G A.stmt a r (X ∷ after) → (p' : ℕ) × (A.go p X ≡ Some p')
  pub goes_only : (a : List Sym) (p : ℕ) (X : Sym) (p' : ℕ) →
      walk A 0 a ≡ Some p → A.go p X ≡ Some p' → (r : Production) × ((after : List Sym) × Item G A.stmt a r (X ∷ after))
  pub candidates : (a : List Sym) (p : ℕ) (t : Tok) → walk A 0 a ≡ Some p → AreCandidates G A.stmt a t (A.candidates p t)

-- no rule has the end in its right side
abbrev pub HasNoEnd : List Production → Type 0
HasNoEnd G = (r : Production) → Contains G r → Contains r.right (grammar_symbol.Tok tok.End) → ⊥

abbrev pub HasNoEmpty : List Production → Type 0
HasNoEmpty G = (r : Production) → Contains G r → 0 < size_of r
