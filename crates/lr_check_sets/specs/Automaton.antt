-- The parse by an automaton, whatever questions answer.
use Rattle.std.specs.Prelude.{◌≡◌, ◌⊎◌, ℕ, ◌≤◌, ◌<◌, List, [], ◌∷◌, Option, Some, None, length, drop, Bool, true}
use Rattle.tree_core.specs.declared.token.Tok.{Tok}
use Rattle.tree_core.specs.declared.token.Tok.TheVariants as tok
use Rattle.md_reader.specs.declared.types.Sym.{Sym}
use Rattle.md_reader.specs.declared.types.Sym.TheVariants as grammar_symbol

-- a rule as the proofs see it
pub record Production : Type 0 where
  pub left : ℕ
  pub right : List Sym
  pub asks : Bool

-- what may be done at a stack and a next token
pub data Candidate : Type 0 where
  shift : Candidate
  reduce : Production → Candidate

-- an automaton: the start is state 0
pub record Automaton : Type 0 where
  pub stmt : ℕ
  pub go : ℕ → Sym → Option ℕ
  pub candidates : ℕ → Tok → List Candidate

abbrev pub go_from : Automaton → Option ℕ → Sym → Option ℕ
go_from A None X = None
go_from A (Some q) X = A.go q X

-- the state behind a list of symbols, the last of which stands first
abbrev pub walk : Automaton → ℕ → List Sym → Option ℕ
walk A q [] = Some q
walk A q (X ∷ s) = go_from A (walk A q s) X

-- the length of a rule's right side
abbrev pub size_of : Production → ℕ
size_of r = length r.right

-- some answers take this candidate
abbrev pub Free : List Candidate → Candidate → Type 0
Free [] c = ⊥
Free (shift ∷ cs) c = c ≡ shift
Free (reduce r ∷ cs) c = (c ≡ reduce r) ⊎ ((r.asks ≡ true) × Free cs c)

-- some answers take none of the candidates
abbrev pub CanBlock : List Candidate → Type 0
CanBlock [] = Unit {0}
CanBlock (shift ∷ cs) = ⊥
CanBlock (reduce r ∷ cs) = (r.asks ≡ true) × CanBlock cs

-- the stack behind a reduction
abbrev pub reduced : Production → List Sym → List Sym
reduced r a = grammar_symbol.Class r.left ∷ drop (size_of r) a

abbrev pub stack_after : Candidate → Tok → List Sym → List Sym
stack_after shift t a = grammar_symbol.Tok t ∷ a
stack_after (reduce r) t a = reduced r a

abbrev pub rest_after : Candidate → Tok → List Tok → List Tok
rest_after shift t w = w
rest_after (reduce r) t w = t ∷ w

-- the parse from this stack and these tokens ends with Accept, whatever questions answer
pub data Ends (A : Automaton) : List Sym → List Tok → Type 0 where
  accepts : Ends A (grammar_symbol.Class A.stmt ∷ []) (tok.End ∷ [])
  goes : {a : List Sym} {t : Tok} {w : List Tok} {p : ℕ} → walk A 0 a ≡ Some p → (CanBlock (A.candidates p t) → ⊥) →
      ((c : Candidate) → Free (A.candidates p t) c → Ends A (stack_after c t a) (rest_after c t w)) → Ends A a (t ∷ w)

-- the candidate is a reduction inside the list
abbrev pub Inside : Candidate → List Sym → Type 0
Inside shift s = ⊥
Inside (reduce r) s = size_of r ≤ length s

abbrev pub Outside : Candidate → List Sym → Type 0
Outside shift s = Unit {0}
Outside (reduce r) s = length s < size_of r

-- what the parse asks of an automaton, whatever its states are
pub record IsTable (A : Automaton) : Type 0 where
  pub shift_alone : (a : List Sym) (p : ℕ) (t : Tok) (p' : ℕ) → walk A 0 a ≡ Some p → A.go p (grammar_symbol.Tok t) ≡ Some p'
      → A.candidates p t ≡ shift ∷ []
  pub accept : (a : List Sym) (p : ℕ) → walk A 0 a ≡ Some p → Free (A.candidates p tok.End) shift → a ≡ grammar_symbol.Class A.stmt ∷ []
  pub reduces : (a : List Sym) (p : ℕ) (t : Tok) (r : Production) → walk A 0 a ≡ Some p → Free (A.candidates p t) (reduce r) →
      (size_of r ≤ length a) × ((p' : ℕ) × (walk A 0 (reduced r a) ≡ Some p'))
  pub nonempty : (a : List Sym) (p : ℕ) (t : Tok) (r : Production) → walk A 0 a ≡ Some p → Free (A.candidates p t) (reduce r)
      → 0 < size_of r
