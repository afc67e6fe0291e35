-- What is wrong with an automaton, seen from the sets: a token that is not shifted, a list at which nothing may be
-- taken, and reductions without end.
use Rattle.std.specs.Prelude.{◌≡◌, ℕ, List, [], Some, length}
use Rattle.tree_core.specs.declared.token.Tok.{Tok}
use Rattle.md_reader.specs.declared.types.Sym.{Sym}
use Rattle.md_reader.specs.declared.types.Sym.TheVariants as grammar_symbol
use Rattle.lr_check_sets.specs.Automaton.{Automaton, Production, reduce, walk, size_of, Free, CanBlock, reduced}
use Rattle.lr_check_sets.specs.Sums.{Place, Partly, Settling}

-- every way to go on with reductions of the whole list comes to an end
pub data Calms (A : Automaton) (q : ℕ) (t : Tok) : List Sym → Type 0 where
  calms : {s : List Sym} →
      ((r : Production) (p : ℕ) → walk A q s ≡ Some p → Free (A.candidates p t) (reduce r) → size_of r ≡ length s
      → Calms A q t (reduced r s)) →
      Calms A q t s

pub record NoFault (A : Automaton) : Type 0 where
  pub shifts : (q : ℕ) (k t : Tok) → Place A q k t → (p : ℕ) × (A.go q (grammar_symbol.Tok k) ≡ Some p)
  pub takes : (q : ℕ) (k t : Tok) (s : List Sym) (p : ℕ) → Settling A q k t s → walk A q s ≡ Some p → CanBlock (A.candidates p t) → ⊥
  pub ends : (q : ℕ) (k t : Tok) (s : List Sym) → Partly A q k t s [] t → Calms A q t s

-- reductions of the whole list, at least one, with t next, lead from a list to a list
pub data Circles (A : Automaton) (q : ℕ) (t : Tok) : List Sym → List Sym → Type 0 where
  one : {s : List Sym} {p : ℕ} (r : Production) →
      walk A q s ≡ Some p → Free (A.candidates p t) (reduce r) → size_of r ≡ length s →
      Circles A q t s (reduced r s)
  more : {s s' : List Sym} {p : ℕ} (r : Production) →
      Circles A q t s s' → walk A q s' ≡ Some p → Free (A.candidates p t) (reduce r) → size_of r ≡ length s' →
      Circles A q t s (reduced r s')

-- one of the three
pub data Fault (A : Automaton) : Type 0 where
  gap : {q : ℕ} {k t : Tok} → Place A q k t → ((p : ℕ) → A.go q (grammar_symbol.Tok k) ≡ Some p → ⊥) → Fault A
  dead : {q p : ℕ} {k t : Tok} {s : List Sym} → Settling A q k t s → walk A q s ≡ Some p → CanBlock (A.candidates p t) → Fault A
  circle : {q : ℕ} {k t : Tok} {s : List Sym} → Settling A q k t s → Circles A q t s s → Fault A
