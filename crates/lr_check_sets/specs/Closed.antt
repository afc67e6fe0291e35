-- What shows that an automaton has no fault: predicates over places, settlings and sums that are closed under the
-- rules by which the sets are made, and of which none of the faults is true. No least set need be known.
use Rattle.std.specs.Prelude.{◌≡◌, ℕ, List, [], ◌∷◌, ◌++◌, Some, Bool, true, length}
use Rattle.tree_core.specs.declared.token.Tok.{Tok}
use Rattle.tree_core.specs.declared.token.Tok.TheVariants as tok
use Rattle.tree_core.specs.declared.token.Sort.{Sort}
use Rattle.tree_core.specs.declared.token.Sort.TheVariants as sort
use Rattle.tree_core.specs.Grammar.{kids}
use Rattle.md_reader.specs.declared.types.Sym.{Sym}
use Rattle.md_reader.specs.declared.types.Sym.TheVariants as grammar_symbol
use Rattle.lr_check_sets.specs.Trees.{May}
use Rattle.lr_check_sets.specs.Automaton.{Automaton, Production, Candidate, reduce, walk, size_of, Free, CanBlock, reduced, Outside}
use Rattle.lr_check_sets.specs.Faults.{Calms, NoFault}

-- closed under the rules; tokens have at most two kids
pub record IsClosed (A : Automaton) (P : ℕ → Tok → Tok → Type 0) (T S : ℕ → Tok → Tok → List Sym → Type 0) : Type 0 where
  pub starts : (k : Tok) → May k sort.Stmt → P 0 k tok.End
  pub alone : (q p : ℕ) (k b : Tok) → P q k b → kids k ≡ [] → A.go q (grammar_symbol.Tok k) ≡ Some p → T q k b (grammar_symbol.Tok k ∷ [])
  -- the only kid, and what it comes to
  pub only : (q p : ℕ) (k b n : Tok) (x : Sort) → P q k b → kids k ≡ x ∷ [] → A.go q (grammar_symbol.Tok k) ≡ Some p → May n x → P p n b
  pub only_in : (q p : ℕ) (k b n : Tok) (x : Sort) (s : List Sym) →
      P q k b → kids k ≡ x ∷ [] → A.go q (grammar_symbol.Tok k) ≡ Some p → May n x → S p n b s → T q k b (s ++ (grammar_symbol.Tok k ∷ []))
  -- the first of two kids, with a token behind it that may begin the second
  pub first : (q p : ℕ) (k b n m : Tok) (x y : Sort) →
      P q k b → kids k ≡ x ∷ y ∷ [] → A.go q (grammar_symbol.Tok k) ≡ Some p → May n x → May m y → P p n m
  -- the second, behind each list that the first comes to
  pub second : (q p j : ℕ) (k b n m : Tok) (x y : Sort) (s : List Sym) →
      P q k b → kids k ≡ x ∷ y ∷ [] → A.go q (grammar_symbol.Tok k) ≡ Some p → May n x → May m y → S p n m s →
      walk A q (s ++ (grammar_symbol.Tok k ∷ [])) ≡ Some j → P j m b
  pub both_in : (q p j : ℕ) (k b n m : Tok) (x y : Sort) (s z : List Sym) →
      P q k b → kids k ≡ x ∷ y ∷ [] → A.go q (grammar_symbol.Tok k) ≡ Some p → May n x → May m y → S p n m s →
      walk A q (s ++ (grammar_symbol.Tok k ∷ [])) ≡ Some j → S j m b z → T q k b (z ++ (s ++ (grammar_symbol.Tok k ∷ [])))
  -- reductions of the whole list, and what leads out of it
  pub settles : (q p : ℕ) (k b : Tok) (s : List Sym) (r : Production) →
      T q k b s → walk A q s ≡ Some p → Free (A.candidates p b) (reduce r) → size_of r ≡ length s → T q k b (reduced r s)
  pub sums : (q p : ℕ) (k b : Tok) (s : List Sym) (c : Candidate) →
      T q k b s → walk A q s ≡ Some p → Free (A.candidates p b) c → Outside c s → S q k b s

-- none of the faults: each token is shifted, something is always taken, and reductions come to an end
pub record IsFine (A : Automaton) (P : ℕ → Tok → Tok → Type 0) (T : ℕ → Tok → Tok → List Sym → Type 0) : Type 0 where
  pub shifts : (q : ℕ) (k b : Tok) → P q k b → (p : ℕ) × (A.go q (grammar_symbol.Tok k) ≡ Some p)
  pub takes : (q p : ℕ) (k b : Tok) (s : List Sym) → T q k b s → walk A q s ≡ Some p → CanBlock (A.candidates p b) → ⊥
  pub ends : (q : ℕ) (k b : Tok) (s : List Sym) → T q k b s → Calms A q b s

-- the same of marks, as a program keeps them
abbrev pub marked : (ℕ → Tok → Tok → Bool) → ℕ → Tok → Tok → Type 0
marked m q k b = m q k b ≡ true

abbrev pub marked_at : (ℕ → Tok → Tok → List Sym → Bool) → ℕ → Tok → Tok → List Sym → Type 0
marked_at m q k b s = m q k b s ≡ true

abbrev pub ClosedIsEnough : Type 0
ClosedIsEnough =
    (A : Automaton) (places : ℕ → Tok → Tok → Bool) (settlings sums : ℕ → Tok → Tok → List Sym → Bool) →
    IsClosed A (marked places) (marked_at settlings) (marked_at sums) → IsFine A (marked places) (marked_at settlings) → NoFault A
