-- The places at which a subtree may begin, and the lists of symbols that may replace it: least sets, made
-- together. A list has its last symbol first.
use Rattle.std.specs.Prelude.{◌≡◌, ℕ, List, [], ◌∷◌, ◌++◌, Some, length}
use Rattle.tree_core.specs.declared.token.Tok.{Tok}
use Rattle.tree_core.specs.declared.token.Tok.TheVariants as tok
use Rattle.tree_core.specs.declared.token.Sort.{Sort}
use Rattle.tree_core.specs.declared.token.Sort.TheVariants as sort
use Rattle.tree_core.specs.Grammar.{kids}
use Rattle.md_reader.specs.declared.types.Sym.{Sym}
use Rattle.md_reader.specs.declared.types.Sym.TheVariants as grammar_symbol
use Rattle.lr_check_sets.specs.Trees.{May, Begins}
use Rattle.lr_check_sets.specs.Automaton.{Automaton, Production, Candidate, reduce, walk, size_of, Free, reduced, Outside}

mutual
  -- a subtree that begins with k may begin in state q, with t as the token behind it
  pub data Place (A : Automaton) : ℕ → Tok → Tok → Type 0 where
    at_start : {k : Tok} → May k sort.Stmt → Place A 0 k tok.End
    at_kid : {q : ℕ} {k t : Tok} {s : List Sym} {x : Sort} {xs : List Sort} {n : Tok} {p : ℕ} {m : Tok} →
        Partly A q k t s (x ∷ xs) n → walk A q s ≡ Some p → Begins xs t m →
        Place A p n m

  -- of that subtree the list s is there, kids of these sorts are to come, and n is the next token
  pub data Partly (A : Automaton) : ℕ → Tok → Tok → List Sym → List Sort → Tok → Type 0 where
    opened : {q : ℕ} {k t : Tok} {p : ℕ} {n : Tok} →
        Place A q k t → A.go q (grammar_symbol.Tok k) ≡ Some p → Begins (kids k) t n →
        Partly A q k t (grammar_symbol.Tok k ∷ []) (kids k) n
    with_kid : {q : ℕ} {k t : Tok} {s : List Sym} {x : Sort} {xs : List Sort} {n : Tok} {p : ℕ} {m : Tok} {s' : List Sym} →
        Partly A q k t s (x ∷ xs) n → walk A q s ≡ Some p → Begins xs t m → Sum A p n m s' →
        Partly A q k t (s' ++ s) xs m

  -- all kids are in, and perhaps reductions of the whole list were made
  pub data Settling (A : Automaton) : ℕ → Tok → Tok → List Sym → Type 0 where
    whole : {q : ℕ} {k t : Tok} {s : List Sym} →
        Partly A q k t s [] t →
        Settling A q k t s
    settled : {q : ℕ} {k t : Tok} {s : List Sym} {p : ℕ} (r : Production) →
        Settling A q k t s → walk A q s ≡ Some p → Free (A.candidates p t) (reduce r) → size_of r ≡ length s →
        Settling A q k t (reduced r s)

  -- the list replaces the subtree: some free choice leads out of it
  pub data Sum (A : Automaton) : ℕ → Tok → Tok → List Sym → Type 0 where
    sum : {q : ℕ} {k t : Tok} {s : List Sym} {p : ℕ} (c : Candidate) →
        Settling A q k t s → walk A q s ≡ Some p → Free (A.candidates p t) c → Outside c s →
        Sum A q k t s
