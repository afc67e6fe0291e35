-- The same two sets where reductions of any part of the list may follow, and not of the whole list alone.
use Rattle.std.specs.Prelude.{◌≡◌, ℕ, ◌≤◌, List, [], ◌∷◌, ◌++◌, Some, length}
use Rattle.tree_core.specs.declared.token.Tok.{Tok}
use Rattle.tree_core.specs.declared.token.Tok.TheVariants as tok
use Rattle.tree_core.specs.declared.token.Sort.{Sort}
use Rattle.tree_core.specs.declared.token.Sort.TheVariants as sort
use Rattle.tree_core.specs.Grammar.{kids}
use Rattle.md_reader.specs.declared.types.Sym.{Sym}
use Rattle.md_reader.specs.declared.types.Sym.TheVariants as grammar_symbol
use Rattle.lr_check_sets.specs.Trees.{May, Begins}
use Rattle.lr_check_sets.specs.Automaton.{Automaton, Production, Candidate, reduce, walk, size_of, Free, reduced, Outside}
use Rattle.lr_check_sets.specs.Items.{IsAutomatonOf, HasNoEnd, HasNoEmpty}
use Rattle.lr_check_sets.specs.Shapes.{HasTrees}
use Rattle.lr_check_sets.specs.Sums.{Place, Sum}

mutual
  pub data LoosePlace (A : Automaton) : ℕ → Tok → Tok → Type 0 where
    loose_start : {k : Tok} → May k sort.Stmt → LoosePlace A 0 k tok.End
    loose_kid : {q : ℕ} {k t : Tok} {s : List Sym} {x : Sort} {xs : List Sort} {n : Tok} {p : ℕ} {m : Tok} →
        LoosePartly A q k t s (x ∷ xs) n → walk A q s ≡ Some p → Begins xs t m →
        LoosePlace A p n m

  pub data LoosePartly (A : Automaton) : ℕ → Tok → Tok → List Sym → List Sort → Tok → Type 0 where
    loose_opened : {q : ℕ} {k t : Tok} {p : ℕ} {n : Tok} →
        LoosePlace A q k t → A.go q (grammar_symbol.Tok k) ≡ Some p → Begins (kids k) t n →
        LoosePartly A q k t (grammar_symbol.Tok k ∷ []) (kids k) n
    loose_with_kid : {q : ℕ} {k t : Tok} {s : List Sym} {x : Sort} {xs : List Sort} {n : Tok} {p : ℕ} {m : Tok} {s' : List Sym} →
        LoosePartly A q k t s (x ∷ xs) n → walk A q s ≡ Some p → Begins xs t m → LooseSum A p n m s' →
        LoosePartly A q k t (s' ++ s) xs m

  pub data LooseSettling (A : Automaton) : ℕ → Tok → Tok → List Sym → Type 0 where
    loose_whole : {q : ℕ} {k t : Tok} {s : List Sym} →
        LoosePartly A q k t s [] t →
        LooseSettling A q k t s
    -- the right side is a part of the list
    loose_settled : {q : ℕ} {k t : Tok} {s : List Sym} {p : ℕ} (r : Production) →
        LooseSettling A q k t s → walk A q s ≡ Some p → Free (A.candidates p t) (reduce r) → size_of r ≤ length s →
        LooseSettling A q k t (reduced r s)

  pub data LooseSum (A : Automaton) : ℕ → Tok → Tok → List Sym → Type 0 where
    loose_sum : {q : ℕ} {k t : Tok} {s : List Sym} {p : ℕ} (c : Candidate) →
        LooseSettling A q k t s → walk A q s ≡ Some p → Free (A.candidates p t) c → Outside c s →
        LooseSum A q k t s

-- the two pairs of sets are the same
pub record SameSets (A : Automaton) : Type 0 where
  pub places : (q : ℕ) (k t : Tok) → LoosePlace A q k t → Place A q k t
  pub places_back : (q : ℕ) (k t : Tok) → Place A q k t → LoosePlace A q k t
  pub sums : (q : ℕ) (k t : Tok) (s : List Sym) → LooseSum A q k t s → Sum A q k t s
  pub sums_back : (q : ℕ) (k t : Tok) (s : List Sym) → Sum A q k t s → LooseSum A q k t s

-- reductions of parts are no loss, where the automaton is that of rules whose right sides are trees
abbrev pub WholeIsEnough : Type 0
WholeIsEnough =
    (G : List Production) (A : Automaton) → HasNoEnd G → HasNoEmpty G → HasTrees G → IsAutomatonOf G A → SameSets A
