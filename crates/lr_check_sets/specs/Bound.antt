-- The parse ends within a number of steps, whatever questions answer.
use Rattle.std.specs.Prelude.{◌≡◌, ℕ, suc, ◌<◌, List, [], ◌∷◌, Some, Contains}
use Rattle.tree_core.specs.declared.token.Tok.{Tok}
use Rattle.tree_core.specs.declared.token.Tok.TheVariants as tok
use Rattle.md_reader.specs.declared.types.Sym.{Sym}
use Rattle.md_reader.specs.declared.types.Sym.TheVariants as grammar_symbol
use Rattle.lr_check_sets.specs.Automaton.{Automaton, Production, Candidate, walk, Free, CanBlock, stack_after, rest_after}

-- at most n shifts and reductions lead to accepting, whatever questions answer
pub data Within (A : Automaton) : ℕ → List Sym → List Tok → Type 0 where
  accepted : {n : ℕ} → Within A n (grammar_symbol.Class A.stmt ∷ []) (tok.End ∷ [])
  steps : {n : ℕ} {a : List Sym} {t : Tok} {w : List Tok} {p : ℕ} →
      walk A 0 a ≡ Some p → (CanBlock (A.candidates p t) → ⊥) →
      ((c : Candidate) → Free (A.candidates p t) c → Within A n (stack_after c t a) (rest_after c t w)) →
      Within A (suc n) a (t ∷ w)

-- the classes are the numbers below k
abbrev pub HasClasses : List Production → ℕ → Type 0
HasClasses G k = (r : Production) → Contains G r → r.left < k
