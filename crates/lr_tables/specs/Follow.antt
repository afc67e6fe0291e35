-- What may come behind a class: a least set over whole rules.
use Rattle.std.specs.Prelude.{◌≡◌, ℕ, ◌+◌, List, Some, length, slice_get}
use Rattle.tree_core.specs.declared.token.Tok.{Tok}
use Rattle.tree_core.specs.declared.token.Tok.TheVariants as tok
use Rattle.md_reader.specs.declared.types.Rule.{Rule}
use Rattle.md_reader.specs.declared.types.Sym.{Sym}
use Rattle.md_reader.specs.declared.types.Sym.TheVariants as grammar_symbol

-- what the symbol stands for may begin with the token
pub data Starts (rules : List Rule) : Sym → Tok → Type 0 where
  itself : {t : Tok} → Starts rules (grammar_symbol.Tok t) t
  by_rule : {c : ℕ} {t : Tok} {X : Sym} (n : ℕ) (r : Rule) →
      slice_get rules n ≡ Some r → r.left ≡ c → slice_get r.right 0 ≡ Some X → Starts rules X t →
      Starts rules (grammar_symbol.Class c) t

-- the token may come behind the class
pub data Follow (rules : List Rule) (stmt : ℕ) : ℕ → Tok → Type 0 where
  -- behind the class of statements comes the end
  at_end : Follow rules stmt stmt tok.End
  -- what begins the next symbol of a right side
  within : {c : ℕ} {t : Tok} {X : Sym} (n k : ℕ) (r : Rule) →
      slice_get rules n ≡ Some r → slice_get r.right k ≡ Some (grammar_symbol.Class c) → slice_get r.right (k + 1) ≡ Some X
      → Starts rules X t →
      Follow rules stmt c t
  -- behind the last symbol, what comes behind the rule's own class
  behind : {c d : ℕ} {t : Tok} (n k : ℕ) (r : Rule) →
      slice_get rules n ≡ Some r → slice_get r.right k ≡ Some (grammar_symbol.Class c) → k + 1 ≡ length r.right → r.left ≡ d
      → Follow rules stmt d t →
      Follow rules stmt c t
