-- Right sides are linearised tree patterns.
use Rattle.std.specs.Prelude.{◌≡◌, ℕ, zero, suc, ◌+◌, List, [], ◌∷◌, Option, Some, None, Contains, length, reverse}
use Rattle.md_reader.specs.declared.types.Sym.{Sym}
use Rattle.md_reader.specs.declared.types.Sym.TheVariants as grammar_symbol
use Rattle.tree_core.specs.Grammar.{kids}
use Rattle.lr_check_sets.specs.Automaton.{Production}

-- the trees that a symbol takes as kids
abbrev pub arity : Sym → ℕ
arity (grammar_symbol.Tok k) = length (kids k)
arity (grammar_symbol.Class c) = 0

-- one of the trees that are wanted begins with the symbol
abbrev pub wanted_behind : Sym → Option ℕ → Option ℕ
wanted_behind X None = None
wanted_behind X (Some zero) = None
wanted_behind X (Some (suc n)) = Some (arity X + n)

-- the trees still wanted where n were wanted before the list, the last symbol of which stands first
abbrev pub wanted : ℕ → List Sym → Option ℕ
wanted n [] = Some n
wanted n (X ∷ s) = wanted_behind X (wanted n s)

-- the list is one tree
abbrev pub IsTree : List Sym → Type 0
IsTree s = wanted 1 s ≡ Some 0

abbrev pub HasTrees : List Production → Type 0
HasTrees G = (r : Production) → Contains G r → IsTree (reverse r.right)
