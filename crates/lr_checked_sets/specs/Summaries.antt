-- The places at which a subtree may begin, and the lists of symbols that may replace it: least sets over whole stacks, made together, which
-- know no table and no number of a state. Stacks and lists have their last symbol first.
use Rattle.std.specs.Prelude.{◌≡◌, ℕ, List, [], ◌∷◌, ◌++◌, map, length}
use Rattle.lr_check_found.specs.tree_core.specs.declared.token.Tok.{Tok}
use Rattle.lr_check_found.specs.tree_core.specs.declared.token.Tok.TheVariants as tok
use Rattle.lr_check_found.specs.tree_core.specs.declared.token.Sort.{Sort}
use Rattle.lr_check_found.specs.tree_core.specs.declared.token.Sort.TheVariants as sort
use Rattle.lr_check_found.specs.tree_core.specs.Grammar.{kids}
use Rattle.lr_check_found.specs.md_reader.specs.declared.types.Rule.{Rule}
use Rattle.lr_check_found.specs.md_reader.specs.declared.types.Sym.{Sym}
use Rattle.lr_check_found.specs.md_reader.specs.declared.types.Sym.TheVariants as grammar_symbol
use Rattle.lr_checked.specs.lr_tables.specs.declared.item.Item.{Item}
use Rattle.lr_checked.specs.lr_tables.specs.declared.types.Choice.TheVariants as choice
use Rattle.lr_checked.specs.lr_tables.specs.Items.{Items}
use Rattle.lr_checked.specs.lr_tables.specs.Candidates.{StandsBefore, AreReductions}
use Rattle.lr_check_found.specs.lr_check_sets.specs.Trees.{May, Begins}
use Rattle.lr_check_found.specs.lr_check_sets.specs.Automaton.{Production, Candidate, shift, reduce, size_of, Free, reduced, Outside}
use Rattle.lr_check_found.specs.lr_check_sets.specs.Table.{candidates_of}

-- an item is valid for the stack
abbrev pub IsLive : List Rule → ℕ → List Sym → Type 0
IsLive rules stmt a = (i : Item) × Items rules stmt a i

-- what may be done at a stack and a next token: the shift alone, or the reductions in order
pub data Choices (rules : List Rule) (stmt : ℕ) (a : List Sym) (t : Tok) : List Candidate → Type 0 where
  the_shift : StandsBefore rules stmt a (grammar_symbol.Tok t) → Choices rules stmt a t (shift ∷ [])
  the_reductions : (ns : List ℕ) → (StandsBefore rules stmt a (grammar_symbol.Tok t) → ⊥) → AreReductions rules stmt a t ns
      → Choices rules stmt a t (candidates_of rules (map choice.Reduce ns))

-- some answers take this candidate there
pub record IsFree (rules : List Rule) (stmt : ℕ) (a : List Sym) (t : Tok) (c : Candidate) : Type 0 where
  pub candidates : List Candidate
  pub are : Choices rules stmt a t candidates
  pub free : Free candidates c

mutual
  -- a subtree that begins with k may begin at the stack, with t as the token behind it
  pub data Place (rules : List Rule) (stmt : ℕ) : List Sym → Tok → Tok → Type 0 where
    at_start : {k : Tok} → May k sort.Stmt → Place rules stmt [] k tok.End
    at_kid : {a : List Sym} {k t : Tok} {s : List Sym} {x : Sort} {xs : List Sort} {n m : Tok} →
        Partly rules stmt a k t s (x ∷ xs) n → IsLive rules stmt (s ++ a) → Begins xs t m →
        Place rules stmt (s ++ a) n m

  -- of that subtree the list s is there, kids of these sorts are to come, and n is the next token
  pub data Partly (rules : List Rule) (stmt : ℕ) : List Sym → Tok → Tok → List Sym → List Sort → Tok → Type 0 where
    opened : {a : List Sym} {k t n : Tok} →
        Place rules stmt a k t → StandsBefore rules stmt a (grammar_symbol.Tok k) → Begins (kids k) t n →
        Partly rules stmt a k t (grammar_symbol.Tok k ∷ []) (kids k) n
    with_kid : {a : List Sym} {k t : Tok} {s : List Sym} {x : Sort} {xs : List Sort} {n m : Tok} {s' : List Sym} →
        Partly rules stmt a k t s (x ∷ xs) n → IsLive rules stmt (s ++ a) → Begins xs t m → Summary rules stmt (s ++ a) n m s' →
        Partly rules stmt a k t (s' ++ s) xs m

  -- all kids are in, and perhaps reductions of the whole list were made
  pub data Settling (rules : List Rule) (stmt : ℕ) : List Sym → Tok → Tok → List Sym → Type 0 where
    whole : {a : List Sym} {k t : Tok} {s : List Sym} →
        Partly rules stmt a k t s [] t →
        Settling rules stmt a k t s
    settled : {a : List Sym} {k t : Tok} {s : List Sym} (r : Production) →
        Settling rules stmt a k t s → IsLive rules stmt (s ++ a) → IsFree rules stmt (s ++ a) t (reduce r) → size_of r ≡ length s →
        Settling rules stmt a k t (reduced r s)

  -- the list replaces the subtree: some free choice leads out of it
  pub data Summary (rules : List Rule) (stmt : ℕ) : List Sym → Tok → Tok → List Sym → Type 0 where
    summary : {a : List Sym} {k t : Tok} {s : List Sym} (c : Candidate) →
        Settling rules stmt a k t s → IsLive rules stmt (s ++ a) → IsFree rules stmt (s ++ a) t c → Outside c s →
        Summary rules stmt a k t s
