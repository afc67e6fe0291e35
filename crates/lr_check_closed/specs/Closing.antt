-- When rows are closed under the rules by which the sets are made.
use Rattle.std.specs.Prelude.{◌≡◌, ℕ, ◌+◌, ◌*◌, ◌<◌, List, [], ◌∷◌, Some, Contains, length, slice_get}
use Rattle.tree_core.specs.declared.token.Tok.{Tok}
use Rattle.tree_core.specs.declared.token.Tok.TheVariants as tok
use Rattle.tree_core.specs.declared.token.Sort.TheVariants as sort
use Rattle.tree_core.specs.Grammar.{kids}
use Rattle.md_reader.specs.declared.types.Sym.{Sym}
use Rattle.md_reader.specs.declared.types.Sym.TheVariants as grammar_symbol
use Rattle.lr_tables.specs.Symbols.{number}
use Rattle.lr_check_found.specs.lr_check_sets.specs.Trees.{May}
use Rattle.lr_check_found.specs.lr_check_sets.specs.Automaton.{Automaton, Production, Candidate, reduce, size_of, Free, reduced, Outside}
use Rattle.lr_check_found.specs.Lists.{ListsView, IsList}
use Rattle.lr_check_ways.specs.Sets.{In}
use Rattle.lr_check_ways.specs.declared.ways.Reduction.{Reduction}
use Rattle.lr_check_rows.specs.declared.rows.Line.{Line}
use Rattle.lr_check_rows.specs.declared.rows.Row.{Row}
use Rattle.lr_check_closed.specs.Sets.{HasPlace, HasLine}
use Rattle.lr_check_closed.specs.Kids.{KidsIn}

-- what follows from the reduction at a line whose list has so many symbols: its class settles too where it is of the whole list, and where
-- it leads out of the list, this is a sum
pub record IsFollowed (v : ListsView) (r : Row) (l : Line) (size : ℕ) (x : Reduction) : Type 0 where
  pub whole : x.long ≡ size → (b : Tok) → In l.settled b → In x.tokens b → HasLine v r b (grammar_symbol.Class x.class ∷ [])
  pub out : size < x.long → (b : Tok) → In l.settled b → In x.tokens b → In l.sums b

-- reductions of the line's whole list settle too, and what leads out of it is a sum
pub record IsLineClosed (A : Automaton) (v : ListsView) (r : Row) (l : Line) : Type 0 where
  pub settles : (p : ℕ) (b : Tok) (s : List Sym) (x : Production) → l.behind ≡ Some p → In l.settled b → IsList v l.list s
      → Free (A.candidates p b) (reduce x) → size_of x ≡ length s → HasLine v r b (reduced x s)
  pub sums : (p : ℕ) (b : Tok) (s : List Sym) (c : Candidate) → l.behind ≡ Some p → In l.settled b → IsList v l.list s
      → Free (A.candidates p b) c → Outside c s → In l.sums b

pub record IsRowClosed (A : Automaton) (v : ListsView) (rows : List Row) (r : Row) : Type 0 where
  pub kids : (b : Tok) (p : ℕ) → In r.places b → A.go r.state (grammar_symbol.Tok r.token) ≡ Some p → KidsIn v rows r p (kids r.token)
  pub lines : (l : Line) → Contains r.lines.items l → IsLineClosed A v r l

-- a statement that begins with the token has its place in the first state, if there are such
pub record IsStarted (rows : List Row) (k : Tok) : Type 0 where
  pub place : May k sort.Stmt → HasPlace rows 0 k tok.End

-- the row stands where its state and token say
abbrev pub StandsAt : ℕ → Row → Type 0
StandsAt n r = n ≡ r.state * 40 + number r.token

-- so does the row with the number, and it is closed
pub record IsClosedAt (A : Automaton) (v : ListsView) (rows : List Row) (n : ℕ) : Type 0 where
  pub stands : (r : Row) → slice_get rows n ≡ Some r → StandsAt n r
  pub closed : (r : Row) → slice_get rows n ≡ Some r → IsRowClosed A v rows r
