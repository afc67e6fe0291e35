-- What rows hold, as sets of places, of settlings and of sums.
use Rattle.std.specs.Prelude.{◌≡◌, ℕ, ◌+◌, ◌*◌, List, Some, Contains, slice_get}
use Rattle.tree_core.specs.declared.token.Tok.{Tok}
use Rattle.md_reader.specs.declared.types.Sym.{Sym}
use Rattle.lr_tables.specs.Symbols.{number}
use Rattle.lr_check_found.specs.Lists.{ListsView, IsList}
use Rattle.lr_check_ways.specs.Sets.{In}
use Rattle.lr_check_rows.specs.declared.rows.Line.{Line}
use Rattle.lr_check_rows.specs.declared.rows.Row.{Row}

-- the row of the state and the token: there are 40 tokens
abbrev pub IsRowAt : List Row → ℕ → Tok → Row → Type 0
IsRowAt rows q k r = slice_get rows (q * 40 + number k) ≡ Some r

pub record HasPlace (rows : List Row) (q : ℕ) (k b : Tok) : Type 0 where
  pub row : Row
  pub at : IsRowAt rows q k row
  pub behind : In row.places b

-- the list settles at the row with the token behind
pub record HasLine (v : ListsView) (r : Row) (b : Tok) (s : List Sym) : Type 0 where
  pub line : Line
  pub there : Contains r.lines.items line
  pub list : IsList v line.list s
  pub settled : In line.settled b

pub record HasSettling (v : ListsView) (rows : List Row) (q : ℕ) (k b : Tok) (s : List Sym) : Type 0 where
  pub row : Row
  pub at : IsRowAt rows q k row
  pub line : HasLine v row b s

pub record HasSum (v : ListsView) (rows : List Row) (q : ℕ) (k b : Tok) (s : List Sym) : Type 0 where
  pub row : Row
  pub at : IsRowAt rows q k row
  pub line : Line
  pub there : Contains row.lines.items line
  pub list : IsList v line.list s
  pub sum : In line.sums b
