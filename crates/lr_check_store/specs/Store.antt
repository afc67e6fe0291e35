-- A store of what was found of the sets: rows by state and token, the lists of symbols, and what some answers take at each state.
use Rattle.std.specs.Prelude.{◌≡◌, ◌⊎◌, ℕ, ◌+◌, ◌*◌, ◌<◌, List, Contains, Some, slice_get}
use Rattle.tree_core.specs.declared.token.Tok.{Tok}
use Rattle.md_reader.specs.declared.types.Sym.{Sym}
use Rattle.lr_tables.specs.Symbols.{number}
use Rattle.lr_check_found.specs.lr_check_sets.specs.Automaton.{Automaton}
use Rattle.lr_check_found.specs.Lists.{ListsView, IsList, AreLists}
use Rattle.lr_check_ways.specs.Sets.{In}
use Rattle.lr_check_ways.specs.Ways.{AreWays}
use Rattle.lr_check_ways.specs.declared.ways.Reduction.{Reduction}
use Rattle.lr_check_ways.specs.declared.ways.Ways.{Ways}
use Rattle.lr_check_rows.specs.declared.rows.Line.{Line}
use Rattle.lr_check_rows.specs.declared.rows.Row.{Row}
use Rattle.lr_check_rows.specs.Rows.{IsRow}

-- the rows by state and token, and the ways by state
pub record StoreView : Type 0 where
  pub lists : ListsView
  pub rows : List Row
  pub ways : List Ways

-- where a row stands: there are 40 tokens
abbrev pub slot : ℕ → Tok → ℕ
slot q k = q * 40 + number k

-- no two lines have the same list
abbrev pub AreApart : List Line → Type 0
AreApart lines = (i j : ℕ) (l m : Line) → slice_get lines i ≡ Some l → slice_get lines j ≡ Some m → l.list ≡ m.list → i ≡ j

-- all that is held is in the least sets, and each row stands in its place
pub record IsSound (A : Automaton) (s : StoreView) : Type 0 where
  pub lists : AreLists s.lists
  pub rows : (r : Row) → Contains s.rows r → IsRow A s.lists r
  pub placed : (n : ℕ) (r : Row) → slice_get s.rows n ≡ Some r → n ≡ slot r.state r.token
  pub apart : (r : Row) → Contains s.rows r → AreApart r.lines.items
  pub ways : (q : ℕ) (w : Ways) → slice_get s.ways q ≡ Some w → AreWays A q w

-- the row of the state and the token
pub record IsRowAt (s : StoreView) (q : ℕ) (k : Tok) (r : Row) : Type 0 where
  pub there : Contains s.rows r
  pub state : r.state ≡ q
  pub token : r.token ≡ k

-- the line of the row has the list
pub record IsLineOf (s : StoreView) (r : Row) (l : Line) (xs : List Sym) : Type 0 where
  pub there : Contains r.lines.items l
  pub list : IsList s.lists l.list xs

-- the places, settlings and sums that are held
pub record IsPlaceIn (s : StoreView) (q : ℕ) (k b : Tok) : Type 0 where
  pub row : Row
  pub at : IsRowAt s q k row
  pub has : In row.places b

pub record IsSettlingIn (s : StoreView) (q : ℕ) (k b : Tok) (xs : List Sym) : Type 0 where
  pub row : Row
  pub at : IsRowAt s q k row
  pub line : Line
  pub of : IsLineOf s row line xs
  pub has : In line.settled b

pub record IsSumIn (s : StoreView) (q : ℕ) (k b : Tok) (xs : List Sym) : Type 0 where
  pub row : Row
  pub at : IsRowAt s q k row
  pub line : Line
  pub of : IsLineOf s row line xs
  pub has : In line.sums b

-- a reduction of the ways by a right side longer than so many symbols, with the token next
pub record IsLonger (w : Ways) (size : ℕ) (b : Tok) : Type 0 where
  pub reduction : Reduction
  pub there : Contains w.reductions.items reduction
  pub longer : size < reduction.long
  pub has : In reduction.tokens b

-- some way leads out of a list of so many symbols, with the token next
abbrev pub IsOut : Ways → ℕ → Tok → Type 0
IsOut w size b = In w.shifts b ⊎ IsLonger w size b
