-- What follows from a store, and what it is when it holds more.
use Rattle.std.specs.Prelude.{◌≡◌, ℕ, List, [], ◌∷◌, ◌++◌, Option, Some, slice_get, slice_set, slice_index_or, length}
use Rattle.tree_core.specs.declared.token.Tok.{Tok}
use Rattle.md_reader.specs.declared.types.Sym.{Sym}
use Rattle.md_reader.specs.declared.types.Sym.TheVariants as grammar_symbol
use Rattle.lr_check_found.specs.lr_check_sets.specs.Automaton.{Automaton, walk}
use Rattle.lr_check_found.specs.Lists.{IsList}
use Rattle.lr_check_ways.specs.declared.ways.Ways.{Ways}
use Rattle.lr_check_rows.specs.declared.rows.Line.{Line}
use Rattle.lr_check_rows.specs.declared.rows.Row.{Row}
use Rattle.lr_check_rows.specs.Rows.{AreSettled}
use Rattle.lr_check_store.specs.Store.{StoreView, AreApart, IsOut}
use Rattle.lr_check_store.specs.Holding.{HasPlaces, HasLine}
use Rattle.lr_check_store.specs.declared.made.Made.{Made}

-- the row with the number is that of the state and the token
pub record StandsAt (s : StoreView) (n q : ℕ) (k : Tok) : Type 0 where
  pub row : Row
  pub there : slice_get s.rows n ≡ Some row
  pub state : row.state ≡ q
  pub token : row.token ≡ k

-- some way leads out of the list with the number, which leads to the state, with the token next
pub record HasOut (s : StoreView) (list : ℕ) (behind : Option ℕ) (b : Tok) : Type 0 where
  pub state : ℕ
  pub at : behind ≡ Some state
  pub ways : Ways
  pub there : slice_get s.ways state ≡ Some ways
  pub out : IsOut ways (length (slice_index_or s.lists.all list [])) b

-- the list with the number settles at the row with the number, with each of the tokens behind, and leads to the state
pub record IsToHold (A : Automaton) (s : StoreView) (n l : ℕ) (o : Option ℕ) (set : ℕ) : Type 0 where
  pub row : Row
  pub there : slice_get s.rows n ≡ Some row
  pub symbols : List Sym
  pub list : IsList s.lists l symbols
  pub behind : o ≡ walk A row.state symbols
  pub settled : AreSettled A row.state row.token symbols set

-- so do the lists with the numbers on top of each other, behind the token
pub record IsMade (A : Automaton) (s : StoreView) (n set : ℕ) (m : Made) : Type 0 where
  pub row : Row
  pub there : slice_get s.rows n ≡ Some row
  pub token : m.token ≡ row.token
  pub upper : List Sym
  pub lower : List Sym
  pub is_upper : IsList s.lists m.upper upper
  pub is_lower : IsList s.lists m.lower lower
  pub behind : m.behind ≡ walk A row.state (upper ++ (lower ++ (grammar_symbol.Tok row.token ∷ [])))
  pub settled : AreSettled A row.state row.token (upper ++ (lower ++ (grammar_symbol.Tok row.token ∷ []))) set

-- so does the class alone at the row, which is one of the state
pub record IsReducedAt (A : Automaton) (s : StoreView) (n class set q : ℕ) : Type 0 where
  pub row : Row
  pub there : slice_get s.rows n ≡ Some row
  pub state : row.state ≡ q
  pub settled : AreSettled A row.state row.token (grammar_symbol.Class class ∷ []) set

-- the row with the number has places with these tokens behind, too
pub record PutsPlaces (s t : StoreView) (n set : ℕ) : Type 0 where
  pub old : Row
  pub new : Row
  pub there : slice_get s.rows n ≡ Some old
  pub rows : t.rows ≡ slice_set s.rows n new
  pub lists : t.lists ≡ s.lists
  pub ways : t.ways ≡ s.ways
  pub has : HasPlaces old new set

-- the row with the number has the line, too
pub record PutsLine (s t : StoreView) (n : ℕ) (l : Line) : Type 0 where
  pub old : Row
  pub new : Row
  pub there : slice_get s.rows n ≡ Some old
  pub rows : t.rows ≡ slice_set s.rows n new
  pub lists : t.lists ≡ s.lists
  pub ways : t.ways ≡ s.ways
  pub has : HasLine old new l
  pub apart : AreApart old.lines.items → AreApart new.lines.items
