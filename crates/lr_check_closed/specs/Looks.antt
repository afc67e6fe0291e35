-- What is looked at.
use Rattle.std.specs.Prelude.{◌≡◌, ℕ, Some, Contains, slice_get}
use Rattle.lr_check_found.specs.lr_check_sets.specs.Automaton.{Automaton}
use Rattle.lr_check_found.specs.lr_check_sets.specs.Table.{automaton_of}
use Rattle.lr_check_found.specs.Lists.{AreLists}
use Rattle.lr_check_ways.specs.declared.ways.Ways.{Ways}
use Rattle.lr_check_ways.specs.Ways.{AreWays}
use Rattle.lr_check_rows.specs.declared.rows.Row.{Row}
use Rattle.lr_check_rows.specs.Rows.{IsRow}
use Rattle.lr_check_closed.specs.declared.look.Look.{Look}

-- the automaton of the tables
abbrev pub automaton : Look → Automaton
automaton l = automaton_of l.tables.now

-- the lists are lists, all that the rows hold is in the least sets, and the ways are those of the states
pub record IsSound (l : Look) : Type 0 where
  pub lists : AreLists l.lists.now
  pub rows : (r : Row) → Contains l.rows.now r → IsRow (automaton l) l.lists.now r
  pub ways : (q : ℕ) (w : Ways) → slice_get l.ways.now q ≡ Some w → AreWays (automaton l) q w
